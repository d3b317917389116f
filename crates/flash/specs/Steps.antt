-- Document 01, "Flash steps and cuts": which steps are accepted, and what a step makes of the flash.
use Rattle.std.specs.Prelude.{ℕ, ◌+◌, ◌-◌, Bool, cond, not, ◌&&◌, ◌||◌, List, [], ◌∷◌, ltb, leb, eqb, length, take, drop}
use Rattle.flash.specs.Bytes.{blank, overlay, write}
use Rattle.flash.specs.Geometry.{image_size, slot_size, aligned, unless, geometry_check}
use Rattle.flash.specs.declared.geometry.Geometry.{Geometry}
use Rattle.flash.specs.declared.steps.Step.{Step}
use Rattle.flash.specs.declared.steps.Step.TheVariants.{Erase, Copy, Byte, Mark}

abbrev pub within : ℕ → ℕ → ℕ → Bool
within at start k = leb start at && ltb at (start + k)

-- the start of a sector in the three areas
unfoldable pub sector_start : Geometry → ℕ → Bool
sector_start g at =
    aligned at g.size
    && (within at g.boot (slot_size g) || within at g.update (slot_size g) || within at g.swap g.size)

-- within a trailer sector
unfoldable pub trailer_byte : Geometry → ℕ → Bool
trailer_byte g at = within at (g.boot + image_size g) g.size || within at (g.update + image_size g) g.size

-- at a slot's last four bytes
unfoldable pub mark_place : Geometry → ℕ → Bool
mark_place g at = eqb at (g.boot + slot_size g - 4) || eqb at (g.update + slot_size g - 4)

abbrev pub accepted : Geometry → Step → Bool
accepted g (Erase at) = sector_start g at
accepted g (Copy from to) = sector_start g from && sector_start g to && not (eqb from to)
accepted g (Byte at v) = trailer_byte g at
accepted g (Mark at) = mark_place g at

-- the four closing bytes of a trailer
unfoldable pub closing : List ℕ
closing = 0x42 ∷ 0x4F ∷ 0x4F ∷ 0x54 ∷ []

-- the flash after a whole step
abbrev pub applied : Geometry → List ℕ → Step → List ℕ
applied g f (Erase at) = overlay f at (blank g.size)
applied g f (Copy from to) = write f to (take g.size (drop from f))
applied g f (Byte at v) = write f at (v ∷ [])
applied g f (Mark at) = write f at closing

-- carrying out: the number answered, and the flash that is left
unfoldable pub step_check : Geometry → ℕ → Step → ℕ
step_check g len s = unless (eqb (geometry_check g len) 0) (geometry_check g len) (unless (accepted g s) 24 0)

unfoldable pub flash_after : Geometry → List ℕ → Step → List ℕ
flash_after g f s = cond (eqb (step_check g (length f) s) 0) (applied g f s) f

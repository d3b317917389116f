-- Document 01, "Flash steps and cuts": what a power loss on a step may leave (the paper's word for it is a cut).
use Rattle.std.specs.Prelude.{ℕ, ◌+◌, ◌-◌, ◌<◌, Bool, true, false, ◌||◌, List, ◌⊎◌, ◌≡◌, eqb, length, drop, get_or}
use Rattle.compare.specs.Compare.{same}
use Rattle.flash.specs.Bytes.{overlay}
use Rattle.flash.specs.Geometry.{image_size}
use Rattle.flash.specs.Steps.{closing, applied}
use Rattle.flash.specs.declared.geometry.Geometry.{Geometry}
use Rattle.flash.specs.declared.steps.Step.{Step}
use Rattle.flash.specs.declared.steps.Step.TheVariants.{Erase, Copy, Byte, Mark}

abbrev pub Bytes : List ℕ → Type 0
Bytes l = (i : ℕ) → get_or l i 0 < 256

-- a trailer's last four bytes are the closing ones (sound is the paper's word)
unfoldable pub sound : List ℕ → Bool
sound t = same (drop (length t - 4) t) closing

-- the start of a trailer sector
abbrev pub trailer_start : Geometry → ℕ → Bool
trailer_start g at = eqb at (g.boot + image_size g) || eqb at (g.update + image_size g)

-- any bytes in the sector at an offset, and nothing else changed
pub record Torn (g : Geometry) (f : List ℕ) (at : ℕ) (f' : List ℕ) : Type 0 where
  pub left : List ℕ
  pub size : length left ≡ g.size
  pub bytes : Bytes left
  pub is : f' ≡ overlay f at left

-- f' is the flash that a cut on a step may leave of f; a cut erase, we assume, never leaves a trailer sound
abbrev pub Cut : Geometry → List ℕ → Step → List ℕ → Type 0
Cut g f (Erase at) f' = (t : Torn g f at f') × (trailer_start g at ≡ true → sound t.left ≡ false)
Cut g f (Copy from to) f' = Torn g f to f'
Cut g f (Byte at v) f' = (f' ≡ f) ⊎ (f' ≡ applied g f (Byte at v))
Cut g f (Mark at) f' = (f' ≡ f) ⊎ (f' ≡ applied g f (Mark at))

-- Document 01, "Geometry": the sectors of the three areas, and the images of the two slots.
use Rattle.std.specs.Prelude.{ℕ, ◌+◌, ◌*◌, ◌≤◌, List, ◌≡◌, length, take, drop}
use Rattle.flash.specs.Geometry.{image_size}
use Rattle.flash.specs.declared.geometry.Geometry.{Geometry}
use Rattle.slots.specs.declared.places.Place.{Place}
use Rattle.slots.specs.declared.places.Place.TheVariants.{Sector, Swap}
use Rattle.slots.specs.declared.places.Slot.{Slot}
use Rattle.slots.specs.declared.places.Slot.TheVariants.{Boot, Update}

-- where a slot starts, and where a sector does
abbrev pub start : Geometry → Slot → ℕ
start g Boot = g.boot
start g Update = g.update

unfoldable pub offset : Geometry → Place → ℕ
offset g (Sector s i) = start g s + i * g.size
offset g Swap = g.swap

-- p is a sector of g
abbrev pub Within : Geometry → Place → Type 0
Within g (Sector s i) = i ≤ g.count
Within g Swap = Unit {0}

-- the bytes of a sector
unfoldable pub bytes_at : Geometry → List ℕ → Place → List ℕ
bytes_at g f p = take g.size (drop (offset g p) f)

-- sector n of a slot is its trailer
abbrev pub trailer_of : Geometry → List ℕ → Slot → List ℕ
trailer_of g f s = bytes_at g f (Sector s g.count)

-- sectors 0 to n - 1 are its image
unfoldable pub image_of : Geometry → List ℕ → Slot → List ℕ
image_of g f s = take (image_size g) (drop (start g s) f)

-- a part is a sector's bytes, and as long
pub record SectorIs (g : Geometry) (l part : List ℕ) : Type 0 where
  pub is : part ≡ l
  pub size : length part ≡ g.size

-- Claims about the sectors of a geometry that is not refused: they lie inside the flash and apart, and what one step
-- makes of them.
use Rattle.std.specs.Prelude.{ℕ, ◌+◌, ◌-◌, ◌≤◌, ◌<◌, List, [], ◌∷◌, ◌≢◌, ◌≡◌, length}
use Rattle.flash.specs.Bytes.{blank, ands, write}
use Rattle.flash.specs.Changes.{Lies, Only}
use Rattle.flash.specs.Cuts.{Torn}
use Rattle.flash.specs.Geometry.{geometry_check}
use Rattle.flash.specs.Steps.{closing, applied}
use Rattle.flash.specs.Valid.{Apart}
use Rattle.flash.specs.declared.geometry.Geometry.{Geometry}
use Rattle.flash.specs.declared.steps.Step.TheVariants.{Erase, Copy, Byte, Mark}
use Rattle.slots.specs.Places.{offset, Within, bytes_at}
use Rattle.slots.specs.declared.places.Place.{Place}

-- what a step makes of the sector that it is about
pub record Stepped (g : Geometry) (f : List ℕ) (p : Place) : Type 0 where
  pub erased : bytes_at g (applied g f (Erase (offset g p))) p ≡ blank g.size
  pub copied : (q : Place) → Within g q → bytes_at g (applied g f (Copy (offset g q) (offset g p))) p ≡ ands (bytes_at g f p) (bytes_at g f q)
  pub one_byte : (k v : ℕ) → k < g.size → bytes_at g (applied g f (Byte (offset g p + k) v)) p ≡ write (bytes_at g f p) k (v ∷ [])
  pub marked : bytes_at g (applied g f (Mark (offset g p + (g.size - 4)))) p ≡ write (bytes_at g f p) (g.size - 4) closing
  pub torn : (f' : List ℕ) (t : Torn g f (offset g p) f') → bytes_at g f' p ≡ t.left

pub record Sectors (g : Geometry) (f : List ℕ) : Type 0 where
  pub inside : (p : Place) → Within g p → offset g p + g.size ≤ length f
  pub apart : (p q : Place) → Within g p → Within g q → p ≢ q → Apart (offset g p) g.size (offset g q) g.size
  pub stepped : (p : Place) → Within g p → Stepped g f p
  -- what changes only within one sector leaves every other one as it was
  pub others : (p : Place) → Within g p → (f' : List ℕ) (at k : ℕ) → Only f f' at k → Lies at k (offset g p) g.size
      → (q : Place) → Within g q → p ≢ q → bytes_at g f' q ≡ bytes_at g f q

abbrev pub OnePlace : Type 0
OnePlace = (g : Geometry) (f : List ℕ) → geometry_check g (length f) ≡ 0 → Sectors g f

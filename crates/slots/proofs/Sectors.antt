-- Sectors and images lie within the flash. Assumes nothing.
use Prim.Native.Nat.{ℕ, ◌+◌, ◌-◌, ◌≤◌}
use mathlib.Core.List.{List}
use mathlib.Core.Path.{◌≡◌, ap, ◌∙◌}
use native.Mathlib.Nat.{mul-le-mul_right, add-sub_cancel_left}
use native.Mathlib.Omega.{arith}
use lib.ListN.{length, take, drop}
use Rattle.flash.specs.Geometry.{slot_size}
use Rattle.flash.specs.Valid.{Valid}
use Rattle.flash.specs.declared.geometry.Geometry.{Geometry}
use Rattle.flash.proofs.Parts.{length_part}
use Rattle.slots.specs.Places.{start, offset, Within, bytes_at, SectorIs}
use Rattle.slots.specs.declared.places.Place.{Place}
use Rattle.slots.specs.declared.places.Place.TheVariants.{Sector, Swap}
use Rattle.slots.specs.declared.places.Slot.{Slot}
use Rattle.slots.specs.declared.places.Slot.TheVariants.{Boot, Update}

module _ (g : Geometry) (len : ℕ) (v : Valid g len) where
  pub slot_in : (s : Slot) → start g s + slot_size g ≤ len
  slot_in Boot = v.boot_in
  slot_in Update = v.update_in

  pub offset_in : (p : Place) → Within g p → offset g p + g.size ≤ len
  unfolding offset
  offset_in (Sector s i) h = omega (arith, mul-le-mul_right g.size h, slot_in s)
  offset_in Swap h = v.swap_in

-- a part from a to a + n
pub part_of : (f : List ℕ) (a n : ℕ) → take (a + n - a) (drop a f) ≡ take n (drop a f)
part_of f a n = rw (add-sub_cancel_left a n)

pub sector-is : (g : Geometry) (f : List ℕ) (p : Place) (part : List ℕ) → Valid g (length f) → Within g p → part ≡ bytes_at g f p
    → SectorIs g (bytes_at g f p) part
unfolding bytes_at
sector-is g f p part v w e =
    record { is = e; size = ap length e ∙ length_part f (offset g p) g.size (offset_in g (length f) v p w) }

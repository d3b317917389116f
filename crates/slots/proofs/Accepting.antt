-- The steps that are accepted are exactly those at the sectors of the geometry. Assumes nothing.
use Prim.Native.Nat.{ℕ, ◌+◌, ◌-◌, ◌*◌, ◌/◌, ◌%◌, ◌≤◌, ◌<◌}
use mathlib.Core.Bool.{true, not, ◌&&◌, ◌||◌}
use mathlib.Core.Logic.{⊎_elim, ◌≢◌}
use mathlib.Core.Path.{◌≡◌, refl, ap, ◌∙◌}
use native.Mathlib.Decide.{dec_lt}
use native.Mathlib.Nat.{add-mul, one-mul, div-add-mod', mul-le-mul_right, lt_of_mul-lt-mul_right, add-mul-mod_self_right}
use native.Mathlib.Omega.{arith}
use borrow.Author.Tests.{eqb-true, eqb-false, not-true, eq-eqb, ne_eqb, le-leb, lt-ltb}
use lib.Dec.{leb, ltb, eqb}
use Rattle.flash.specs.Geometry.{image_size, slot_size, aligned}
use Rattle.flash.specs.Steps.{within, sector_start, trailer_byte, mark_place, accepted}
use Rattle.flash.specs.Valid.{Valid}
use Rattle.flash.specs.declared.geometry.Geometry.{Geometry}
use Rattle.flash.specs.declared.steps.Step.TheVariants.{Copy, Byte, Mark}
use Rattle.compare.proofs.Tests.{and_left, and_right, and_both, or_cases, or_left, or_right}
use Rattle.flash.proofs.Areas.{valid}
use Rattle.flash.proofs.Targets.{within-is, start-on, by_area}
use Rattle.slots.specs.AtPlaces.{Starts, IntoTrailer, PlacesAccepted, AtPlaces}
use Rattle.slots.specs.Places.{start, offset, Within}
use Rattle.slots.specs.declared.places.Place.{Place}
use Rattle.slots.specs.declared.places.Place.TheVariants.{Sector, Swap}
use Rattle.slots.specs.declared.places.Slot.{Slot}
use Rattle.slots.specs.declared.places.Slot.TheVariants.{Boot, Update}

within_in : (at s k : ℕ) → s ≤ at → at < s + k → within at s k ≡ true
within_in at s k a b = and_both (leb s at) (ltb at (s + k)) (le-leb s at a) (lt-ltb at (s + k) b)

-- ---- multiples of the sector size

-- from one multiple of z to a later one is a number of sectors
sectors_on : (at s z : ℕ) → 0 < z → at % z ≡ 0 → s % z ≡ 0 → s ≤ at → (i : ℕ) × (at ≡ s + i * z)
sectors_on at s z p ea es h = go (dec_lt (at / z) (s / z))
  where
    da : at / z * z + at % z ≡ at
    da = div-add-mod' at z

    db : s / z * z + s % z ≡ s
    db = div-add-mod' s z

    go : Dec (at / z < s / z) → (i : ℕ) × (at ≡ s + i * z)
    go (yes l) =
        let m : (at / z + 1) * z ≤ s / z * z = mul-le-mul_right z (omega arith) in
        absurd (omega (arith, add-mul (at / z) 1 z, one-mul z, da, db))
    go (no l) =
        let i : ℕ = at / z - s / z in
        let e : i + s / z ≡ at / z = omega arith in
        let m : (i + s / z) * z ≡ at / z * z = ap (λ (x : ℕ). x * z) e in
        (i, omega (arith, add-mul i (s / z) z, da, db))

module _ (g : Geometry) (len : ℕ) (v : Valid g len) where
  abbrev z : ℕ
  z = g.size

  pos : 0 < z
  pos = omega (arith, v.shape.size-min)

  slot_on : (s : Slot) → start g s % z ≡ 0
  slot_on Boot = v.boot_on
  slot_on Update = v.update_on

  -- ---- sectors

  in_slot : (s : Slot) (at : ℕ) → at % z ≡ 0 → within at (start g s) (slot_size g) ≡ true → Starts g at
  unfolding offset
  in_slot s at e w =
      let b = within-is at (start g s) (slot_size g) w in
      let i = sectors_on at (start g s) z pos e (slot_on s) b.0 in
      let l : i.0 * z < (g.count + 1) * z = omega (arith, add-mul g.count 1 z, one-mul z, i.1, b.1) in
      let m : i.0 < g.count + 1 = lt_of_mul-lt-mul_right z l in
      (Sector s i.0, (omega arith, i.1))

  in_swap : (at : ℕ) → at % z ≡ 0 → within at g.swap z ≡ true → Starts g at
  unfolding offset
  in_swap at e w =
      let b = within-is at g.swap z w in
      let i = sectors_on at g.swap z pos e v.swap_on b.0 in
      let l : i.0 * z < 1 * z = omega (arith, one-mul z, i.1, b.1) in
      let m : i.0 < 1 = lt_of_mul-lt-mul_right z l in
      let n : i.0 * z ≡ 0 * z = ap (λ (x : ℕ). x * z) (omega arith) in
      (Swap, (tt, omega (arith, i.1)))

  erase-only : (at : ℕ) → sector_start g at ≡ true → Starts g at
  erase-only at e =
      let on = start-on g at e in
      by_area g at e (in_slot Boot at on) (in_slot Update at on) (in_swap at on)

  started : (p : Place) → Within g p → sector_start g (offset g p) ≡ true
  unfolding sector_start offset
  started (Sector s i) h = and_both (aligned o z) (within o g.boot (slot_size g) || within o g.update (slot_size g) || within o g.swap z)
      (eq-eqb (o % z) 0 (add-mul-mod_self_right (start g s) i z ∙ slot_on s))
      (or_left (within o g.boot (slot_size g) || within o g.update (slot_size g)) (within o g.swap z) (slot s here))
    where
      o : ℕ
      o = start g s + i * z

      here : within o (start g s) (slot_size g) ≡ true
      here = within_in o (start g s) (slot_size g) (omega arith) (omega (arith, mul-le-mul_right z h, pos))

      slot : (t : Slot) → within o (start g t) (slot_size g) ≡ true → (within o g.boot (slot_size g) || within o g.update (slot_size g)) ≡ true
      slot Boot w = or_left (within o g.boot (slot_size g)) (within o g.update (slot_size g)) w
      slot Update w = or_right (within o g.boot (slot_size g)) (within o g.update (slot_size g)) w
  started Swap h = and_both (aligned g.swap z)
      (within g.swap g.boot (slot_size g) || within g.swap g.update (slot_size g) || within g.swap g.swap z)
      (eq-eqb (g.swap % z) 0 v.swap_on)
      (or_right (within g.swap g.boot (slot_size g) || within g.swap g.update (slot_size g)) (within g.swap g.swap z)
      (within_in g.swap g.swap z (omega arith) (omega (arith, pos))))

  erase : (at : ℕ) → Starts g at → sector_start g at ≡ true
  erase at s = rw s.1.1 (started s.0 s.1.0)

  copy : (from to : ℕ) → Starts g from → Starts g to → from ≢ to → accepted g (Copy from to) ≡ true
  copy from to a b n = rw (erase from a, erase to b, ne_eqb from to n)

  copy-only : (from to : ℕ) → accepted g (Copy from to) ≡ true → Starts g from × (Starts g to × (from ≢ to))
  copy-only from to e =
      let both = and_left (sector_start g from && sector_start g to) (not (eqb from to)) e in
      let n = and_right (sector_start g from && sector_start g to) (not (eqb from to)) e in (
        erase-only from (and_left (sector_start g from) (sector_start g to) both),
        (erase-only to (and_right (sector_start g from) (sector_start g to) both), eqb-false from to (not-true (eqb from to) n)),
      )

  -- ---- trailers

  trailer_is : (s : Slot) → offset g (Sector s g.count) ≡ start g s + image_size g
  unfolding offset
  trailer_is s = refl

  byte : (at x k : ℕ) → k < z → IntoTrailer g k at → accepted g (Byte at x) ≡ true
  unfolding trailer_byte
  byte at x k h (s, e) = go s (within_in at (start g s + image_size g) z (omega (arith, trailer_is s)) (omega (arith, trailer_is s)))
    where
      go : (t : Slot) → within at (start g t + image_size g) z ≡ true
          → (within at (g.boot + image_size g) z || within at (g.update + image_size g) z) ≡ true
      go Boot w = or_left (within at (g.boot + image_size g) z) (within at (g.update + image_size g) z) w
      go Update w = or_right (within at (g.boot + image_size g) z) (within at (g.update + image_size g) z) w

  into : (s : Slot) (at : ℕ) → within at (start g s + image_size g) z ≡ true → (k : ℕ) × ((k < z) × IntoTrailer g k at)
  into s at w =
      let b = within-is at (start g s + image_size g) z w in
      (at - (start g s + image_size g), (omega arith, (s, omega (arith, trailer_is s))))

  byte-only : (at x : ℕ) → accepted g (Byte at x) ≡ true → (k : ℕ) × ((k < z) × IntoTrailer g k at)
  unfolding trailer_byte
  byte-only at x e =
      ⊎_elim (into Boot at) (into Update at) (or_cases (within at (g.boot + image_size g) z) (within at (g.update + image_size g) z) e)

  -- four bytes before a slot's end
  marked : (s : Slot) (at : ℕ) → at ≡ offset g (Sector s g.count) + (z - 4) → at ≡ start g s + slot_size g - 4
  marked s at e = omega (arith, trailer_is s, v.shape.size-min)

  mark : (at : ℕ) → IntoTrailer g (z - 4) at → accepted g (Mark at) ≡ true
  unfolding mark_place
  mark at (s, e) = go s (marked s at e)
    where
      go : (t : Slot) → at ≡ start g t + slot_size g - 4 → (eqb at (g.boot + slot_size g - 4) || eqb at (g.update + slot_size g - 4)) ≡ true
      go Boot q = or_left (eqb at (g.boot + slot_size g - 4)) (eqb at (g.update + slot_size g - 4)) (eq-eqb at (g.boot + slot_size g - 4) q)
      go Update q = or_right (eqb at (g.boot + slot_size g - 4)) (eqb at (g.update + slot_size g - 4)) (eq-eqb at (g.update + slot_size g - 4) q)

  mark-only : (at : ℕ) → accepted g (Mark at) ≡ true → IntoTrailer g (z - 4) at
  unfolding mark_place
  mark-only at e =
      ⊎_elim (at_end Boot) (at_end Update) (or_cases (eqb at (g.boot + slot_size g - 4)) (eqb at (g.update + slot_size g - 4)) e)
    where
      at_end : (s : Slot) → eqb at (start g s + slot_size g - 4) ≡ true → IntoTrailer g (z - 4) at
      at_end s w = let q = eqb-true at (start g s + slot_size g - 4) w in (s, omega (arith, trailer_is s, v.shape.size-min))

  pub accepts : PlacesAccepted g
  accepts = record {
    erase = erase;
    erase-only = erase-only;
    copy = copy;
    copy-only = copy-only;
    byte = byte;
    byte-only = byte-only;
    mark = mark;
    mark-only = mark-only;
  }

pub at_places : AtPlaces
at_places g len e = accepts g len (valid g len e)

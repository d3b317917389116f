-- An accepted step's target lies in one of the three areas, and so within the flash. Assumes nothing.
use Prim.Native.Nat.{ℕ, ◌+◌, ◌-◌, ◌*◌, ◌/◌, ◌%◌, ◌≤◌, ◌<◌}
use mathlib.Core.Bool.{Bool, true, not, ◌&&◌, ◌||◌}
use mathlib.Core.Logic.{inl, inr, ⊎_elim, ◌≢◌}
use mathlib.Core.Path.{◌≡◌, refl, sym, ◌∙◌}
use native.Mathlib.Decide.{dec_lt}
use native.Mathlib.Nat.{add-mul-mod_self_right, div-add-mod', lt_of_mul-lt-mul_right, mul-le-mul_right, add-mul, one-mul}
use native.Mathlib.Omega.{arith}
use borrow.Author.Tests.{leb-true, ltb-true, eqb-true, eq-eqb}
use lib.Dec.{leb, ltb, eqb}
use Rattle.compare.proofs.Tests.{never, and_left, and_right, or_cases}
use Rattle.flash.specs.Changes.{target_start, target_size, Lies, InAreas}
use Rattle.flash.specs.Geometry.{image_size, slot_size, aligned, geometry_check}
use Rattle.flash.specs.Steps.{within, sector_start, trailer_byte, mark_place, accepted}
use Rattle.flash.specs.Valid.{Apart, Valid}
use Rattle.flash.proofs.Areas.{valid}
use Rattle.flash.specs.declared.geometry.Geometry.{Geometry}
use Rattle.flash.specs.declared.steps.Step.{Step}
use Rattle.flash.specs.declared.steps.Step.TheVariants.{Erase, Copy, Byte, Mark}

-- a multiple of z below another is at least z below it
pub step_below : (a b z : ℕ) → a % z ≡ 0 → b % z ≡ 0 → a < b → a + z ≤ b
step_below a b z ea eb h =
    let da : a / z * z + a % z ≡ a = div-add-mod' a z in
    let db : b / z * z + b % z ≡ b = div-add-mod' b z in
    let l : a / z * z < b / z * z = omega arith in
    let k : a / z < b / z = lt_of_mul-lt-mul_right z l in
    let m : (a / z + 1) * z ≤ b / z * z = mul-le-mul_right z (omega arith) in
    let n : (a / z + 1) * z ≡ a / z * z + 1 * z = add-mul (a / z) 1 z in
    omega (arith, one-mul z)

pub within-is : (at start k : ℕ) → within at start k ≡ true → (start ≤ at) × (at < start + k)
within-is at start k e = (leb-true _ _ (and_left (leb start at) (ltb at (start + k)) e), ltb-true _ _ (and_right (leb start at) (ltb at (start + k)) e))

-- a sector's start is aligned, and lies in one of the three areas
module _ (g : Geometry) (at : ℕ) (e : sector_start g at ≡ true) where
  abbrev a : Bool
  a = within at g.boot (slot_size g)

  abbrev b : Bool
  b = within at g.update (slot_size g)

  abbrev c : Bool
  c = within at g.swap g.size

  pub start-on : at % g.size ≡ 0
  unfolding sector_start
  start-on = eqb-true (at % g.size) 0 (and_left (aligned at g.size) (a || b || c) e)

  pub by_area : {P : Type 0} → (a ≡ true → P) → (b ≡ true → P) → (c ≡ true → P) → P
  unfolding sector_start
  by_area f h k = ⊎_elim (λ w. ⊎_elim f h (or_cases a b w)) k (or_cases (a || b) c (and_right (aligned at g.size) (a || b || c) e))

module _ (g : Geometry) (len : ℕ) (v : Valid g len) where
  abbrev z : ℕ
  z = g.size

  -- a sector's start in an aligned area of whole sectors has its sector there
  in_area : (at start k : ℕ) → at % z ≡ 0 → start % z ≡ 0 → (start + k) % z ≡ 0 → within at start k ≡ true → Lies at z start k
  in_area at start k ea es ek w =
      let h = within-is at start k w in
      (h.0, step_below at (start + k) z ea ek h.1)

  slot_end : (start : ℕ) → start % z ≡ 0 → (start + slot_size g) % z ≡ 0
  slot_end start e =
      let n : (g.count + 1) * z ≡ g.count * z + 1 * z = add-mul g.count 1 z in
      let o : 1 * z ≡ z = one-mul z in
      let p : start + (g.count + 1) * z ≡ start + slot_size g = omega arith in
      rw p at (add-mul-mod_self_right start (g.count + 1) z) ∙ e

  swap_end : (g.swap + z) % z ≡ 0
  swap_end = rw (one-mul z) at (add-mul-mod_self_right g.swap 1 z) ∙ v.swap_on

  start-inside : (at : ℕ) → sector_start g at ≡ true → InAreas g at z
  start-inside at e =
      let on = start-on g at e in
      by_area g at e (λ w. inl (in_area at g.boot (slot_size g) on v.boot_on (slot_end g.boot v.boot_on) w))
      (λ w. inr (inl (in_area at g.update (slot_size g) on v.update_on (slot_end g.update v.update_on) w)))
      (λ w. inr (inr (in_area at g.swap z on v.swap_on swap_end w)))

  trailer_inside : (at : ℕ) → trailer_byte g at ≡ true → InAreas g at 1
  unfolding trailer_byte
  trailer_inside at e =
      ⊎_elim (λ w. inl (there g.boot w)) (λ w. inr (inl (there g.update w)))
      (or_cases (within at (g.boot + image_size g) z) (within at (g.update + image_size g) z) e)
    where
      there : (start : ℕ) → within at (start + image_size g) z ≡ true → Lies at 1 start (slot_size g)
      there start w = let h = within-is at (start + image_size g) z w in (omega arith, omega arith)

  mark-inside : (at : ℕ) → mark_place g at ≡ true → InAreas g at 4
  unfolding mark_place
  mark-inside at e =
      ⊎_elim (λ w. inl (there g.boot w)) (λ w. inr (inl (there g.update w)))
      (or_cases (eqb at (g.boot + slot_size g - 4)) (eqb at (g.update + slot_size g - 4)) e)
    where
      there : (start : ℕ) → eqb at (start + slot_size g - 4) ≡ true → Lies at 4 start (slot_size g)
      there start w = let h = eqb-true at (start + slot_size g - 4) w in (omega (arith, v.shape.size-min), omega (arith, v.shape.size-min))

  -- a copy's two sectors
  pub record Copied (from to : ℕ) : Type 0 where
    pub from_start : sector_start g from ≡ true
    pub to_start : sector_start g to ≡ true
    pub two : Apart from z to z

  apart_starts : (a b : ℕ) → a % z ≡ 0 → b % z ≡ 0 → a ≢ b → Apart a z b z
  apart_starts a b ea eb n = go (dec_lt a b)
    where
      go : Dec (a < b) → Apart a z b z
      go (yes h) = inl (step_below a b z ea eb h)
      go (no h) = inr (step_below b a z eb ea (omega arith))

  copied : (from to : ℕ) → accepted g (Copy from to) ≡ true → Copied from to
  copied from to e =
      let both = and_left (sector_start g from && sector_start g to) (not (eqb from to)) e in
      let a = and_left (sector_start g from) (sector_start g to) both in
      let b = and_right (sector_start g from) (sector_start g to) both in
      let n = and_right (sector_start g from && sector_start g to) (not (eqb from to)) e in
      record { from_start = a; to_start = b; two = apart_starts from to (start-on g from a) (start-on g to b) (differ n) }
    where
      differ : not (eqb from to) ≡ true → from ≢ to
      differ n q = never (sym (rw (eq-eqb from to q) at n))

  pub target-inside : (s : Step) → accepted g s ≡ true → InAreas g (target_start s) (target_size g s)
  target-inside (Erase at) e = start-inside at e
  target-inside (Copy from to) e = start-inside to (copied from to e).to_start
  target-inside (Byte at x) e = trailer_inside at e
  target-inside (Mark at) e = mark-inside at e

  -- what lies in the areas lies in the flash
  inside-fits : (at k : ℕ) → InAreas g at k → at + k ≤ len
  inside-fits at k (inl h) = omega (arith, v.boot_in)
  inside-fits at k (inr (inl h)) = omega (arith, v.update_in)
  inside-fits at k (inr (inr h)) = omega (arith, v.swap_in)

  pub target_fits : (s : Step) → accepted g s ≡ true → target_start s + target_size g s ≤ len
  target_fits s e = inside-fits (target_start s) (target_size g s) (target-inside s e)

  pub copy-fits : (s : Step) (from to : ℕ) → accepted g s ≡ true → s ≡ Copy from to
      → (z % 256 ≡ 0) × (from + z ≤ len) × (to + z ≤ len) × Apart from z to z
  copy-fits s from to e q =
      let h = copied from to (rw q at e) in
      (v.shape.size_pages, inside-fits from z (start-inside from h.from_start), inside-fits to z (start-inside to h.to_start), h.two)

-- the same by the step's variant, of a geometry that passes its check
module _ (g : Geometry) (len : ℕ) (e : geometry_check g len ≡ 0) where
  pub erase_fits : (at : ℕ) → accepted g (Erase at) ≡ true → at + g.size ≤ len
  erase_fits at = target_fits g len (valid g len e) (Erase at)

  pub copy_fits : (from to : ℕ) → accepted g (Copy from to) ≡ true
      → (g.size % 256 ≡ 0) × (from + g.size ≤ len) × (to + g.size ≤ len) × Apart from g.size to g.size
  copy_fits from to a = copy-fits g len (valid g len e) (Copy from to) from to a refl

  pub byte_fits : (at : ℕ) → trailer_byte g at ≡ true → at + 1 ≤ len
  byte_fits at = target_fits g len (valid g len e) (Byte at 0)

  pub mark_fits : (at : ℕ) → accepted g (Mark at) ≡ true → at + 4 ≤ len
  mark_fits at = target_fits g len (valid g len e) (Mark at)

pub ruleset fits_by_variant = (erase_fits, copy_fits, byte_fits, mark_fits)

-- Laws of the geometry: what its check's answer 0 says. Assumes nothing.
use Prim.Native.Nat.{ℕ, ◌+◌, ◌%◌, ◌≤◌}
use mathlib.Core.Bool.{Bool, true, false, ◌&&◌, ◌||◌}
use mathlib.Core.Logic.{inl, inr, ⊎_elim}
use mathlib.Core.Path.{◌≡◌, refl, ◌∙◌}
use native.Mathlib.Omega.{arith}
use borrow.Author.Tests.{leb-true, eqb-true}
use lib.Dec.{leb, eqb}
use Rattle.compare.proofs.Tests.{and_left, and_right, or_cases}
use Rattle.flash.specs.Geometry.{listed, counted, slot_size, aligned, fits, apart, placed, disjoint, geometry_check}
use Rattle.flash.specs.Valid.{Shaped, Apart, Valid}
use Rattle.flash.specs.declared.geometry.Geometry.{Geometry}

-- what holds of each listed size holds of a size that is listed
pub by_listed : (P : ℕ → Type 0) → P 256 → P 512 → P 1024 → P 2048 → P 4096 → (z : ℕ) → listed z ≡ true → P z
by_listed P a b c d e z h =
    ⊎_elim (λ x. ⊎_elim (λ y. ⊎_elim (λ u. ⊎_elim (is 256 a) (is 512 b) (or_cases (eqb z 256) (eqb z 512) u)) (is 1024 c)
    (or_cases (eqb z 256 || eqb z 512) (eqb z 1024) y)) (is 2048 d)
    (or_cases (eqb z 256 || eqb z 512 || eqb z 1024) (eqb z 2048) x)) (is 4096 e)
    (or_cases (eqb z 256 || eqb z 512 || eqb z 1024 || eqb z 2048) (eqb z 4096) h)
  where
    is : (k : ℕ) → P k → eqb z k ≡ true → P z
    is k p q = rw (eqb-true z k q) p

abbrev Size : ℕ → Type 0
Size z = (256 ≤ z) × (z ≤ 4096) × (z % 256 ≡ 0)

pub shaped : (g : Geometry) → listed g.size ≡ true → counted g.count ≡ true → Shaped g
shaped g l k =
    let s : Size g.size = by_listed Size
    (omega arith, omega arith, refl) (omega arith, omega arith, refl) (omega arith, omega arith, refl)
    (omega arith, omega arith, refl) (omega arith, omega arith, refl) g.size l in
    record {
      size-min = s.0;
      size-max = s.1;
      size_pages = s.2;
      count_min = leb-true 1 g.count (and_left _ _ k);
      count-max = leb-true g.count 64 (and_right (leb 1 g.count) _ k);
    }

-- the three areas lie within the flash
pub record Placed (g : Geometry) (len : ℕ) : Type 0 where
  pub boot_on : g.boot % g.size ≡ 0
  pub update_on : g.update % g.size ≡ 0
  pub swap_on : g.swap % g.size ≡ 0
  pub boot_in : g.boot + slot_size g ≤ len
  pub update_in : g.update + slot_size g ≤ len
  pub swap_in : g.swap + g.size ≤ len

pub placed_in : (g : Geometry) (len : ℕ) → placed g len ≡ true → Placed g len
unfolding placed
placed_in g len e =
    let a : Bool = aligned g.boot g.size in
    let b : Bool = aligned g.update g.size in
    let c : Bool = aligned g.swap g.size in
    let d : Bool = fits g.boot (slot_size g) len in
    let h : Bool = fits g.update (slot_size g) len in
    let k : Bool = fits g.swap g.size len in
    let five : (a && b && c && d && h) ≡ true = and_left (a && b && c && d && h) k e in
    let four : (a && b && c && d) ≡ true = and_left (a && b && c && d) h five in
    let three : (a && b && c) ≡ true = and_left (a && b && c) d four in
    let two : (a && b) ≡ true = and_left (a && b) c three in
    record {
      boot_on = eqb-true _ _ (and_left a b two);
      update_on = eqb-true _ _ (and_right a b two);
      swap_on = eqb-true _ _ (and_right (a && b) c three);
      boot_in = leb-true _ _ (and_right (a && b && c) d four);
      update_in = leb-true _ _ (and_right (a && b && c && d) h five);
      swap_in = leb-true _ _ (and_right (a && b && c && d && h) k e);
    }

apart-is : (a k b m : ℕ) → apart a k b m ≡ true → Apart a k b m
apart-is a k b m e = ⊎_elim (λ h. inl (leb-true _ _ h)) (λ h. inr (leb-true _ _ h)) (or_cases (leb (a + k) b) (leb (b + m) a) e)

-- the number that a geometry is refused with, by the first test that fails
module _ (g : Geometry) (len : ℕ) where
  pub number_1 : listed g.size ≡ false → 1 ≡ geometry_check g len
  unfolding geometry_check
  number_1 p = simp p

  module _ (p : listed g.size ≡ true) where
    pub number_2 : counted g.count ≡ false → 2 ≡ geometry_check g len
    unfolding geometry_check
    number_2 q = simp (p, q)

    module _ (q : counted g.count ≡ true) where
      pub number_3 : placed g len ≡ false → 3 ≡ geometry_check g len
      unfolding geometry_check
      number_3 r = simp (p, q, r)

      module _ (r : placed g len ≡ true) where
        pub number_4 : disjoint g ≡ false → 4 ≡ geometry_check g len
        unfolding geometry_check
        number_4 s = simp (p, q, r, s)

pub valid : (g : Geometry) (len : ℕ) → geometry_check g len ≡ 0 → Valid g len
unfolding disjoint
valid g len e = go (listed g.size) refl (counted g.count) refl (placed g len) refl (disjoint g) refl
  where
    whole : listed g.size ≡ true → counted g.count ≡ true → placed g len ≡ true → disjoint g ≡ true → Valid g len
    whole l k p d =
        let a = placed_in g len p in
        let x : Bool = apart g.boot (slot_size g) g.update (slot_size g) in
        let y : Bool = apart g.boot (slot_size g) g.swap g.size in
        let z : Bool = apart g.update (slot_size g) g.swap g.size in
        let two : (x && y) ≡ true = and_left (x && y) z d in
        record {
          shape = shaped g l k;
          boot_on = a.boot_on;
          update_on = a.update_on;
          swap_on = a.swap_on;
          boot_in = a.boot_in;
          update_in = a.update_in;
          swap_in = a.swap_in;
          boot_update = apart-is _ _ _ _ (and_left x y two);
          boot_swap = apart-is _ _ _ _ (and_right x y two);
          update_swap = apart-is _ _ _ _ (and_right (x && y) z d);
        }

    go : (a : Bool) → listed g.size ≡ a → (b : Bool) → counted g.count ≡ b → (c : Bool) → placed g len ≡ c
        → (d : Bool) → disjoint g ≡ d → Valid g len
    go true l true k true p true d = whole l k p d
    go false l b k c p x d = absurd (let z = number_1 g len l ∙ e in omega arith)
    go true l false k c p x d = absurd (let z = number_2 g len l k ∙ e in omega arith)
    go true l true k false p x d = absurd (let z = number_3 g len l k p ∙ e in omega arith)
    go true l true k true p false d = absurd (let z = number_4 g len l k p d ∙ e in omega arith)

-- the same, as far as the code's sums need it
pub areas_in : (g : Geometry) (len : ℕ) → geometry_check g len ≡ 0
    → (g.boot + slot_size g ≤ len) × (g.update + slot_size g ≤ len) × (g.swap + g.size ≤ len) × (256 ≤ g.size)
areas_in g len e = let v = valid g len e in (v.boot_in, v.update_in, v.swap_in, v.shape.size-min)

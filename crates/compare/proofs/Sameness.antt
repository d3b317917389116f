-- Two lists of bytes are the same exactly where they are equal.
-- Assumes nothing.
use Prim.Native.Nat.{ℕ}
use mathlib.Core.Bool.{Bool, true, false, ◌&&◌}
use mathlib.Core.List.{List, [], ◌∷◌}
use mathlib.Core.Path.{◌≡◌, refl, sym, ap}
use borrow.Author.Tests.{eqb-true, eq-eqb}
use lib.Dec.{eqb}
use lib.Pointwise.{pointwise}
use Rattle.compare.specs.Compare.{same}
use Rattle.compare.proofs.Tests.{never}

pub same_equal : (a b : List ℕ) → same a b ≡ true → a ≡ b
unfolding same
same_equal [] [] = λ e. refl
same_equal [] (y ∷ b) = λ e. never (sym e)
same_equal (x ∷ a) [] = λ e. never (sym e)
same_equal (x ∷ a) (y ∷ b) = go (eqb x y) refl (same_equal a b)
  where
    go : (t : Bool) → eqb x y ≡ t → (same a b ≡ true → a ≡ b) → (t && same a b) ≡ true → ◌≡◌ {A = List ℕ} (x ∷ a) (y ∷ b)
    go true t ih e = let p : x ≡ y = eqb-true _ _ t in let q : a ≡ b = ih e in cc
    go false t ih e = never (sym e)

pub same_self : (a : List ℕ) → same a a ≡ true
unfolding same
same_self [] = refl
same_self (x ∷ a) = simp (eq-eqb x x refl) (same_self a)

-- as the library's `==` tells it
pub same_pointwise : (a b : List ℕ) → pointwise eqb a b ≡ same a b
unfolding same
same_pointwise [] [] = refl
same_pointwise [] (y ∷ b) = refl
same_pointwise (x ∷ a) [] = refl
same_pointwise (x ∷ a) (y ∷ b) = ap (λ (t : Bool). eqb x y && t) (same_pointwise a b)

-- Tests on lists of bytes.
use Rattle.std.specs.Prelude.{ℕ, Bool, true, false, ◌&&◌, List, [], ◌∷◌, ◌≡◌, eqb, length, replicate}

-- two lists are the same
unfoldable pub same : List ℕ → List ℕ → Bool
same [] [] = true
same [] (y ∷ ys) = false
same (x ∷ xs) [] = false
same (x ∷ xs) (y ∷ ys) = eqb x y && same xs ys

-- each is v
unfoldable pub all : ℕ → List ℕ → Bool
all v [] = true
all v (x ∷ xs) = eqb x v && all v xs

-- Each test says true exactly where it should. Proved in proofs/Values.antt.
pub record Exact : Type 0 where
  pub same_equal : (a b : List ℕ) → same a b ≡ true → a ≡ b
  pub equal_same : (a : List ℕ) → same a a ≡ true
  pub all-only : (v : ℕ) (l : List ℕ) → all v l ≡ true → l ≡ replicate (length l) v
  pub only-all : (v n : ℕ) → all v (replicate n v) ≡ true

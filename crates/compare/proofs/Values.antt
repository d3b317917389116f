-- A list of one value: what the test says of it. Assumes nothing.
use Prim.Native.Nat.{ℕ, zero, suc, ◌+◌, ◌≤◌, ◌<◌}
use mathlib.Core.Bool.{Bool, true, false, ◌&&◌}
use mathlib.Core.List.{List, [], ◌∷◌}
use mathlib.Core.Logic.{◌≢◌}
use mathlib.Core.Path.{◌≡◌, refl, sym, ap, ◌∙◌}
use native.Mathlib.Numerals.{add-one}
use borrow.Author.Tests.{eq-eqb, ne_eqb}
use lib.Dec.{eqb}
use lib.ListN.{length, drop, get_or, replicate, length-replicate, get_or-replicate, drop_of_length-le}
use lib.Seq.{drop-cons, ext_get_or}
use Rattle.compare.specs.Compare.{same, all, Exact}
use Rattle.compare.proofs.Sameness.{same_equal, same_self}

-- where a byte has been compared, from place i on
module _ (v i : ℕ) (l : List ℕ) {P : Bool} (inv : all v (drop i l) ≡ P) where
  step : i < length l → (eqb (get_or l i 0) v && all v (drop (i + 1) l)) ≡ P
  unfolding all
  step h = rw add-one (rw (drop-cons l i 0 h) at inv)

  pub all_stop : i < length l → get_or l i 0 ≢ v → false ≡ P
  all_stop h n = rw (ne_eqb (get_or l i 0) v n) at (step h)

  pub all_go : i < length l → get_or l i 0 ≡ v → all v (drop (i + 1) l) ≡ P
  all_go h e = rw (eq-eqb (get_or l i 0) v e) at (step h)

  pub all_end : length l ≤ i → true ≡ P
  unfolding all
  all_end h = rw (drop_of_length-le l h) at inv

-- what the test says
pub all_replicate : (v n : ℕ) → all v (replicate n v) ≡ true
unfolding all
all_replicate v zero = refl
all_replicate v (suc n) = rw (eq-eqb v v refl) (all_replicate v n)

all_same : (v : ℕ) (l : List ℕ) → all v l ≡ same l (replicate (length l) v)
unfolding all same
all_same v [] = refl
all_same v (x ∷ l) = rw (all_same v l)

pub all-only : (v : ℕ) (l : List ℕ) → all v l ≡ true → l ≡ replicate (length l) v
all-only v l e = same_equal l (replicate (length l) v) (sym (all_same v l) ∙ e)

pub exact : Exact
exact = record { same_equal = same_equal; equal_same = same_self; all-only = all-only; only-all = all_replicate }

pub all_at : (v : ℕ) (l : List ℕ) → all v l ≡ true → (i : ℕ) → i < length l → get_or l i 0 ≡ v
all_at v l e i h = ap (λ (m : List ℕ). get_or m i 0) (all-only v l e) ∙ get_or-replicate (length l) i v 0 h

pub all_of : (v : ℕ) (l : List ℕ) → ((i : ℕ) → i < length l → get_or l i 0 ≡ v) → all v l ≡ true
all_of v l h =
    ap (all v)
    (ext_get_or 0 l (replicate (length l) v) (sym (length-replicate (length l) v)) (λ i k. h i k ∙ sym (get_or-replicate (length l) i v 0 k)))
    ∙ all_replicate v (length l)

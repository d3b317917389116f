-- The turns of the loops, and what a callee made of a part that it was lent. Assumes nothing.
use Prim.Native.Nat.{ℕ, zero, suc, ◌+◌, ◌-◌, ◌≤◌, ◌<◌}
use mathlib.Core.List.{List, [], ◌∷◌, ◌++◌, append-nil, append_assoc}
use mathlib.Core.Logic.{inl, inr}
use mathlib.Core.Path.{◌≡◌, refl, sym, ap, ap₂, ◌∙◌}
use native.Mathlib.Nat.{not-suc-le-zero, le_of_suc-le-suc, le_of_eq, zero-add, add-zero}
use native.Mathlib.Numerals.{add-one}
use native.Mathlib.Omega.{arith}
use lib.Bits.{bit_and}
use lib.ListN.{length, take, drop, get_or, set, replicate, length-drop, length-replicate, take-append-drop, drop_of_length-le}
use lib.Seq.{take-length, take_all, take-set-le, drop-set-add, get_or-drop, drop-drop, take-add}
use Rattle.flash.specs.Bytes.{blank, overlay, ands, write}
use Rattle.flash.specs.Valid.{Apart}
use Rattle.flash.proofs.Parts.{length_part, write-apart, write-write}
use Rattle.flash.proofs.Writes.{take-write, drop-write}

-- ---- the turns of the loops

pub erased : (p xs : List ℕ) (k : ℕ) → xs ≡ replicate k 255 → xs ++ drop k p ≡ overlay p 0 (blank k)
unfolding overlay blank
erased p xs k e = rw (e, length-replicate {A = ℕ} k 255, zero-add)

ands_turn : (f d : List ℕ) (i : ℕ) → i < length f → i < length d
    → set (ands f (take i d)) i (bit_and (get_or (ands f (take i d)) i 0) (get_or d i 0)) ≡ ands f (take (suc i) d)
unfolding ands
ands_turn [] d i h k = absurd (not-suc-le-zero h)
ands_turn (x ∷ f) [] i h k = absurd (not-suc-le-zero k)
ands_turn (x ∷ f) (y ∷ d) zero h k = refl
ands_turn (x ∷ f) (y ∷ d) (suc i) h k =
    ap (λ (l : List ℕ). bit_and x y ∷ l) (ands_turn f d i (le_of_suc-le-suc h) (le_of_suc-le-suc k))

pub write_turn : (p d : List ℕ) (at i : ℕ) (xs : List ℕ) → at + length d ≤ length p → i < length d → xs ≡ write p at (take i d)
    → set xs (at + i) (bit_and (get_or xs (at + i) 0) (get_or d i 0)) ≡ write p at (take (i + 1) d)
unfolding write
write_turn p d at i xs h k e =
    let l : at ≤ length p = omega arith in
    let v : ℕ = bit_and (get_or xs (at + i) 0) (get_or d i 0) in
    let a : take at (set xs (at + i) v) ≡ take at p = take-set-le at xs (at + i) v (omega arith) ∙ ap (take at) e ∙ take-write p at l (take i d) in
    let b : drop at xs ≡ ands (drop at p) (take i d) = ap (drop at) e ∙ drop-write p at l (take i d) in
    let c : drop at (set xs (at + i) v) ≡ ands (drop at p) (take (suc i) d) =
    drop-set-add at xs i v
    ∙ ap (λ (x : ℕ). set (drop at xs) i (bit_and x (get_or d i 0))) (sym (get_or-drop at xs i 0))
    ∙ ap (λ (y : List ℕ). set y i (bit_and (get_or y i 0) (get_or d i 0))) b
    ∙ ands_turn (drop at p) d i (omega (arith, length-drop at p)) k in
    sym (take-append-drop at (set xs (at + i) v)) ∙ rw (a, c, add-one)

-- before the first turn
pub nothing_written : (p : List ℕ) (at : ℕ) → p ≡ write p at []
unfolding ands write
nothing_written p at = sym (take-append-drop at p)

pub ruleset writing = (write_turn, nothing_written, take-length)

-- ---- a part lent on

-- what a callee that was lent `&mut f[at..]` made of the part, said of the whole
module _ (f : List ℕ) (at : ℕ) (h : at ≤ length f) where
  pub all_of_it : take (length f - at) (drop at f) ≡ drop at f
  all_of_it = take_all (length f - at) (drop at f) (le_of_eq (length-drop at f))

  back : (ys : List ℕ) → take at f ++ (ys ++ drop (length f - at) (drop at f)) ≡ take at f ++ ys
  back ys = rw (drop_of_length-le (drop at f) (le_of_eq (length-drop at f)), append-nil ys)

  pub written_part : (k : ℕ) (d ys : List ℕ) → ys ≡ write (take (length f - at) (drop at f)) k d
      → take at f ++ (ys ++ drop (length f - at) (drop at f)) ≡ write f (at + k) d
  unfolding write
  written_part k d ys e =
      back ys ∙ rw (e, all_of_it, take-add at k f, drop-drop k at f, append_assoc)

  pub written_start : (d ys : List ℕ) → ys ≡ write (take (length f - at) (drop at f)) 0 d
      → take at f ++ (ys ++ drop (length f - at) (drop at f)) ≡ write f at d
  written_start d ys e = rw add-zero at (written_part 0 d ys e)

  pub erased_part : (d ys : List ℕ) → ys ≡ overlay (take (length f - at) (drop at f)) 0 d
      → take at f ++ (ys ++ drop (length f - at) (drop at f)) ≡ overlay f at d
  unfolding overlay
  erased_part d ys e =
      back ys ∙ rw (e, all_of_it, zero-add, drop-drop (length d) at f, append_assoc, append_assoc)

pub ruleset lent_on = (written_start, erased_part)

-- a page of m bytes more of a copy: the page is read, and ys is what writing it made of the part that it was lent
pub page_turn : (f cur page ys : List ℕ) (from to z k m : ℕ) → from + z ≤ length f → to + z ≤ length f → Apart from z to z
    → k + m ≤ z → length cur ≡ length f → cur ≡ write f to (take k (drop from f))
    → page ≡ take (from + k + m - (from + k)) (drop (from + k) cur) → ys ≡ write (take (length cur - to) (drop to cur)) k page
    → take to cur ++ (ys ++ drop (length cur - to) (drop to cur)) ≡ write f to (take (k + m) (drop from f))
page_turn f cur page ys from to z k m hf ht w hk el ec ep ey =
    let l : length (take k (drop from f)) ≡ k = length_part f from k (omega arith) in
    let n : from + k + m - (from + k) ≡ m = omega arith in
    let p : page ≡ take m (drop (from + k) f) = ep ∙ ap₂ (λ (i : ℕ) (x : List ℕ). take i (drop (from + k) x)) n ec
    ∙ write-apart f to (take k (drop from f)) (from + k) m (omega (arith, l)) (omega arith) (near w) in
    written_part cur to (omega arith) k page ys ey
    ∙ ap₂ (λ (x y : List ℕ). write x (to + k) y) ec p
    ∙ ap (λ (x : ℕ). write (write f to (take k (drop from f))) (to + x) (take m (drop (from + k) f))) (sym l)
    ∙ write-write f to (take k (drop from f)) (take m (drop (from + k) f)) (omega arith)
    ∙ rw (take-add k m (drop from f), drop-drop k from f)
  where
    near : Apart from z to z → Apart (from + k) m to (length (take k (drop from f)))
    near (inl a) = inl (omega arith)
    near (inr a) = inr (omega (arith, length_part f from k (omega arith)))

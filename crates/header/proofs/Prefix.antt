-- A lookup reads nothing behind the place of the content that it finds: in a header that is the same up to there it finds the same.
-- Assumes nothing.
use Prim.Native.Nat.{ℕ, zero, suc, ◌+◌, ◌<◌, ◌≤◌}
use mathlib.Core.Bool.{Bool, true, false, cond}
use mathlib.Core.List.{List, [], ◌∷◌}
use mathlib.Core.Path.{◌≡◌, refl, sym, ap, ◌∙◌}
use native.Mathlib.Omega.{arith}
use lib.ListN.{length, take, drop}
use lib.Seq.{get_or-take, take-take}
use Rattle.std.specs.Prelude.{Option, Some, Result, Ok, Err}
use Rattle.header.specs.Lookup.{matches, first, lookup}
use Rattle.header.specs.Numbers.{byte_at, number_at}
use Rattle.header.specs.Walk.{step_at, on_step, walk}
use Rattle.header.specs.declared.tags.Tag.{Tag}
use Rattle.header.specs.declared.tags.WalkStep.TheVariants.{Padding, Met}
use Rattle.header.specs.declared.tags.WalkStep.{WalkStep}
use Rattle.header.proofs.Lookups.{found_good, long_enough, looked_up}
use Rattle.header.proofs.Walk.{GoodStep, walk_step, step_good, from_later}

-- a part of the first m
pub part_of : (at n m : ℕ) (l : List ℕ) → at + n ≤ m → take n (drop at (take m l)) ≡ take n (drop at l)
part_of zero n m l h = take-take n m l (omega arith)
part_of (suc a) n zero l h = absurd (omega arith)
part_of (suc a) n (suc m) [] h = refl
part_of (suc a) n (suc m) (x ∷ l) h = part_of a n m l (omega arith)

-- bytes that are the same up to place m
module _ (h g : List ℕ) (m : ℕ) (same : take m h ≡ take m g) where
  byte-same : (p : ℕ) → p < m → byte_at h p ≡ byte_at g p
  byte-same p l = sym (get_or-take m h p 0 l) ∙ ap (λ (s : List ℕ). byte_at s p) same ∙ get_or-take m g p 0 l

  pub number_same : (n p : ℕ) → p + n ≤ m → number_at n h p ≡ number_at n g p
  unfolding number_at
  number_same zero p l = refl
  number_same (suc n) p l = rw (byte-same p (omega arith), number_same n (p + 1) (omega arith))

  step_same : (e p : ℕ) → p + 4 ≤ m → step_at h e p ≡ step_at g e p
  unfolding step_at
  step_same e p l = rw (byte-same p (omega arith), number_same 2 p (omega arith), number_same 2 (p + 2) (omega arith))

  module _ (e : ℕ) (v : Option ℕ) {t : Tag} (before : t.at ≤ m) where
    by_step :
        (p : ℕ) →
        ((q : ℕ) → p < q → q ≤ e → first v (walk h e q) ≡ Ok t → first v (walk g e q) ≡ Ok t) →
        (w : Result WalkStep ℕ) →
        GoodStep h e p w →
        first v (on_step (walk h e) w) ≡ Ok t →
        first v (on_step (walk g e) w) ≡ Ok t
    by_step p ih (Err n) s f = f
    by_step p ih (Ok (Padding q)) s f = ih q s.0 s.1 f
    by_step p ih (Ok (Met u)) s f = go (matches v u.kind) f
      where
        go :
            (b : Bool) →
            cond b (Ok u) (first v (walk h e u.next)) ≡ Ok t →
            cond b (Ok u) (first v (walk g e u.next)) ≡ Ok t
        go true f = f
        go false f = ih u.next (omega arith) (omega arith) f

    -- the tag is found behind place p, so what is read at p stands before place m
    first-same : (p : ℕ) → first v (walk h e p) ≡ Ok t → first v (walk g e p) ≡ Ok t
    first-same =
        from_later e (λ (p : ℕ). first v (walk h e p) ≡ Ok t → first v (walk g e p) ≡ Ok t)
        (λ p ih f.
        let found = found_good h e p v f in
        rw (walk_step g e p, ← step_same e p (omega arith))
        (by_step p ih (step_at h e p) (step_good h e p) (rw (walk_step h e p) at f)))

  pub lookup-same : (k : ℕ) {t : Tag} → t.at ≤ m → 256 ≤ length g → lookup h k ≡ Ok t → lookup g k ≡ Ok t
  lookup-same k {t} l long f =
      long_enough g k long
      ∙ first-same 256 (Some k) l 8 (sym (long_enough h k (looked_up h k f).long) ∙ f)

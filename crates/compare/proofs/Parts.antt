-- The test for a single value, told part by part: by bytes as a fold, and by the blocks that an iterator gives.
-- Assumes nothing.
use Rattle.std.proofs.Common.{◌≡◌, ℕ, Bool, true, false, ◌&&◌, List, [], ◌∷◌, ◌++◌, Option, Some, None, length, Bor, eqb, refl, sym, ap, ◌∙◌, subst, arith}
use Rattle.std.specs.List.{fold, FoldsTo}
use Rattle.std.specs.Fn.{Called}
use Rattle.std.specs.Iterator.{Yields, ChecksAll}
use Rattle.std.specs.Slice.Iter.{chunks_steps, chunks_rest}
use Rattle.std.specs.declared.slice.Chunks.{Chunks}
use Rattle.std.specs.Option.{MatchOption}
use denote.Param.Members.{Mut}
use Rattle.compare.specs.Compare.{all}
use Rattle.compare.proofs.Tests.{and_assoc, and_true}

all-append : (v : ℕ) (a b : List ℕ) → all v (a ++ b) ≡ (all v a && all v b)
unfolding all
all-append v [] b = refl
all-append v (x ∷ a) b = ap (λ (t : Bool). eqb x v && t) (all-append v a b) ∙ sym (and_assoc (eqb x v) (all v a) (all v b))

folded : (v : ℕ) (ok : Bool) (l : List ℕ) → fold (λ ok b. ok && eqb b v) ok l ≡ (ok && all v l)
unfolding all
folded v ok [] = sym (and_true ok)
folded v ok (x ∷ l) = folded v (ok && eqb x v) l ∙ and_assoc ok (eqb x v) (all v l)

pub all_fold : (v : ℕ) (l : List ℕ) → fold (λ ok b. ok && eqb b v) true l ≡ all v l
all_fold v l = folded v true l

empty : (l : List ℕ) → length l ≡ 0 → l ≡ []
empty [] e = refl
empty (x ∷ l) e = absurd (omega arith)

-- by the blocks of an iterator, each told by a call that leaves the closure as it is
module _ {F : Type 0} (g : Mut F (Bor (List ℕ) × Unit {0}) Bool) (v : ℕ) (f : F)
    (call : (x : Bor (List ℕ)) (r : Bool) (q : F) → Called g f (x, tt) r q → (q ≡ f) × (r ≡ all v x.now)) where
  told :
      (xs : List (Bor (List ℕ))) (s t u : Chunks ℕ) (o : Option (Bor (List ℕ))) (f' : F) (r : Bool) →
      Yields chunks_steps s xs t →
      chunks_steps t o u →
      FoldsTo (λ p x q. Called g p (x, tt) true q) f xs f' →
      MatchOption o (r ≡ true) (λ x. (r ≡ false) × ((h : F) × Called g f' (x, tt) false h)) →
      r ≡ all v (chunks_rest s)
  unfolding all
  told [] s t u None f' r y e k m = m ∙ sym (ap (all v) (ap chunks_rest y ∙ empty (chunks_rest t) e.1.0))
  told [] s t u (Some x) f' r y e k m =
      let c = call x false m.1.0 (subst (λ (p : F). Called g p (x, tt) false m.1.0) (sym k) m.1.1) in
      m.0 ∙ (let d = all-append v x.now (chunks_rest u) in rw (ap chunks_rest y, e.1.0, d, ← c.1) refl)
  told (x ∷ xs) s t u o f' r y e k m =
      let c = call x true k.0 k.1 in
      let left = told xs y.0 t u o f' r y.2 e (subst (λ (p : F). FoldsTo (λ p x q. Called g p (x, tt) true q) p xs f') c.0 k.2) m in
      let d = all-append v x.now (chunks_rest y.0) in
      left ∙ rw (y.1.1.0, d, ← c.1) refl

  pub all_chunks : (s u : Chunks ℕ) (r : Bool) → ChecksAll chunks_steps g s f r u → r ≡ all v (chunks_rest s)
  all_chunks s u r h = told h.0 s h.3.0 u h.1 h.2 r h.3.1 h.3.2 h.4 h.5

-- The run of custom tags, as the code walks it: what is left of it at a place is well formed where the run is.
-- Assumes nothing.
use Prim.Native.Nat.{ℕ, ◌+◌, ◌<◌, ◌≤◌}
use mathlib.Core.Bool.{Bool, true, false, not, ◌&&◌}
use mathlib.Core.List.{List}
use mathlib.Core.Path.{◌≡◌, sym, ap, ◌∙◌}
use native.Mathlib.Omega.{arith}
use lib.ListN.{length}
use borrow.Author.Tests.{le-ltb, eq-eqb, ne_eqb}
use Rattle.std.specs.Prelude.{Result, Ok, Err}
use Rattle.refusal.specs.Numbers.{numbered}
use Rattle.refusal.specs.declared.Refusal.{Refusal}
use Rattle.header.specs.Walk.{step_at, Walk, on_step, walk}
use Rattle.header.specs.declared.tags.Tag.{Tag}
use Rattle.header.specs.declared.tags.WalkStep.TheVariants.{Padding, Met}
use Rattle.header.specs.declared.tags.WalkStep.{WalkStep}
use Rattle.header.proofs.Walk.{walk_step, walk_ind, step_end, step-tag, on}
use Rattle.writer.specs.Custom.{named, tags_of, well_formed, custom_check}

-- whether the tags from place p on stand one right behind the other up to place e
abbrev pub well_formed_from : List ℕ → ℕ → ℕ → Bool
well_formed_from s e p = well_formed e p (walk s e p).tags

-- tags that start behind place p leave a gap
pub gap : (s : List ℕ) (e p q : ℕ) → p < e → p < q → well_formed e p (walk s e q).tags ≡ false
unfolding well_formed
gap s e p q h =
    walk_ind s e (λ (q : ℕ) (w : Walk). p < q → well_formed e p w.tags ≡ false)
    (λ q n d l. ne_eqb p e (omega arith))
    (λ q r m b ih l. ih (omega arith))
    (λ q t g ih l. simp (ne_eqb t.at (p + 4) (omega arith)))
    q

module _ (s : List ℕ) (e p : ℕ) where
  step_of : {w : Result WalkStep ℕ} → step_at s e p ≡ w → well_formed_from s e p ≡ well_formed e p (on_step (walk s e) w).tags
  step_of q = ap (λ (w : Walk). well_formed e p w.tags) (walk_step s e p ∙ ap (on_step (walk s e)) q)

  pub at_end : e ≤ p → p ≤ e → well_formed_from s e p ≡ true
  unfolding well_formed
  at_end h l = step_of (step_end s e p h) ∙ eq-eqb p e (omega arith)

  at_stop : {n : ℕ} → p < e → step_at s e p ≡ Err n → well_formed_from s e p ≡ false
  unfolding well_formed
  at_stop h q = step_of q ∙ ne_eqb p e (omega arith)

  at_padding : {n : ℕ} → p < e → step_at s e p ≡ Ok (Padding n) → well_formed_from s e p ≡ false
  at_padding {n} h q = let l = on s e p q in step_of q ∙ gap s e p n h l.0

  at_tag : {t : Tag} → step_at s e p ≡ Ok (Met t) → well_formed_from s e p ≡ (not (named t.kind) && well_formed_from s e t.next)
  unfolding well_formed
  at_tag {t} q =
      let a : t.at ≡ p + 4 = ap (λ (t : Tag). t.at) (step-tag s e p q) in
      step_of q ∙ simp (eq-eqb t.at (p + 4) a)

-- what the check answers, where the rest from place p on goes on as the whole run does
module _ (s : List ℕ) (p : ℕ) (size : length s ≤ 82) (as-all : well_formed_from s (length s) p ≡ well_formed (length s) 0 (tags_of s)) where
  ill : well_formed_from s (length s) p ≡ false → 27 ≡ custom_check s
  unfolding custom_check
  ill e = simp (le-ltb 82 (length s) size, sym as-all ∙ e)

  pub well_formed_lem : length s ≤ p → p ≤ length s → 0 ≡ custom_check s
  unfolding custom_check
  well_formed_lem h l = simp (le-ltb 82 (length s) size, sym as-all ∙ at_end s (length s) p h l)

  pub ends_early : {n : ℕ} → p < length s → step_at s (length s) p ≡ Err n → 27 ≡ custom_check s
  ends_early h q = ill (at_stop s (length s) p h q)

  pub has_padding : {n : ℕ} → p < length s → step_at s (length s) p ≡ Ok (Padding n) → 27 ≡ custom_check s
  has_padding h q = ill (at_padding s (length s) p h q)

  pub has_named : {t : Tag} → step_at s (length s) p ≡ Ok (Met t) → named t.kind ≡ true → 27 ≡ custom_check s
  has_named q n = ill (at_tag s (length s) p q ∙ simp n)

  pub one_further : {t : Tag} → step_at s (length s) p ≡ Ok (Met t) → named t.kind ≡ false → well_formed_from s (length s) t.next ≡ well_formed (length s) 0 (tags_of s)
  one_further q n = sym (at_tag s (length s) p q ∙ simp n) ∙ as-all

-- a step as the code has it
pub met : {r : Result WalkStep Refusal} {s : Result WalkStep ℕ} {w : WalkStep} {t : Tag} → numbered r ≡ s → r ≡ Ok w → w ≡ Met t → s ≡ Ok (Met t)
met e f g = sym e ∙ ap numbered f ∙ ap Ok g

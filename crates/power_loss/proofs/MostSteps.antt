-- With a run's most steps for its number it ends: a step that were due would be one too many. Assumes nothing.
use Prim.Native.Nat.{ℕ, zero, suc, ◌≤◌, ◌<◌}
use mathlib.Core.Bool.{Bool, true, false, cond}
use mathlib.Core.List.{List, [], ◌∷◌}
use mathlib.Core.Logic.{◌⊎◌, inl, inr}
use mathlib.Core.Path.{◌≡◌, refl, ap, ◌∙◌}
use native.Mathlib.Decide.{dec_lt}
use native.Mathlib.Omega.{arith}
use borrow.Author.Tests.{le-leb, lt-leb, leb-true}
use lib.Dec.{eqb, leb}
use lib.ListN.{length, length-append}
use Rattle.flash.specs.Cuts.{Bytes}
use Rattle.compare.proofs.Tests.{and_right}
use Rattle.flash.specs.Geometry.{geometry_check, counted}
use Rattle.flash.specs.declared.geometry.Geometry.{Geometry}
use Rattle.flash.proofs.Areas.{valid}
use Rattle.loader.specs.Checks.{Checks}
use Rattle.loader.specs.Answers as A
use Rattle.loader.specs.Answers.{Answer}
use Rattle.runner.specs.MostSteps.{step_bound, most_steps_of}
use Rattle.runner.specs.Runs.{Outcome, ends, run_check, run_of}
use Rattle.runner.specs.declared.counts.StepCounts.{StepCounts}
use Rattle.power_loss.specs.OneByOne.{OneMore}
use Rattle.power_loss.specs.RunEnds.{IsEnd, EndsWithMost, MostTaken}
use Rattle.power_loss.proofs.Ending.{run_ends}
use Rattle.power_loss.proofs.OneByOne.{one_by_one}
use Rattle.power_loss.proofs.RunSteps.{by_check}

-- a run has ended, or has done as many steps as its number says
abbrev Used : ℕ → Outcome → Type 0
Used m o = IsEnd o.answer ⊎ (length o.steps ≡ m)

one_more : (g : Geometry) (x : Answer) (o o' : Outcome) (m : ℕ) → o.answer ≡ x → OneMore g x o o' → IsEnd x ⊎ (length o.steps ≡ m)
    → Used (suc m) o'
one_more g (A.Step s) o o' m e t (inl end) = absurd end
one_more g (A.Step s) o o' m e t (inr l) = inr (rw (t.steps, length-append o.steps (s ∷ [])) (omega arith))
one_more g (A.LastStep s) o o' m e t u = inl (rw t.1 tt)
one_more g (A.Boot why) o o' m e t u = inl (rw (t, e) tt)
one_more g (A.Refused n) o o' m e t u = inl (rw (t, e) tt)

-- a step due, with the bound reached
none-due : (g : Geometry) (x : Answer) (o o' : Outcome) (m l : ℕ) → OneMore g x o o' → length o.steps ≡ m → length o'.steps ≤ l → l ≤ m
    → IsEnd x
none-due g (A.Step s) o o' m l t u h k = absurd (omega (arith, ap length t.steps ∙ length-append o.steps (s ∷ [])))
none-due g (A.LastStep s) o o' m l t u h k = absurd (omega (arith, ap length t.0.steps ∙ length-append o.steps (s ∷ [])))
none-due g (A.Boot why) o o' m l t u h k = tt
none-due g (A.Refused n) o o' m l t u h k = tt

module _ (checks : Checks) (g : Geometry) (a b : Bool) (f : List ℕ) (c : StepCounts) where
  abbrev run : ℕ → Outcome
  run m = run_of checks g m a b f c

  used : (m : ℕ) → m ≤ 4096 → Used m (run m)
  used zero h = inr (ap length (one_by_one checks g a b f c).none.1)
  used (suc m) h =
      one_more g (run m).answer (run m) (run (suc m)) m refl ((one_by_one checks g a b f c).more m (omega arith)) (used m (omega arith))

  -- a number above 4096 is refused
  too_large : (m : ℕ) → 4096 < m → IsEnd (run m).answer
  unfolding run_of run_check
  too_large m h = rw (lt-leb m 4096 h) (go _ (geometry_check g (length f)) (eqb (geometry_check g (length f)) 0) refl)
    where
      go : (o : Outcome) (n : ℕ) (x : Bool) → eqb n 0 ≡ x → IsEnd (cond (eqb (cond x 29 n) 0) o (ends (A.Refused (cond x 29 n)) f)).answer
      go o n true e = tt
      go o n false e = rw e tt

  module _ (bytes : Bytes f) (m : ℕ) (le : most_steps_of g.count ≤ m) where
    bound : geometry_check g (length f) ≡ 0 → step_bound g.count ≤ m
    unfolding most_steps_of
    bound ok =
        let s = (valid g (length f) ok).shape in
        rw (le-leb 1 g.count s.count_min, le-leb g.count 64 s.count-max) at le

    accepted : geometry_check g (length f) ≡ 0 → m < 4096 → IsEnd (run m).answer
    accepted ok h = go (used m (omega arith))
      where
        go : Used m (run m) → IsEnd (run m).answer
        go (inl end) = end
        go (inr l) = none-due g (run m).answer (run m) (run (suc m)) m (step_bound g.count) ((one_by_one checks g a b f c).more m h) l
            ((run_ends checks g a b f c bytes).steps (suc m)) (bound ok)

    ended : IsEnd (run m).answer
    ended = go (by_check checks g f a b (λ o. (geometry_check g (length f) ≡ 0) ⊎ IsEnd o.answer) m c (λ ok. inl ok) (λ n. inr tt)) (dec_lt m 4096) (dec_lt 4096 m)
      where
        go : (geometry_check g (length f) ≡ 0) ⊎ IsEnd (run m).answer → Dec (m < 4096) → Dec (4096 < m) → IsEnd (run m).answer
        go (inr end) x y = end
        go (inl ok) (yes h) y = accepted ok h
        go (inl ok) (no h) (yes l) = too_large m l
        go (inl ok) (no h) (no l) = let e : m ≡ 4096 = omega arith in rw e (run_ends checks g a b f c bytes).ends

pub ends_with_most : EndsWithMost
ends_with_most checks g a b f c bytes m le = ended checks g a b f c bytes m le

pub most_taken : MostTaken
unfolding most_steps_of
most_taken n = go (counted n) refl
  where
    go : (x : Bool) → counted n ≡ x → cond x (step_bound n) 0 ≤ 4096
    go true e = omega (arith, leb-true n 64 (and_right (leb 1 n) (leb n 64) e))
    go false e = omega arith

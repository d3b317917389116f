-- A run, one step at a time. Assumes nothing.
use Prim.Native.Nat.{ℕ, zero, suc, ◌≤◌}
use mathlib.Core.Bool.{Bool, true, false, cond}
use mathlib.Core.List.{List}
use mathlib.Core.Path.{◌≡◌, refl}
use borrow.Author.Tests.{eqb-true, le-leb}
use lib.Dec.{eqb, leb}
use lib.ListN.{length}
use Rattle.compare.proofs.Tests.{by_test}
use Rattle.flash.specs.Geometry.{unless, geometry_check}
use Rattle.flash.specs.Steps.{applied, flash_after}
use Rattle.flash.specs.declared.geometry.Geometry.{Geometry}
use Rattle.flash.specs.declared.steps.Step.{Step}
use Rattle.flash.proofs.Shown.{flash-after}
use Rattle.loader.specs.Checks.{Checks}
use Rattle.loader.specs.Decisions.{next_step}
use Rattle.loader.specs.Answers as A
use Rattle.loader.specs.Answers.{Answer}
use Rattle.loader.proofs.Accepting.{steps-accepted}
use Rattle.runner.specs.Counts.{roomy, counts_check}
use Rattle.runner.specs.Runs.{Outcome, ends, did, meets, run_for, run_check, run_of}
use Rattle.runner.specs.declared.counts.StepCounts.{StepCounts}
use Rattle.power_loss.specs.RunEnds.{IsEnd}

module _ (checks : Checks) (g : Geometry) (f : List ℕ) (a b : Bool) where
  -- with the number used up, the step due
  pub run-due : run_for checks g 0 a b f ≡ ends (next_step checks g f a b) f
  unfolding run_for
  run-due = refl

  -- a step that is decided is carried out; which answers of the checker the rest of the run goes by, `meets` says
  pub run_step : (m : ℕ) (s : Step) → next_step checks g f a b ≡ A.Step s → run_for checks g (suc m) a b f ≡ meets g (run_for checks g m) a b f (A.Step s)
  unfolding run_for
  run_step m s e = rw e

  pub step_done : (s : Step) → next_step checks g f a b ≡ A.Step s → flash_after g f s ≡ applied g f s
  step_done s e = flash-after g f s ((steps-accepted g f s).step checks a b e)

  pub run-last : (m : ℕ) (s : Step) → next_step checks g f a b ≡ A.LastStep s → run_for checks g (suc m) a b f ≡ did s (ends (A.Boot 0) (applied g f s))
  unfolding run_for meets
  run-last m s e = rw (e, flash-after g f s ((steps-accepted g f s).last checks a b e))

  -- a boot or a refusal ends the run
  pub run_stops : (m : ℕ) (x : Answer) → next_step checks g f a b ≡ x → IsEnd x → run_for checks g m a b f ≡ ends x f
  unfolding run_for meets
  run_stops zero x e end = rw e
  run_stops (suc m) (A.Boot r) e end = rw e
  run_stops (suc m) (A.Refused r) e end = rw e
  run_stops (suc m) (A.Step s) e end = absurd end
  run_stops (suc m) (A.LastStep s) e end = absurd end

  -- ---- on every input

  pub run-begins : (m : ℕ) (c : StepCounts) → geometry_check g (length f) ≡ 0 → m ≤ 4096 → roomy c ≡ true → run_of checks g m a b f c ≡ run_for checks g m a b f
  unfolding run_of run_check counts_check
  run-begins m c ok le r = rw (ok, le-leb m 4096 le, r)

  -- the run is refused at once, or the geometry is accepted
  pub by_check : (P : Outcome → Type 0) (m : ℕ) (c : StepCounts) → (geometry_check g (length f) ≡ 0 → P (run_for checks g m a b f))
      → ((n : ℕ) → P (ends (A.Refused n) f)) → P (run_of checks g m a b f c)
  unfolding run_of run_check
  by_check P m c runs refused =
      by_test P (eqb (run_check g (length f) m c) 0) (λ e. runs (checked (eqb number 0) refl e)) (λ e. refused (run_check g (length f) m c))
    where
      number : ℕ
      number = geometry_check g (length f)

      checked : (x : Bool) → eqb number 0 ≡ x → eqb (cond x (unless (leb m 4096) 29 (counts_check c)) number) 0 ≡ true → number ≡ 0
      checked true e q = eqb-true number 0 e
      checked false e q = eqb-true number 0 q

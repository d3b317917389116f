-- A run that finds BOOT on trial and no swap pending boots, refuses or makes one return. Assumes nothing.
use Prim.Native.Nat.{ℕ, suc, ◌+◌, ◌*◌, ◌≤◌, ◌<◌}
use mathlib.Core.Bool.{Bool, true, false}
use mathlib.Core.List.{List, [], ◌∷◌}
use mathlib.Core.Logic.{inl}
use mathlib.Core.Path.{◌≡◌, refl, sym, ap, ◌∙◌}
use native.Mathlib.Omega.{arith}
use borrow.Author.Tests.{eqb-true}
use lib.Dec.{eqb}
use lib.ListN.{length}
use Rattle.flash.specs.declared.geometry.Geometry.{Geometry}
use Rattle.flash.specs.declared.steps.Step.{Step}
use Rattle.slots.specs.Places.{image_of, trailer_of}
use Rattle.slots.specs.declared.places.Slot.TheVariants.{Boot, Update}
use Rattle.loader.specs.Checks.{Checks}
use Rattle.loader.specs.Decisions.{boot_or, next_step}
use Rattle.loader.specs.States.{updating, testing, staged, on_trial}
use Rattle.loader.specs.Answers.{Answer}
use Rattle.runner.specs.Runs.{Outcome, did, run_for}
use Rattle.power_loss.specs.Histories.{finished_all, sum}
use Rattle.power_loss.specs.RunEnds.{IsEnd}
use Rattle.power_loss.proofs.Contents.{following, contents_start}
use Rattle.power_loss.proofs.Decided.{back_passed_over, boot_ends}
use Rattle.power_loss.proofs.Ends.{renewed_sound}
use Rattle.power_loss.proofs.Invariant.{Setting, Phase, renewing, cost}
use Rattle.power_loss.proofs.OneSector.{Base}
use Rattle.power_loss.proofs.Renewal.{renew-most, renew-none}
use Rattle.power_loss.proofs.RunSteps.{run_stops}
use Rattle.power_loss.proofs.Runs.{three_each, Ran, due, done, runs}
use Rattle.power_loss.proofs.Weights.{ones, weighed, one_more}

-- at most l steps, and with a number above l the end
pub record Within (m l : ℕ) (x : Outcome) : Type 0 where
  pub steps : length x.steps ≤ l
  pub ends : l < m → IsEnd x.answer

pub within_more : {m l l' : ℕ} {x : Outcome} → l ≤ l' → Within m l x → Within m l' x
within_more h w = record { steps = omega (arith, w.steps); ends = λ q. w.ends (omega arith) }

pub within-did : {m l : ℕ} {x : Outcome} (s : Step) → Within m l x → Within (suc m) (suc l) (did s x)
within-did s w = record { steps = omega (arith, w.steps); ends = λ q. w.ends (omega arith) }

module _ (checks : Checks) (g : Geometry) (f : List ℕ) (a b : Bool) where
  pub stops : (x : Answer) → next_step checks g f a b ≡ x → IsEnd x → (m l : ℕ) → Within m l (run_for checks g m a b f)
  stops x e end m l = rw (run_stops checks g f a b m x e end) (record { steps = omega arith; ends = λ q. end })

-- ---- a return

count : (l : List Step) → length l ≡ weighed ones (finished_all l)
unfolding sum finished_all
count [] = refl
count (s ∷ l) = ap suc (count l) ∙ sym (one_more s l)

module _ (checks : Checks) (g : Geometry) (f : List ℕ) (base : Base g f f) (idle : staged g f ≡ false) (trial : on_trial g f ≡ true)
    (a b : Bool) where
  abbrev back : Setting
  back = following checks g f f

  abbrev start : Phase back f false
  start = renewing (record { base = base; may = tt; idle = idle; trial = trial; held = contents_start checks g f (inl trial) })

  back_cost : cost back ones start ≤ 9 * g.count + 4
  back_cost = omega (
    arith,
    renew-most ones g Update updating (trailer_of g f Update),
    three_each back 0 (3 * g.count),
    renew-none ones g Boot testing (trailer_of g f Boot) (renewed_sound (trailer_of g f Boot) testing ∙ trial),
  )

  pub idle_run : (m : ℕ) → Within m (9 * g.count + 4) (run_for checks g m a b f)
  idle_run m = go (eqb (checks.verdict (image_of g f Update) b) 0) refl
    where
      ran : Ran checks g f f a b m (λ w. cost back w start) (run_for checks g m a b f) → Within m (9 * g.count + 4) (run_for checks g m a b f)
      ran (due p e n le) = record {
        steps = omega (arith, count (run_for checks g m a b f).steps, le ones, back_cost);
        ends = λ q. absurd (omega (arith, n, le ones, back_cost));
      }
      ran (done e ov le) = record { steps = omega (arith, count (run_for checks g m a b f).steps, le ones, back_cost); ends = λ q. rw e tt }

      go : (c : Bool) → eqb (checks.verdict (image_of g f Update) b) 0 ≡ c → Within m (9 * g.count + 4) (run_for checks g m a b f)
      go true e = ran (runs checks g f f a b (eqb-true (checks.verdict (image_of g f Update) b) 0 e) m f false start)
      go false e = stops checks g f a b (boot_or checks g f a (checks.verdict (image_of g f Update) b)) (back_passed_over checks g f base.ok a b idle trial e)
          (boot_ends checks g f base.ok a b (checks.verdict (image_of g f Update) b)) m (9 * g.count + 4)

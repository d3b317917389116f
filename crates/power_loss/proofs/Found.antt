-- A run that finds a swap at any progress takes it to its end, and if BOOT doesn't pass then, one return follows at most.
-- Assumes nothing.
use Prim.Native.Nat.{ℕ, zero, suc, ◌+◌, ◌*◌, ◌≤◌}
use mathlib.Core.Bool.{Bool, true, false}
use mathlib.Core.List.{List}
use mathlib.Core.Path.{◌≡◌, refl}
use native.Mathlib.Omega.{arith}
use borrow.Author.Tests.{eqb-true}
use lib.Dec.{eqb}
use Rattle.flash.specs.Steps.{applied}
use Rattle.flash.specs.declared.geometry.Geometry.{Geometry}
use Rattle.flash.specs.declared.steps.Step.TheVariants.{Byte}
use Rattle.flash.specs.declared.steps.Step.{Step}
use Rattle.slots.specs.Places.{image_of}
use Rattle.slots.specs.Trailers.{state_at}
use Rattle.slots.specs.declared.places.Slot.TheVariants.{Boot, Update}
use Rattle.slots.proofs.Exchanging.{exchange_step_at}
use Rattle.loader.specs.Checks.{Checks}
use Rattle.loader.specs.Decisions.{boot_or, next_step}
use Rattle.loader.specs.States.{spent, on_trial}
use Rattle.loader.specs.Answers as A
use Rattle.loader.specs.Decisions.{why}
use Rattle.runner.specs.Runs.{meets, run_for}
use Rattle.power_loss.proofs.Decided.{boot_ends, at_exchange, at_passed_over, finish-due, finish-last, finish-on}
use Rattle.power_loss.proofs.Ends.{finishes, move_finishing, over}
use Rattle.power_loss.proofs.Exchange.{move_exchanging}
use Rattle.power_loss.proofs.Invariant.{Setting, Phase, renewing, exchanging, finishing, Over, cost, Move}
use Rattle.power_loss.proofs.OneSector.{kept_self}
use Rattle.power_loss.proofs.Returning.{Within, within_more, within-did, stops, idle_run}
use Rattle.power_loss.proofs.RunSteps.{run-due, run_step, step_done, run-last}
use Rattle.power_loss.proofs.Weights.{ones, of_one}

-- nothing is known of the sectors
abbrev pub found : Geometry → List ℕ → Setting
found g o = record {
  g = g;
  origin = o;
  Held = λ p f. Unit {0};
  Returns = ⊥;
  retargets = λ p f f' d h c x. tt;
  advances = λ p f f' d h e c x. tt;
  starts = λ f f' d c x. tt;
  ends = λ s f f' d h c x. tt;
}

module _ (checks : Checks) (g : Geometry) (o : List ℕ) where
  abbrev pub t : Setting
  t = found g o

  abbrev pub limit : {f : List ℕ} {late : Bool} → Phase t f late → ℕ
  limit p = cost t ones p + (9 * g.count + 4)

  -- a step that is decided, and the rest of the run
  goes_on : (m l l' : ℕ) (f : List ℕ) (a b : Bool) (s : Step) → next_step checks g f a b ≡ A.Step s → suc l' ≤ l
      → ((a' b' : Bool) → Within m l' (run_for checks g m a' b' (applied g f s))) → Within (suc m) l (run_for checks g (suc m) a b f)
  unfolding meets
  goes_on m l l' f a b s e le rest =
      rw (run_step checks g f a b m s e, step_done checks g f a b s e) (within_more le (within-did s (rest _ _)))

  last_step : (m l : ℕ) (f : List ℕ) (a b : Bool) (s : Step) → next_step checks g f a b ≡ A.LastStep s → 1 ≤ l
      → Within (suc m) l (run_for checks g (suc m) a b f)
  last_step m l f a b s e h = rw (run-last checks g f a b m s e) (record { steps = omega arith; ends = λ q. tt })

  pub found-run : (m : ℕ) (f : List ℕ) (a b : Bool) {late : Bool} (p : Phase t f late) → Within m (limit p) (run_for checks g m a b f)
  found-run zero f a b p = rw (run-due checks g f a b) (record { steps = omega arith; ends = λ q. absurd (omega arith) })
  found-run (suc m) f a b (renewing h) = absurd h.may
  found-run (suc m) f a b (exchanging p left e h) = go (λ f' a' b' late p'. found-run m f' a' b' {late = late} p') (eqb (why checks g f b p) 0) refl
    where
      ph : Phase t f false
      ph = exchanging p left e h

      mv : Move t ph (exchange_step_at g f p)
      mv = move_exchanging t f p left e h

      go : ((f' : List ℕ) (a' b' : Bool) (late : Bool) (p' : Phase t f' late) → Within m (limit p') (run_for checks g m a' b' f'))
          → (c : Bool) → eqb (why checks g f b p) 0 ≡ c → Within (suc m) (limit ph) (run_for checks g (suc m) a b f)
      go rec true q =
          goes_on m (limit ph) (limit mv.whole.phase) f a b (exchange_step_at g f p)
          (at_exchange t h checks a b (omega arith) (eqb-true (why checks g f b p) 0 q))
          (omega (arith, (of_one (exchange_step_at g f p)).0, mv.less ones, mv.whole.fits ones))
          (λ a' b'. rec (applied g f (exchange_step_at g f p)) a' b' mv.whole.late mv.whole.phase)
      go rec false q = stops checks g f a b (boot_or checks g f a (why checks g f b p)) (at_passed_over t h checks a b q)
          (boot_ends checks g f h.base.ok a b (why checks g f b p)) (suc m) (limit ph)
  found-run (suc m) f a b (finishing h) = go (λ f' a' b' late p'. found-run m f' a' b' {late = late} p') (on_trial g f) refl
    where
      ph : Phase t f true
      ph = finishing h

      spending : Step
      spending = Byte (state_at g Update) spent

      spent-run : (e : on_trial g f ≡ true) (a' b' : Bool) → Within m (9 * g.count + 4) (run_for checks g m a' b' (applied g f spending))
      spent-run e a' b' =
          let v : Over t (applied g f spending) = over t f h e in
          idle_run checks g (applied g f spending) (record { ok = v.base.ok; bytes = v.base.bytes; kept = kept_self g (applied g f spending) })
          v.idle v.trial a' b' m

      last : on_trial g f ≡ true → (c : Bool) → eqb (checks.verdict (image_of g f Boot) a) 0 ≡ c
          → Within (suc m) (limit ph) (run_for checks g (suc m) a b f)
      last e true q =
          last_step m (limit ph) f a b spending (finish-last t h checks a b e (eqb-true (checks.verdict (image_of g f Boot) a) 0 q)) (omega arith)
      last e false q =
          goes_on m (limit ph) (9 * g.count + 4) f a b spending (finish-on t h checks a b e q) (omega arith) (spent-run e)

      go : ((f' : List ℕ) (a' b' : Bool) (late : Bool) (p' : Phase t f' late) → Within m (limit p') (run_for checks g m a' b' f'))
          → (c : Bool) → on_trial g f ≡ c → Within (suc m) (limit ph) (run_for checks g (suc m) a b f)
      go rec true e = last e (eqb (checks.verdict (image_of g f Boot) a) 0) refl
      go rec false e =
          let d : Step = (finishes t f h e).0 in
          let mv : Move t ph d = move_finishing t f h e in
          goes_on m (limit ph) (limit mv.whole.phase) f a b d (finish-due t h checks a b d (finishes t f h e).1.is-due)
          (omega (arith, (of_one d).0, mv.less ones, mv.whole.fits ones))
          (λ a' b'. rec (applied g f d) a' b' mv.whole.late mv.whole.phase)

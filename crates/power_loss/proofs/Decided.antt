-- What is decided, by document 01's numbers: the one place here that opens the decisions. Assumes nothing.
use Prim.Native.Nat.{ℕ, ◌*◌, ◌<◌}
use mathlib.Core.Bool.{Bool, true, false, cond}
use mathlib.Core.List.{List}
use mathlib.Core.Logic.{◌⊎◌, inl, inr, ◌≢◌}
use mathlib.Core.Path.{◌≡◌, refl, ◌∙◌}
use native.Mathlib.Omega.{arith}
use borrow.Author.Tests.{ne_eqb}
use lib.Dec.{eqb}
use lib.ListN.{length}
use Rattle.compare.proofs.Tests.{by_test}
use Rattle.flash.specs.Geometry.{geometry_check}
use Rattle.flash.specs.declared.geometry.Geometry.{Geometry}
use Rattle.flash.specs.declared.steps.Step.TheVariants.{Byte}
use Rattle.flash.specs.declared.steps.Step.{Step}
use Rattle.slots.specs.Flags.{flags, progress_of}
use Rattle.slots.specs.Places.{image_of, trailer_of}
use Rattle.slots.specs.Trailers.{state_at, renew, renewal_of}
use Rattle.std.specs.Prelude.{Some, Ok, Err}
use Rattle.slots.specs.declared.places.Slot.TheVariants.{Boot, Update}
use Rattle.slots.proofs.Corresponding.{one_to_one}
use Rattle.slots.proofs.Exchanging.{exchange_step_at, exchange_due, exchange_finished}
use Rattle.loader.specs.Checks.{Checks}
use Rattle.loader.specs.Decisions.{boot_or, go_back, passed_over, spend, finish, decision, next_step}
use Rattle.loader.specs.States.{updating, spent, testing, staged, on_trial}
use Rattle.loader.specs.Answers as A
use Rattle.loader.specs.Decisions.{why}
use Rattle.loader.proofs.ByProgress.{at_refusal, at_progress}
use Rattle.runner.specs.Runs.{all_updated}
use Rattle.power_loss.specs.RunEnds.{IsEnd}
use Rattle.power_loss.proofs.Ends.{renewed_sound}
use Rattle.power_loss.proofs.Invariant.{Setting, Going}
use Rattle.power_loss.proofs.OneSector.{base_valid}

module _ (checks : Checks) (g : Geometry) (f : List ℕ) (ok : geometry_check g (length f) ≡ 0) (a b : Bool) where
  decided : next_step checks g f a b ≡ decision checks g f a b
  unfolding next_step
  decided = rw ok

  -- ---- no swap is pending

  abbrev verdict : ℕ
  verdict = checks.verdict (image_of g f Update) b

  go_back_lem : staged g f ≡ false → on_trial g f ≡ true → next_step checks g f a b ≡ go_back checks g f a b
  unfolding decision
  go_back_lem idle trial = decided ∙ rw (idle, trial)

  -- 5: UPDATE passes, or it doesn't
  pub back_due : staged g f ≡ false → on_trial g f ≡ true → verdict ≡ 0 → (d : Step) → renewal_of g f Update updating ≡ Some d
      → next_step checks g f a b ≡ A.Step d
  unfolding go_back
  back_due idle trial v d e = go_back_lem idle trial ∙ rw (v, e)

  pub back_passed_over : staged g f ≡ false → on_trial g f ≡ true → eqb verdict 0 ≡ false → next_step checks g f a b ≡ boot_or checks g f a verdict
  unfolding go_back
  back_passed_over idle trial v = go_back_lem idle trial ∙ rw v

  -- 6
  pub at_rest : staged g f ≡ false → on_trial g f ≡ false → next_step checks g f a b ≡ boot_or checks g f a 0
  unfolding decision
  at_rest idle e = decided ∙ rw (idle, e)

  pub boot_ends : (r : ℕ) → IsEnd (boot_or checks g f a r)
  unfolding boot_or
  boot_ends r = by_test IsEnd (eqb (checks.verdict (image_of g f Boot) a) 0) (λ _. tt) (λ _. tt)

  -- ---- a swap is pending

  -- 1
  pub at_ill_formed : staged g f ≡ true → (n : ℕ) → progress_of (flags g.count (trailer_of g f Update)) ≡ Err n
      → next_step checks g f a b ≡ A.Refused n
  unfolding decision
  at_ill_formed e n q = decided ∙ rw e (at_refusal checks g f ok testing a b n q)

  -- 3: UPDATE passes, and BOOT is on trial or UPDATE's image may replace it
  pub not_passed_over : verdict ≡ 0 → (on_trial g f ≡ true) ⊎ (checks.acceptance (image_of g f Boot) (image_of g f Update) ≡ 0)
      → passed_over checks g f b ≡ 0
  unfolding passed_over
  not_passed_over v (inl e) = rw (v, e)
  not_passed_over v (inr e) = rw (v, e) (either (on_trial g f))
    where
      either : (c : Bool) → ◌≡◌ {A = ℕ} (cond c 0 0) 0
      either true = refl
      either false = refl

module _ (t : Setting) {p : ℕ} {f : List ℕ} (h : Going t p f) where
  open t use {g}

  is_at : progress_of (flags g.count (trailer_of g f Update)) ≡ Ok p
  unfolding progress_of
  is_at = rw (h.reached.formed, h.reached.reached)

  module _ (checks : Checks) (a b : Bool) where
    -- 4, and 3 where all flags are F
    pub at_exchange : p < 3 * g.count → why checks g f b p ≡ 0 → next_step checks g f a b ≡ A.Step (exchange_step_at g f p)
    unfolding decision
    at_exchange l w =
        decided checks g f h.base.ok a b
        ∙ rw h.is-staged (at_progress checks g f h.base.ok testing a b p is_at ∙ rw (w, exchange_due g f p l))

    pub at_passed_over : eqb (why checks g f b p) 0 ≡ false → next_step checks g f a b ≡ boot_or checks g f a (why checks g f b p)
    unfolding decision
    at_passed_over w =
        decided checks g f h.base.ok a b ∙ rw h.is-staged (at_progress checks g f h.base.ok testing a b p is_at ∙ rw w)

  -- all flags are 0 just at the end
  pub all-updated_at : all_updated g f ≡ eqb p (3 * g.count)
  unfolding all_updated
  all-updated_at = rw h.is-staged ((one_to_one g.count).says p (flags g.count (trailer_of g f Update)) h.reached).all-updated

-- 2
module _ (t : Setting) {f : List ℕ} (h : Going t (3 * t.g.count) f) (checks : Checks) (a b : Bool) where
  open t use {g}

  abbrev spending : Step
  spending = Byte (state_at g Update) spent

  at_finish : next_step checks g f a b ≡ finish checks g f testing a
  unfolding decision
  at_finish =
      let e : 3 * g.count ≢ 0 = λ z. omega (arith, (base_valid h.base).shape.count_min) in
      decided checks g f h.base.ok a b
      ∙ rw h.is-staged (at_progress checks g f h.base.ok testing a b (3 * g.count) (is_at t h)
      ∙ rw (ne_eqb (3 * g.count) 0 e, exchange_finished g f (3 * g.count) (omega arith)))

  pub finish-due : (d : Step) → renewal_of g f Boot testing ≡ Some d → next_step checks g f a b ≡ A.Step d
  unfolding finish
  finish-due d e = at_finish ∙ rw e

  module _ (e : on_trial g f ≡ true) where
    spends : finish checks g f testing a ≡ spend checks g f a
    unfolding finish renew
    spends = rw (renewed_sound (trailer_of g f Boot) testing, e)

    pub finish-last : checks.verdict (image_of g f Boot) a ≡ 0 → next_step checks g f a b ≡ A.LastStep spending
    unfolding spend
    finish-last v = at_finish ∙ spends ∙ rw v

    pub finish-on : eqb (checks.verdict (image_of g f Boot) a) 0 ≡ false → next_step checks g f a b ≡ A.Step spending
    unfolding spend
    finish-on v = at_finish ∙ spends ∙ rw v

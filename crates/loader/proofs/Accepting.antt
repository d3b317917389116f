-- Every step that is decided is accepted. Assumes nothing.
use Prim.Native.Nat.{ℕ}
use mathlib.Core.Bool.{Bool, true, cond}
use mathlib.Core.List.{List}
use mathlib.Core.Path.{◌≡◌, refl}
use borrow.Author.Tests.{eqb-true}
use lib.Dec.{eqb}
use lib.ListN.{length}
use Rattle.compare.proofs.Tests.{by_test}
use Rattle.flash.specs.Geometry.{geometry_check}
use Rattle.flash.specs.Steps.{accepted, step_check}
use Rattle.flash.specs.Valid.{Valid}
use Rattle.flash.specs.declared.geometry.Geometry.{Geometry}
use Rattle.flash.specs.declared.steps.Step.{Step}
use Rattle.flash.proofs.Areas.{valid}
use Rattle.flash.proofs.Shown.{step-passes}
use Rattle.slots.specs.Exchange.{exchange_of}
use Rattle.slots.specs.Flags.{flags, progress_of}
use Rattle.slots.specs.Places.{image_of, trailer_of}
use Rattle.slots.specs.Trailers.{sound_with, renewal_of}
use Rattle.std.specs.Prelude.{Option, Some, None, Result, Ok, Err}
use Rattle.slots.specs.declared.places.Slot.TheVariants.{Boot, Update}
use Rattle.slots.proofs.DueAccepted.{DueAccepted, state-accepted, renewal_accepted, exchange_accepted}
use Rattle.loader.specs.StepsAccepted.{StepsAccepted}
use Rattle.loader.specs.Checks.{Checks}
use Rattle.loader.specs.Decisions.{or_else, boot_or, go_back, why, spend, finish, staged_decision, decision, next_step}
use Rattle.loader.specs.Requests.{swap_begun, triggering, confirming, trigger_answer, confirm_answer}
use Rattle.loader.specs.States.{updating, testing, success, staged, on_trial}
use Rattle.loader.specs.Answers as A
use Rattle.loader.proofs.ByProgress.{at_refusal, at_progress}
use Rattle.loader.specs.Answers.{Answer}

-- the step of an answer is accepted
abbrev pub AnswerAccepted : Geometry → Answer → Type 0
AnswerAccepted g (A.Step s) = accepted g s ≡ true
AnswerAccepted g (A.LastStep s) = accepted g s ≡ true
AnswerAccepted g (A.Boot n) = Unit {0}
AnswerAccepted g (A.Refused n) = Unit {0}

or_else_lem : (g : Geometry) (w : Option Step) (a : Answer) → DueAccepted g w → AnswerAccepted g a → AnswerAccepted g (or_else w a)
or_else_lem g (Some s) a h checks = h
or_else_lem g None a h checks = checks

-- the same of a request's answer
abbrev pub RequestAccepted : Geometry → Result (Option Step) ℕ → Type 0
RequestAccepted g (Ok w) = DueAccepted g w
RequestAccepted g (Err n) = Unit {0}

module _ (checks : Checks) (g : Geometry) (f : List ℕ) (ok : geometry_check g (length f) ≡ 0) (a b : Bool) where
  v : Valid g (length f)
  v = valid g (length f) ok

  boot_or_lem : (why : ℕ) → AnswerAccepted g (boot_or checks g f a why)
  unfolding boot_or
  boot_or_lem why = by_test (AnswerAccepted g) (eqb (checks.verdict (image_of g f Boot) a) 0) (λ _. tt) (λ _. tt)

  spending : AnswerAccepted g (spend checks g f a)
  unfolding spend
  spending = by_test (AnswerAccepted g) (eqb (checks.verdict (image_of g f Boot) a) 0) (λ _. state-accepted g f v Update 0x30) (λ _. state-accepted g f v Update 0x30)

  finishing : (t : ℕ) → AnswerAccepted g (finish checks g f t a)
  unfolding finish
  finishing t = or_else_lem g (renewal_of g f Boot t) (spend checks g f a) (renewal_accepted g f v Boot t) spending

  swaps : (t : ℕ) → AnswerAccepted g (staged_decision checks g f t a b)
  swaps t = go (progress_of fs) refl
    where
      fs : List ℕ
      fs = flags g.count (trailer_of g f Update)

      go : (r : Result ℕ ℕ) → progress_of fs ≡ r → AnswerAccepted g (staged_decision checks g f t a b)
      go (Err n) e = rw (at_refusal checks g f ok t a b n e) tt
      go (Ok p) e = rw (at_progress checks g f ok t a b p e)
          (by_test (AnswerAccepted g) (eqb (why checks g f b p) 0)
          (λ _. or_else_lem g (exchange_of g f p) (finish checks g f t a) (exchange_accepted g f v p) (finishing t)) (λ _. boot_or_lem (why checks g f b p)))

  goes_back : AnswerAccepted g (go_back checks g f a b)
  unfolding go_back
  goes_back = by_test (AnswerAccepted g) (eqb (checks.verdict (image_of g f Update) b) 0)
      (λ _. or_else_lem g (renewal_of g f Update updating) (boot_or checks g f a 0) (renewal_accepted g f v Update updating) (boot_or_lem 0))
      (λ _. boot_or_lem (checks.verdict (image_of g f Update) b))

  pub decision-accepted : AnswerAccepted g (decision checks g f a b)
  unfolding decision
  decision-accepted = by_test (AnswerAccepted g) (staged g f) (λ _. swaps testing)
      (λ _. by_test (AnswerAccepted g) (on_trial g f) (λ _. goes_back) (λ _. boot_or_lem 0))

module _ (g : Geometry) (f : List ℕ) (v : Valid g (length f)) where
  triggers : RequestAccepted g (triggering g f)
  unfolding triggering
  triggers = by_test (RequestAccepted g) (swap_begun g f) (λ _. tt)
      (λ _. by_test (RequestAccepted g) (on_trial g f) (λ _. tt) (λ _. renewal_accepted g f v Update updating))

  confirms : RequestAccepted g (confirming g f)
  unfolding confirming
  confirms = by_test (RequestAccepted g) (swap_begun g f) (λ _. tt)
      (λ _. by_test (RequestAccepted g) (on_trial g f) (λ _. state-accepted g f v Boot success)
      (λ _. by_test (RequestAccepted g) (sound_with (trailer_of g f Boot) success) (λ _. tt) (λ _. tt)))

-- ---- on every input

module _ (g : Geometry) (f : List ℕ) where
  -- what is answered where the geometry is not refused, or else a refusal
  by_geometry : {B : Type 0} (P : B → Type 0) {x y : B} → (geometry_check g (length f) ≡ 0 → P x) → P y
      → P (cond (eqb (geometry_check g (length f)) 0) x y)
  by_geometry P h checks = by_test P (eqb (geometry_check g (length f)) 0) (λ e. h (eqb-true _ _ e)) (λ _. checks)

  abbrev Checked : Answer → Type 0
  Checked x = (s : Step) → ((x ≡ A.Step s → step_check g (length f) s ≡ 0) × (x ≡ A.LastStep s → step_check g (length f) s ≡ 0))

  checked : (x : Answer) → geometry_check g (length f) ≡ 0 → AnswerAccepted g x → Checked x
  checked x e h s = (
    λ q. step-passes g (length f) s e (rw q at h),
    λ q. step-passes g (length f) s e (rw q at h),
  )

  refused : (n : ℕ) → Checked (A.Refused n)
  refused n s = (λ q. (cc), λ q. (cc))

  next : (checks : Checks) (a b : Bool) → Checked (next_step checks g f a b)
  unfolding next_step
  next checks a b = by_geometry Checked (λ e. checked (decision checks g f a b) e (decision-accepted checks g f e a b)) (refused _)

  abbrev RequestChecked : Result (Option Step) ℕ → Type 0
  RequestChecked w = (s : Step) → w ≡ Ok (Some s) → step_check g (length f) s ≡ 0

  request_checked : (w : Result (Option Step) ℕ) → geometry_check g (length f) ≡ 0 → RequestAccepted g w → RequestChecked w
  request_checked w e h s q = step-passes g (length f) s e (rw q at h)

  request_refused : (n : ℕ) → RequestChecked (Err n)
  request_refused n s q = cc

  trigger : RequestChecked (trigger_answer g f)
  unfolding trigger_answer
  trigger = by_geometry RequestChecked (λ e. request_checked (triggering g f) e (triggers g f (valid g (length f) e))) (request_refused _)

  confirm : RequestChecked (confirm_answer g f)
  unfolding confirm_answer
  confirm = by_geometry RequestChecked (λ e. request_checked (confirming g f) e (confirms g f (valid g (length f) e))) (request_refused _)

pub steps-accepted : StepsAccepted
steps-accepted g f s = record {
  step = λ checks a b. (next g f checks a b s).0;
  last = λ checks a b. (next g f checks a b s).1;
  trigger = trigger g f s;
  confirm = confirm g f s;
}

-- Claim: every step that is decided is accepted, so that carrying out a step of our own never answers 24.
use Rattle.std.specs.Prelude.{ℕ, Bool, List, Some, Ok, ◌≡◌, length}
use Rattle.flash.specs.Steps.{step_check}
use Rattle.flash.specs.declared.geometry.Geometry.{Geometry}
use Rattle.flash.specs.declared.steps.Step.{Step}
use Rattle.loader.specs.Checks.{Checks}
use Rattle.loader.specs.Decisions.{next_step}
use Rattle.loader.specs.Requests.{trigger_answer, confirm_answer}
use Rattle.loader.specs.Answers as A

pub record StepAccepted (g : Geometry) (f : List ℕ) (s : Step) : Type 0 where
  pub step : (checks : Checks) (a b : Bool) → next_step checks g f a b ≡ A.Step s → step_check g (length f) s ≡ 0
  pub last : (checks : Checks) (a b : Bool) → next_step checks g f a b ≡ A.LastStep s → step_check g (length f) s ≡ 0
  pub trigger : trigger_answer g f ≡ Ok (Some s) → step_check g (length f) s ≡ 0
  pub confirm : confirm_answer g f ≡ Ok (Some s) → step_check g (length f) s ≡ 0

abbrev pub StepsAccepted : Type 0
StepsAccepted = (g : Geometry) (f : List ℕ) (s : Step) → StepAccepted g f s

-- Claim: what trigger says, carried out again and again, is finished after at most three steps, and trigger says so.
use Rattle.std.specs.Prelude.{ℕ, zero, suc, List, Option, Some, None, Result, Ok, Err, ◌≢◌, ◌≡◌}
use Rattle.flash.specs.Steps.{flash_after}
use Rattle.flash.specs.declared.geometry.Geometry.{Geometry}
use Rattle.flash.specs.declared.steps.Step.{Step}
use Rattle.loader.specs.Requests.{trigger_answer}

-- the flash after the step that a request has due is carried out
abbrev pub after_request : Geometry → List ℕ → Result (Option Step) ℕ → List ℕ
after_request g f (Ok (Some s)) = flash_after g f s
after_request g f (Ok None) = f
after_request g f (Err n) = f

-- the same n times over, with trigger asked each time
unfoldable pub triggered : ℕ → Geometry → List ℕ → List ℕ
triggered zero g f = f
triggered (suc n) g f = triggered n g (after_request g f (trigger_answer g f))

abbrev pub TriggerEnds : Type 0
TriggerEnds = (g : Geometry) (f : List ℕ) → ((n : ℕ) → trigger_answer g f ≢ Err n) → trigger_answer g (triggered 3 g f) ≡ Ok None

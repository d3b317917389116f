-- Document 01, "The next step", from "A run decides" on: one step decided and done, and the bounded run. a and b are
-- the signature checker's answers for BOOT and UPDATE.
use Rattle.std.specs.Prelude.{ℕ, zero, suc, Bool, false, cond, not, ◌&&◌, List, [], ◌∷◌, ◌≡◌, eqb, leb, length}
use Rattle.compare.specs.Compare.{all}
use Rattle.flash.specs.Geometry.{unless, geometry_check}
use Rattle.flash.specs.Steps.{flash_after}
use Rattle.flash.specs.declared.geometry.Geometry.{Geometry}
use Rattle.flash.specs.declared.steps.Step.{Step}
use Rattle.slots.specs.Flags.{updated, flags}
use Rattle.slots.specs.Places.{trailer_of}
use Rattle.slots.specs.declared.places.Slot.TheVariants.{Update}
use Rattle.loader.specs.Checks.{Checks}
use Rattle.loader.specs.Decisions.{next_step}
use Rattle.loader.specs.States.{staged}
use Rattle.loader.specs.Answers.{Answer}
use Rattle.loader.specs.Answers as A
use Rattle.runner.specs.Counts.{with_steps, counts_check}
use Rattle.runner.specs.declared.counts.StepCounts.{StepCounts}

-- UPDATE is sound with 70 and all flags are 0
unfoldable pub all_updated : Geometry → List ℕ → Bool
all_updated g f = staged g f && all updated (flags g.count (trailer_of g f Update))

-- the flash after the step that is answered
abbrev pub after_answer : Geometry → List ℕ → Answer → List ℕ
after_answer g f (A.Step s) = flash_after g f s
after_answer g f (A.LastStep s) = flash_after g f s
after_answer g f (A.Boot why) = f
after_answer g f (A.Refused n) = f

-- that step makes the last flag 0
abbrev pub turns : Geometry → List ℕ → Answer → Bool
turns g f (A.Step s) = not (all_updated g f) && all_updated g (flash_after g f s)
turns g f (A.LastStep s) = false
turns g f (A.Boot why) = false
turns g f (A.Refused n) = false

-- what a run leaves: its answer, the flash, and its finished steps in order
pub record Outcome : Type 0 where
  pub answer : Answer
  pub flash : List ℕ
  pub steps : List Step

abbrev pub ends : Answer → List ℕ → Outcome
ends x f = record { answer = x; flash = f; steps = [] }

abbrev pub did : Step → Outcome → Outcome
did s o = record { answer = o.answer; flash = o.flash; steps = s ∷ o.steps }

-- a run from here on: the checker's answers and the flash
abbrev pub Rest : Type 0
Rest = Bool → Bool → List ℕ → Outcome

-- an answer met with a step left: the step is done, and the answers of the checker change places when it makes the
-- last flag 0; after a last step boot at once, with no reason
unfoldable pub meets : Geometry → Rest → Bool → Bool → List ℕ → Answer → Outcome
meets g more a b f (A.Step s) =
    let t : Bool = turns g f (A.Step s) in did s (more (cond t b a) (cond t a b) (flash_after g f s))
meets g more a b f (A.LastStep s) = did s (ends (A.Boot 0) (flash_after g f s))
meets g more a b f (A.Boot why) = ends (A.Boot why) f
meets g more a b f (A.Refused n) = ends (A.Refused n) f

-- up to a number of steps; with the number used up, the step due
unfoldable pub run_for : Checks → Geometry → ℕ → Rest
run_for checks g zero a b f = ends (next_step checks g f a b) f
run_for checks g (suc m) a b f = meets g (run_for checks g m) a b f (next_step checks g f a b)

-- the number that a run is refused with before its first step, 0 for none: the geometry's, 29, 28
unfoldable pub run_check : Geometry → ℕ → ℕ → StepCounts → ℕ
run_check g len number c =
    unless (eqb (geometry_check g len) 0) (geometry_check g len) (unless (leb number 4096) 29 (counts_check c))

-- a run on every input
unfoldable pub run_of : Checks → Geometry → ℕ → Bool → Bool → List ℕ → StepCounts → Outcome
run_of checks g number a b f c =
    let r : ℕ = run_check g (length f) number c in cond (eqb r 0) (run_for checks g number a b f) (ends (A.Refused r) f)

-- an answer and a flash are those that a run ends with
abbrev pub EndsWith : Outcome → Answer → List ℕ → Type 0
EndsWith o x f = (x ≡ o.answer) × (f ≡ o.flash)

-- and a record is the one before the run, c₀, with its finished steps
abbrev pub Leaves : StepCounts → Outcome → Answer → List ℕ → StepCounts → Type 0
Leaves c₀ o x f c = EndsWith o x f × (c ≡ with_steps c₀ o.steps)

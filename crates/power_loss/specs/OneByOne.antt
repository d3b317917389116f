-- Claim: a run carries out one step at a time, the one just decided, and lists it. So a run with a smaller number is the beginning of one
-- with a larger, and a power loss finds the flash as some smaller number leaves it.
use Rattle.std.specs.Prelude.{ℕ, suc, ◌<◌, Bool, List, [], ◌∷◌, ◌++◌, ◌≡◌}
use Rattle.flash.specs.Steps.{flash_after}
use Rattle.flash.specs.declared.geometry.Geometry.{Geometry}
use Rattle.flash.specs.declared.steps.Step.{Step}
use Rattle.loader.specs.Checks.{Checks}
use Rattle.loader.specs.Answers as A
use Rattle.loader.specs.Answers.{Answer}
use Rattle.runner.specs.Runs.{Outcome, run_of}
use Rattle.runner.specs.declared.counts.StepCounts.{StepCounts}

-- o' is o and then the step s
pub record Then (g : Geometry) (o : Outcome) (s : Step) (o' : Outcome) : Type 0 where
  pub flash : o'.flash ≡ flash_after g o.flash s
  pub steps : o'.steps ≡ o.steps ++ s ∷ []

-- what one step more makes of what a run leaves, by its answer x
abbrev pub OneMore : Geometry → Answer → Outcome → Outcome → Type 0
OneMore g (A.Step s) o o' = Then g o s o'
OneMore g (A.LastStep s) o o' = Then g o s o' × (o'.answer ≡ A.Boot 0)
OneMore g (A.Boot why) o o' = o' ≡ o
OneMore g (A.Refused n) o o' = o' ≡ o

-- runs with any number, from the flash f
pub record StepByStep (g : Geometry) (f : List ℕ) (run : ℕ → Outcome) : Type 0 where
  pub none : ((run 0).flash ≡ f) × ((run 0).steps ≡ [])
  pub more : (m : ℕ) → m < 4096 → OneMore g (run m).answer (run m) (run (suc m))

abbrev pub OneByOne : Type 0
OneByOne =
    (checks : Checks) (g : Geometry) (a b : Bool) (f : List ℕ) (c : StepCounts) → StepByStep g f (λ m. run_of checks g m a b f c)

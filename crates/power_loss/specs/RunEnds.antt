-- Claims: a run ends by itself. On every flash, under every verdict and every pair of answers, it makes at most 2 (9n + 4) steps whatever its
-- number, and with this number or a larger one, such as 4096, it ends in a boot or a refusal: it never answers a step due.
use Rattle.std.specs.Prelude.{ℕ, ◌≤◌, Bool, List, length}
use Rattle.flash.specs.Cuts.{Bytes}
use Rattle.flash.specs.declared.geometry.Geometry.{Geometry}
use Rattle.loader.specs.Checks.{Checks}
use Rattle.loader.specs.Answers as A
use Rattle.loader.specs.Answers.{Answer}
use Rattle.runner.specs.MostSteps.{step_bound, most_steps_of}
use Rattle.runner.specs.Runs.{run_of}
use Rattle.runner.specs.declared.counts.StepCounts.{StepCounts}

-- a boot or a refusal
abbrev pub IsEnd : Answer → Type 0
IsEnd (A.Step s) = ⊥
IsEnd (A.LastStep s) = ⊥
IsEnd (A.Boot why) = Unit {0}
IsEnd (A.Refused n) = Unit {0}

pub record Ends (checks : Checks) (g : Geometry) (a b : Bool) (f : List ℕ) (c : StepCounts) : Type 0 where
  pub steps : (m : ℕ) → length (run_of checks g m a b f c).steps ≤ step_bound g.count
  pub ends : IsEnd (run_of checks g 4096 a b f c).answer

abbrev pub RunEnds : Type 0
RunEnds = (checks : Checks) (g : Geometry) (a b : Bool) (f : List ℕ) (c : StepCounts) → Bytes f → Ends checks g a b f c

-- with the number that the caller is told, and with every larger one
abbrev pub EndsWithMost : Type 0
EndsWithMost = (checks : Checks) (g : Geometry) (a b : Bool) (f : List ℕ) (c : StepCounts) → Bytes f
    → (m : ℕ) → most_steps_of g.count ≤ m → IsEnd (run_of checks g m a b f c).answer

-- and a run takes that number: it is not refused for 29
abbrev pub MostTaken : Type 0
MostTaken = (n : ℕ) → most_steps_of n ≤ 4096

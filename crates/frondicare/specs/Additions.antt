-- What is answered and left of a record of steps where C adds a step by its op.
use Rattle.std.specs.Prelude.{ℕ, Option, Some, None}
use Rattle.flash.specs.declared.steps.Step.{Step}
use Rattle.runner.specs.Counts.{counts_check, counts_after}
use Rattle.runner.specs.declared.counts.StepCounts.{StepCounts}
use Rattle.frondicare.specs.Steps.{step_of}

-- a step's offsets and value don't count here
abbrev pub step_by : ℕ → Option Step
step_by op = step_of op 0 0 0

-- the number answered: no step is 24
abbrev pub addition_check : StepCounts → Option Step → ℕ
addition_check c (Some s) = counts_check c
addition_check c None = 24

-- the record left: no step changes nothing
abbrev pub counts_left : StepCounts → Option Step → StepCounts
counts_left c (Some s) = counts_after c s
counts_left c None = c

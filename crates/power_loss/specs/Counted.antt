-- Claim: the finished steps in the events are just those that a run adds to its counters.
use Rattle.std.specs.Prelude.{ℕ, ◌+◌, List, ◌≡◌}
use Rattle.flash.specs.declared.steps.Step.{Step}
use Rattle.runner.specs.Counts.{with_steps}
use Rattle.runner.specs.declared.counts.StepCounts.{StepCounts}
use Rattle.power_loss.specs.Histories.{finished_all, begun}

abbrev pub total : StepCounts → ℕ
total c = c.erases + c.copies + c.bytes + c.marks

abbrev pub StepsCounted : Type 0
StepsCounted = (c : StepCounts) (l : List Step) → total (with_steps c l) ≡ total c + begun (finished_all l)

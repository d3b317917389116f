-- A finished step adds one to the counters. Assumes nothing.
use Prim.Native.Nat.{suc}
use mathlib.Core.List.{[], ◌∷◌}
use mathlib.Core.Path.{◌≡◌}
use native.Mathlib.Omega.{arith}
use Rattle.flash.specs.declared.steps.Step.TheVariants.{Erase, Copy, Byte, Mark}
use Rattle.flash.specs.declared.steps.Step.{Step}
use Rattle.runner.specs.Counts.{with_step, with_steps}
use Rattle.runner.specs.declared.counts.StepCounts.{StepCounts}
use Rattle.power_loss.specs.Counted.{total, StepsCounted}
use Rattle.power_loss.specs.Histories.{finished_all, sum}

one : (c : StepCounts) (s : Step) → total (with_step c s) ≡ suc (total c)
one c (Erase at) = omega arith
one c (Copy from to) = omega arith
one c (Byte at v) = omega arith
one c (Mark at) = omega arith

pub steps-counted : StepsCounted
unfolding with_steps finished_all sum
steps-counted c [] = omega arith
steps-counted c (s ∷ l) = omega (arith, one c s, steps-counted (with_step c s) l)

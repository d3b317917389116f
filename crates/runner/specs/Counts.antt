-- Document 01, "The next step": the record of finished steps, one counter per kind (the paper's word is a tally).
use Rattle.std.specs.Prelude.{ℕ, ◌+◌, ◌^◌, ◌<◌, Bool, cond, ◌&&◌, List, [], ◌∷◌, leb}
use Rattle.flash.specs.Geometry.{unless}
use Rattle.flash.specs.declared.steps.Step.{Step}
use Rattle.flash.specs.declared.steps.Step.TheVariants.{Erase, Copy, Byte, Mark}
use Rattle.runner.specs.declared.counts.StepCounts.{StepCounts}

-- one finished step more
abbrev pub with_step : StepCounts → Step → StepCounts
with_step c (Erase at) = record { erases = c.erases + 1; copies = c.copies; bytes = c.bytes; marks = c.marks }
with_step c (Copy from to) = record { erases = c.erases; copies = c.copies + 1; bytes = c.bytes; marks = c.marks }
with_step c (Byte at v) = record { erases = c.erases; copies = c.copies; bytes = c.bytes + 1; marks = c.marks }
with_step c (Mark at) = record { erases = c.erases; copies = c.copies; bytes = c.bytes; marks = c.marks + 1 }

-- the finished steps of a run, in order
unfoldable pub with_steps : StepCounts → List Step → StepCounts
with_steps c [] = c
with_steps c (s ∷ l) = with_steps (with_step c s) l

-- no counter is above 4,294,963,199: there is room for the 4096 steps of a run
unfoldable pub roomy : StepCounts → Bool
roomy c = leb c.erases 4294963199 && leb c.copies 4294963199 && leb c.bytes 4294963199 && leb c.marks 4294963199

-- adding one step: the number answered, and the record that is left
unfoldable pub counts_check : StepCounts → ℕ
counts_check c = unless (roomy c) 28 0

unfoldable pub counts_after : StepCounts → Step → StepCounts
counts_after c s = cond (roomy c) (with_step c s) c

-- ---- the code's own: each counter has room for n steps more

pub record RoomFor (c : StepCounts) (n : ℕ) : Type 0 where
  pub erases_in : c.erases + n < 2 ^ 32
  pub copies_in : c.copies + n < 2 ^ 32
  pub bytes_in : c.bytes + n < 2 ^ 32
  pub marks_in : c.marks + n < 2 ^ 32

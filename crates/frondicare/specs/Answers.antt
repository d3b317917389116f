-- The number and the values that document 01 gives for each case of an answer, as C gets them.
use Rattle.std.specs.Prelude.{ℕ, List, Option, Some, None, Result, Ok, Err, ◌≡◌}
use Rattle.flash.specs.declared.steps.Step.{Step}
use Rattle.flash.specs.declared.steps.Step.TheVariants.{Erase, Copy, Byte, Mark}
use Rattle.loader.specs.Answers as A
use Rattle.loader.specs.Answers.{Answer}
use Rattle.runner.specs.Runs.{Outcome, Leaves}
use Rattle.runner.specs.declared.counts.StepCounts.{StepCounts}
use Rattle.frondicare.specs.declared.loader_entries.FlatAnswer.{FlatAnswer}

-- a step: its op, and its numbers as the simulator prints them
abbrev pub flat_step : ℕ → Step → FlatAnswer
flat_step kind (Erase at) = record { kind = kind; number = 0; op = 0; value = 0; at = at; to = 0 }
flat_step kind (Copy from to) = record { kind = kind; number = 0; op = 1; value = 0; at = from; to = to }
flat_step kind (Byte at v) = record { kind = kind; number = 0; op = 2; value = v; at = at; to = 0 }
flat_step kind (Mark at) = record { kind = kind; number = 0; op = 3; value = 0; at = at; to = 0 }

-- anything else: its number
abbrev pub flat_number : ℕ → ℕ → FlatAnswer
flat_number kind n = record { kind = kind; number = n; op = 0; value = 0; at = 0; to = 0 }

-- 0 step, 1 last step, 2 boot, 3 refused
abbrev pub flat_answer : Answer → FlatAnswer
flat_answer (A.Step s) = flat_step 0 s
flat_answer (A.LastStep s) = flat_step 1 s
flat_answer (A.Boot why) = flat_number 2 why
flat_answer (A.Refused n) = flat_number 3 n

-- what a run leaves, with its answer as C gets it
abbrev pub FlatLeaves : StepCounts → Outcome → FlatAnswer → List ℕ → StepCounts → Type 0
FlatLeaves c₀ o x f c = (x ≡ flat_answer o.answer) × Leaves c₀ o o.answer f c

-- 0 step, 3 refused, 4 finished
abbrev pub flat_work : Result (Option Step) ℕ → FlatAnswer
flat_work (Ok (Some s)) = flat_step 0 s
flat_work (Ok None) = flat_number 4 0
flat_work (Err n) = flat_number 3 n

-- What the next step answers, a refusal as the paper's number; and the code's answer with its numbers.
use Rattle.std.specs.Prelude.{ℕ, Option, Some, None, Result, Ok, Err}
use Rattle.flash.specs.declared.steps.Step.{Step as FlashStep}
use Rattle.refusal.specs.declared.Refusal.{Refusal}
use Rattle.refusal.specs.Numbers.{number}
use Rattle.loader.specs.declared.answers.Answer.{Answer as Answered}
use Rattle.loader.specs.declared.answers.Answer.TheVariants as C

-- a step, the last step before booting, a boot with the number that UPDATE was passed over for (0 for none), or a
-- refusal
pub data Answer : Type 0 where
  Step : FlashStep → Answer
  LastStep : FlashStep → Answer
  Boot : ℕ → Answer
  Refused : ℕ → Answer

-- the number of a reason, 0 for none
abbrev pub number_for : Option Refusal → ℕ
number_for None = 0
number_for (Some r) = number r

abbrev pub numbered_answer : Result Answered Refusal → Answer
numbered_answer (Ok (C.Step s)) = Step s
numbered_answer (Ok (C.LastStep s)) = LastStep s
numbered_answer (Ok (C.Boot why)) = Boot (number_for why)
numbered_answer (Err r) = Refused (number r)

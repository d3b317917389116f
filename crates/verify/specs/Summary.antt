-- What the program tells of an image i: the verdict, and what the header says where it passes its checks.
use Rattle.std.specs.Prelude.{ℕ, Bool, cond, List, eqb, Result, Ok, Err}
use Rattle.header.specs.Checks.{size_of, header_check}
use Rattle.header.specs.Lookup.{view_of}
use Rattle.header.specs.Numbers.{number_at}
use Rattle.header.specs.Types.{version_type, timestamp_type, firmware_type_type}
use Rattle.image.specs.Verdict.{verdict}
use Rattle.refusal.specs.Numbers.{number, number_or_zero}
use Rattle.refusal.specs.declared.Refusal.{Refusal}
use Rattle.verify.specs.declared.summary.Numbers.{Numbers}
use Rattle.verify.specs.declared.summary.Summary.{Summary}

unfoldable pub numbers_of : List ℕ → Numbers
numbers_of i =
    record {
      version = number_at 4 (view_of i version_type) 0;
      timestamp = number_at 8 (view_of i timestamp_type) 0;
      firmware_type = number_at 2 (view_of i firmware_type_type) 0;
      size = size_of i;
    }

-- The verdict's number and the header's. A header that fails a check is refused with its number, which is then the verdict's too.
unfoldable pub summary_of : List ℕ → Bool → Result (ℕ × Numbers) ℕ
summary_of i signed = cond (eqb (header_check i) 0) (Ok (verdict i signed, numbers_of i)) (Err (header_check i))

-- the code's answer with numbers in place of refusals
abbrev pub told : Result Summary Refusal → Result (ℕ × Numbers) ℕ
told (Ok s) = Ok (number_or_zero s.verdict, s.numbers)
told (Err r) = Err (number r)

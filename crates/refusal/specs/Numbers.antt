-- Document 01, "Numbers given back", and document 02's numbers 30 and 31.
use Rattle.std.specs.Prelude.{ℕ, Result, Ok, Err, ◌≡◌}
use Rattle.refusal.specs.declared.Refusal.{Refusal}
use Rattle.refusal.specs.declared.Refusal.TheVariants as R

abbrev pub number : Refusal → ℕ
number R.SectorSize = 1
number R.SectorCount = 2
number R.AreaPlace = 3
number R.AreaOverlap = 4
number R.Input = 5
number R.Length = 10
number R.Mark = 11
number R.Size = 12
number R.TagOverrun = 13
number R.TagMissing = 14
number R.TagRepeated = 15
number R.TagLength = 16
number R.Digest = 17
number R.Signature = 18
number R.Version = 19
number R.Flags = 20
number R.OnTrial = 21
number R.SwapBegun = 22
number R.NothingOnTrial = 23
number R.Step = 24
number R.TagAbsent = 25
number R.CustomLength = 26
number R.CustomForm = 27
number R.Counters = 28
number R.RunNumber = 29
number R.Uncovered = 30
number R.LookupStart = 31

-- an answer with its refusal's number in place of the refusal
abbrev pub numbered : {A : Type 0} → Result A Refusal → Result A ℕ
numbered (Ok x) = Ok x
numbered (Err r) = Err (number r)

-- the number of an answer's refusal, and 0 where it is none: so the paper's checks answer
abbrev pub number_or_zero : {A : Type 0} → Result A Refusal → ℕ
number_or_zero (Ok x) = 0
number_or_zero (Err r) = number r

-- Claim: a number tells which refusal it is, and none is 0. Proved in proofs/Told.antt.
pub record NumbersTell : Type 0 where
  pub told : (r s : Refusal) → number r ≡ number s → r ≡ s
  pub never_zero : (r : Refusal) → number r ≡ 0 → ⊥

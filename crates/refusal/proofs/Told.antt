-- A number tells which refusal it is: `refusal` gets it back.
use Rattle.std.specs.Prelude.{ℕ, Option, Some, None, false, cond, eqb, ◌≡◌}
use mathlib.Core.Path.{refl, sym, ap, ◌∙◌}
use borrow.Author.Tests.{ne_eqb}
use Rattle.refusal.specs.Numbers.{number, NumbersTell}
use Rattle.refusal.specs.declared.Refusal.{Refusal}
use Rattle.refusal.specs.declared.Refusal.TheVariants as R

abbrev refusal : ℕ → Option Refusal
refusal n =
    (cond (eqb n 1) (Some R.SectorSize)
    (cond (eqb n 2) (Some R.SectorCount)
    (cond (eqb n 3) (Some R.AreaPlace)
    (cond (eqb n 4) (Some R.AreaOverlap)
    (cond (eqb n 5) (Some R.Input)
    (cond (eqb n 10) (Some R.Length)
    (cond (eqb n 11) (Some R.Mark)
    (cond (eqb n 12) (Some R.Size)
    (cond (eqb n 13) (Some R.TagOverrun)
    (cond (eqb n 14) (Some R.TagMissing)
    (cond (eqb n 15) (Some R.TagRepeated)
    (cond (eqb n 16) (Some R.TagLength)
    (cond (eqb n 17) (Some R.Digest)
    (cond (eqb n 18) (Some R.Signature)
    (cond (eqb n 19) (Some R.Version)
    (cond (eqb n 20) (Some R.Flags)
    (cond (eqb n 21) (Some R.OnTrial)
    (cond (eqb n 22) (Some R.SwapBegun)
    (cond (eqb n 23) (Some R.NothingOnTrial)
    (cond (eqb n 24) (Some R.Step)
    (cond (eqb n 25) (Some R.TagAbsent)
    (cond (eqb n 26) (Some R.CustomLength)
    (cond (eqb n 27) (Some R.CustomForm)
    (cond (eqb n 28) (Some R.Counters)
    (cond (eqb n 29) (Some R.RunNumber)
    (cond (eqb n 30) (Some R.Uncovered)
    (cond (eqb n 31) (Some R.LookupStart)
    None)))))))))))))))))))))))))))

back : (r : Refusal) → refusal (number r) ≡ Some r
back R.SectorSize = refl
back R.SectorCount = refl
back R.AreaPlace = refl
back R.AreaOverlap = refl
back R.Input = refl
back R.Length = refl
back R.Mark = refl
back R.Size = refl
back R.TagOverrun = refl
back R.TagMissing = refl
back R.TagRepeated = refl
back R.TagLength = refl
back R.Digest = refl
back R.Signature = refl
back R.Version = refl
back R.Flags = refl
back R.OnTrial = refl
back R.SwapBegun = refl
back R.NothingOnTrial = refl
back R.Step = refl
back R.TagAbsent = refl
back R.CustomLength = refl
back R.CustomForm = refl
back R.Counters = refl
back R.RunNumber = refl
back R.Uncovered = refl
back R.LookupStart = refl

told : (r s : Refusal) → number r ≡ number s → r ≡ s
told r s e = let some : Some r ≡ Some s = sym (back r) ∙ ap refusal e ∙ back s in cc

never_zero : (r : Refusal) → number r ≡ 0 → ⊥
never_zero r e = let some : refusal 0 ≡ Some r = sym (ap refusal e) ∙ back r in cc

-- so a refusal is no answer that passes
pub refuses : (r : Refusal) → eqb (number r) 0 ≡ false
refuses r = ne_eqb (number r) 0 (never_zero r)

pub numbers_tell : NumbersTell
numbers_tell = record { told = told; never_zero = never_zero }

-- The code's own: a flag as a kind, by its value in our build, and as it is read of the flash.
use Rattle.std.specs.Prelude.{ℕ, ◌≤◌, ◌<◌, List, Result, Ok, Err, ◌≢◌, ◌≡◌}
use Rattle.refusal.specs.declared.Refusal.{Refusal}
use Rattle.refusal.specs.declared.Refusal.TheVariants as R
use Rattle.slots.specs.Flags.{new, swapping, backup, updated, flag}
use Rattle.slots.specs.declared.flags.Flag.{Flag}
use Rattle.slots.specs.declared.flags.Flag.TheVariants.{New, Swapping, Backup, Updated}

abbrev pub value : Flag → ℕ
value New = new
value Swapping = swapping
value Backup = backup
value Updated = updated

-- half a byte read as a flag: no other value is one
abbrev pub Read : ℕ → Result Flag Refusal → Type 0
Read half (Ok f) = value f ≡ half
Read half (Err r) = (r ≡ R.Flags) × ((f : Flag) → value f ≢ half)

-- of n sectors' flags in t those from a sector on are v up to the end, where another one stands if any does
pub record RunEnd (n : ℕ) (t : List ℕ) (v from end : ℕ) : Type 0 where
  pub low : from ≤ end
  pub high : end ≤ n
  pub alike : (k : ℕ) → from ≤ k → k < end → flag t k ≡ v
  pub other : end < n → flag t end ≢ v

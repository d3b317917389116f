-- Claim: well-formed flags of n sectors and the progress numbers from 0 to 3n correspond one to one.
use Rattle.std.specs.Prelude.{ℕ, zero, suc, ◌-◌, ◌*◌, ◌/◌, ◌≤◌, ◌<◌, true, cond, List, [], ◌∷◌, ◌≡◌, eqb, ltb, length, get_or, replicate}
use Rattle.compare.specs.Compare.{all}
use Rattle.slots.specs.Flags.{new, updated, well_formed, lowest_unfinished, progress, flag_of}

-- the flags of n sectors that a progress stands for
unfoldable pub flags_for : ℕ → ℕ → List ℕ
flags_for zero p = []
flags_for (suc n) p = cond (ltb p 3) (flag_of p ∷ replicate n new) (updated ∷ flags_for n (p - 3))

-- fs are well-formed flags of n sectors, and stand for the progress p
pub record FlagsAt (n p : ℕ) (fs : List ℕ) : Type 0 where
  pub count : length fs ≡ n
  pub formed : well_formed fs ≡ true
  pub reached : progress fs ≡ p

-- what a progress says, in the words of document 01's decisions
pub record Says (n p : ℕ) (fs : List ℕ) : Type 0 where
  pub bound : p ≤ 3 * n
  pub only : fs ≡ flags_for n p
  pub all_new : all new fs ≡ eqb p 0
  pub all-updated : all updated fs ≡ eqb p (3 * n)
  pub current : p < 3 * n → (lowest_unfinished fs ≡ p / 3) × (get_or fs (p / 3) 0 ≡ flag_of p)

pub record OneToOneFor (n : ℕ) : Type 0 where
  pub stands : (p : ℕ) → p ≤ 3 * n → FlagsAt n p (flags_for n p)
  pub says : (p : ℕ) (fs : List ℕ) → FlagsAt n p fs → Says n p fs

abbrev pub OneToOne : Type 0
OneToOne = (n : ℕ) → OneToOneFor n

-- Document 01, "Trailers and flags": the sector flags in UPDATE's trailer t, and how far the exchange has come.
use Rattle.std.specs.Prelude.{ℕ, zero, suc, ◌+◌, ◌-◌, ◌*◌, ◌/◌, ◌%◌, ◌<◌, Bool, true, cond, ◌&&◌, ◌||◌, List, [], ◌∷◌, Result, Ok, Err, ◌≡◌, eqb, length, get_or}
use Rattle.compare.specs.Compare.{all}
use Rattle.flash.specs.declared.geometry.Geometry.{Geometry}
use Rattle.flash.specs.declared.steps.Step.{Step}
use Rattle.flash.specs.declared.steps.Step.TheVariants.{Byte}
use Rattle.slots.specs.Places.{offset, trailer_of}
use Rattle.slots.specs.declared.places.Place.TheVariants.{Sector}
use Rattle.slots.specs.declared.places.Slot.TheVariants.{Update}

-- a flag's values in our build
abbrev pub new : ℕ
new = 0xF

abbrev pub swapping : ℕ
swapping = 0x7

abbrev pub backup : ℕ
backup = 0x3

abbrev pub updated : ℕ
updated = 0x0

-- two per byte, the even sector in the low half
unfoldable pub half : ℕ → ℕ → ℕ
half i b = cond (eqb (i % 2) 0) (b % 16) (b / 16)

-- the byte with that half replaced
unfoldable pub with_half : ℕ → ℕ → ℕ → ℕ
with_half i v b = cond (eqb (i % 2) 0) (b / 16 * 16 + v) (v * 16 + b % 16)

-- downward from the state byte
unfoldable pub flag_at : ℕ → ℕ → ℕ
flag_at len i = len - 6 - i / 2

unfoldable pub flag : List ℕ → ℕ → ℕ
flag t i = half i (get_or t (flag_at (length t) i) 0)

-- h 0, h 1, .., n of them
unfoldable pub tab : ℕ → (ℕ → ℕ) → List ℕ
tab zero h = []
tab (suc n) h = h 0 ∷ tab n (λ k. h (suc k))

-- the flags of n sectors
unfoldable pub flags : ℕ → List ℕ → List ℕ
flags n t = tab n (flag t)

-- some 0s, then at most one 7 or 3, then F only
unfoldable pub well_formed : List ℕ → Bool
well_formed [] = true
well_formed (x ∷ xs) = cond (eqb x updated) (well_formed xs) ((eqb x swapping || eqb x backup || eqb x new) && all new xs)

-- the lowest sector whose flag isn't 0
unfoldable pub lowest_unfinished : List ℕ → ℕ
lowest_unfinished [] = 0
lowest_unfinished (x ∷ xs) = cond (eqb x updated) (suc (lowest_unfinished xs)) 0

-- the progress: three for each finished sector, and in the current one 1 for swapping, 2 for backup
unfoldable pub stage : ℕ → ℕ
stage v = cond (eqb v swapping) 1 (cond (eqb v backup) 2 0)

unfoldable pub progress : List ℕ → ℕ
progress [] = 0
progress (x ∷ xs) = cond (eqb x updated) (3 + progress xs) (stage x)

unfoldable pub progress_of : List ℕ → Result ℕ ℕ
progress_of fs = cond (well_formed fs) (Ok (progress fs)) (Err 20)

-- the current sector's flag at a progress p; the sector is p / 3
unfoldable pub flag_of : ℕ → ℕ
flag_of p = cond (eqb (p % 3) 0) new (cond (eqb (p % 3) 1) swapping backup)

-- the step that writes sector i's flag as v in the trailer t at an offset, the other half of the byte as it is
unfoldable pub flag_step : ℕ → List ℕ → ℕ → ℕ → Step
flag_step at t i v =
    let k : ℕ = flag_at (length t) i in
    Byte (at + k) (with_half i v (get_or t k 0))

unfoldable pub flag_step_of : Geometry → List ℕ → ℕ → ℕ → Step
flag_step_of g f i v = flag_step (offset g (Sector Update g.count)) (trailer_of g f Update) i v

-- ---- the code's own: a flag byte lies in the trailer; the progress by the lowest sector whose flag isn't 0, that
-- flag, and whether the rest is new

pub record FlagPlace (len i at : ℕ) : Type 0 where
  pub is : at ≡ flag_at len i
  pub inside : at < len

unfoldable pub progress_at : ℕ → ℕ → Bool → Result ℕ ℕ
progress_at i v rest = cond ((eqb v swapping || eqb v backup || eqb v new) && rest) (Ok (3 * i + stage v)) (Err 20)

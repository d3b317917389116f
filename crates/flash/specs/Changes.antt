-- Claims about a step that is accepted: only its target changes, and all but an erase only clear bits.
use Rattle.std.specs.Prelude.{ℕ, ◌+◌, ◌/◌, ◌%◌, ◌^◌, ◌≤◌, ◌<◌, List, ◌⊎◌, ◌≡◌, length, get_or}
use Rattle.flash.specs.Cuts.{Cut}
use Rattle.flash.specs.Geometry.{slot_size}
use Rattle.flash.specs.Steps.{applied, step_check}
use Rattle.flash.specs.declared.geometry.Geometry.{Geometry}
use Rattle.flash.specs.declared.steps.Step.{Step}
use Rattle.flash.specs.declared.steps.Step.TheVariants.{Erase, Copy, Byte, Mark}

-- the bytes that a step is about: where they start, and how many
abbrev pub target_start : Step → ℕ
target_start (Erase at) = at
target_start (Copy from to) = to
target_start (Byte at v) = at
target_start (Mark at) = at

abbrev pub target_size : Geometry → Step → ℕ
target_size g (Erase at) = g.size
target_size g (Copy from to) = g.size
target_size g (Byte at v) = 1
target_size g (Mark at) = 4

-- k bytes from an offset on lie within m bytes from a start on
abbrev pub Lies : ℕ → ℕ → ℕ → ℕ → Type 0
Lies at k start m = (start ≤ at) × (at + k ≤ start + m)

abbrev pub InAreas : Geometry → ℕ → ℕ → Type 0
InAreas g at k = Lies at k g.boot (slot_size g) ⊎ (Lies at k g.update (slot_size g) ⊎ Lies at k g.swap g.size)

-- from f to f' nothing changed but k bytes from an offset on
pub record Only (f f' : List ℕ) (at k : ℕ) : Type 0 where
  pub size : length f' ≡ length f
  pub others : (i : ℕ) → (i < at) ⊎ (at + k ≤ i) → get_or f' i 0 ≡ get_or f i 0

-- whole or cut, an accepted step changes its target only, which lies in one of the three areas
pub record TargetOnly (g : Geometry) (f : List ℕ) (s : Step) : Type 0 where
  pub inside : InAreas g (target_start s) (target_size g s)
  pub whole : Only f (applied g f s) (target_start s) (target_size g s)
  pub cut : (f' : List ℕ) → Cut g f s f' → Only f f' (target_start s) (target_size g s)

-- bit k of a number
abbrev pub bit : ℕ → ℕ → ℕ
bit k x = x / 2 ^ k % 2

-- no bit of f' is set that is clear in f
abbrev pub Clears : List ℕ → List ℕ → Type 0
Clears f f' = (i k : ℕ) → bit k (get_or f' i 0) ≤ bit k (get_or f i 0)

-- what is claimed of an accepted step's bits: of an erase nothing
abbrev pub ClearsOnly : Geometry → List ℕ → Step → Type 0
ClearsOnly g f (Erase at) = Unit {0}
ClearsOnly g f (Copy from to) = Clears f (applied g f (Copy from to))
ClearsOnly g f (Byte at v) = Clears f (applied g f (Byte at v))
ClearsOnly g f (Mark at) = Clears f (applied g f (Mark at))

pub record Changes : Type 0 where
  pub only : (g : Geometry) (f : List ℕ) (s : Step) → step_check g (length f) s ≡ 0 → TargetOnly g f s
  pub clears : (g : Geometry) (f : List ℕ) (s : Step) → step_check g (length f) s ≡ 0 → ClearsOnly g f s

-- Document 01, "The next step", decision 4: the exchange of sector i, the lowest whose flag v isn't 0.
use Rattle.std.specs.Prelude.{ℕ, ◌*◌, ◌/◌, cond, List, Option, Some, None, eqb, ltb}
use Rattle.compare.specs.Compare.{same, all}
use Rattle.flash.specs.declared.geometry.Geometry.{Geometry}
use Rattle.flash.specs.declared.steps.Step.{Step}
use Rattle.flash.specs.declared.steps.Step.TheVariants.{Erase, Copy}
use Rattle.slots.specs.Flags.{new, swapping, backup, updated, flag_of, flag_step_of}
use Rattle.slots.specs.Places.{offset, bytes_at}
use Rattle.slots.specs.declared.places.Place.{Place}
use Rattle.slots.specs.declared.places.Place.TheVariants.{Sector, Swap}
use Rattle.slots.specs.declared.places.Slot.TheVariants.{Boot, Update}

-- one of three: with F, with 7, with 3
abbrev pub by_flag : {A : Type 0} → ℕ → A → A → A → A
by_flag v a b c = cond (eqb v new) a (cond (eqb v swapping) b c)

unfoldable pub source : ℕ → ℕ → Place
source i v = by_flag v (Sector Update i) (Sector Boot i) Swap

unfoldable pub target : ℕ → ℕ → Place
target i v = by_flag v Swap (Sector Update i) (Sector Boot i)

unfoldable pub next_flag : ℕ → ℕ
next_flag v = by_flag v swapping backup updated

-- source and target equal: Byte with the next flag; target all FF: Copy; else Erase
unfoldable pub exchange_step : Geometry → List ℕ → ℕ → ℕ → Step
exchange_step g f i v =
    cond (same (bytes_at g f (source i v)) (bytes_at g f (target i v))) (flag_step_of g f i (next_flag v))
    (cond (all 0xFF (bytes_at g f (target i v))) (Copy (offset g (source i v)) (offset g (target i v)))
    (Erase (offset g (target i v))))

-- ---- at a progress p, as the code goes: sector p / 3 is the lowest whose flag isn't 0, and flag_of p its flag
-- (`current` in Correspondence); none is due where all flags are 0

unfoldable pub exchange_of : Geometry → List ℕ → ℕ → Option Step
exchange_of g f p = cond (ltb p (3 * g.count)) (Some (exchange_step g f (p / 3) (flag_of p))) None

unfoldable pub next_flag_of : Geometry → List ℕ → ℕ → Option Step
next_flag_of g f p = cond (ltb p (3 * g.count)) (Some (flag_step_of g f (p / 3) (next_flag (flag_of p)))) None

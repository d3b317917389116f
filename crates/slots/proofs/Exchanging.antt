-- The places of the exchange: three copies for each sector. Assumes nothing.
use Prim.Native.Nat.{ℕ, ◌*◌, ◌/◌, ◌≤◌, ◌<◌}
use mathlib.Core.Bool.{Bool, true, false, cond}
use mathlib.Core.List.{List}
use mathlib.Core.Logic.{◌≢◌}
use mathlib.Core.Path.{◌≡◌}
use native.Mathlib.Omega.{arith}
use borrow.Author.Tests.{lt-ltb, le-ltb}
use Rattle.std.specs.Prelude.{Some, None}
use lib.Dec.{eqb}
use Rattle.flash.specs.declared.geometry.Geometry.{Geometry}
use Rattle.flash.specs.declared.steps.Step.{Step}
use Rattle.slots.specs.Exchange.{source, target, exchange_step, exchange_of}
use Rattle.slots.specs.Flags.{new, swapping, flag_of}
use Rattle.slots.specs.Places.{Within}
use Rattle.slots.specs.declared.places.Place.{Place}
use Rattle.slots.specs.declared.places.Place.TheVariants.{Sector, Swap}
use Rattle.slots.specs.declared.places.Slot.TheVariants.{Boot, Update}

-- at a progress p
abbrev pub source_at : ℕ → Place
source_at p = source (p / 3) (flag_of p)

abbrev pub target_at : ℕ → Place
target_at p = target (p / 3) (flag_of p)

abbrev pub exchange_step_at : Geometry → List ℕ → ℕ → Step
exchange_step_at g f p = exchange_step g f (p / 3) (flag_of p)

-- what holds of each of the three copies of a sector holds with every flag
pub by_copy : (P : Place → Place → Type 0) (i v : ℕ) → P (Sector Update i) Swap → P (Sector Boot i) (Sector Update i)
    → P Swap (Sector Boot i) → P (source i v) (target i v)
unfolding source target
by_copy P i v first second third = go (eqb v new) (eqb v swapping)
  where
    go : (a b : Bool) → P (cond a (Sector Update i) (cond b (Sector Boot i) Swap)) (cond a Swap (cond b (Sector Update i) (Sector Boot i)))
    go true b = first
    go false true = second
    go false false = third

-- both are sectors of the geometry
pub copy_in : (g : Geometry) (i v : ℕ) → i < g.count → Within g (source i v) × Within g (target i v)
copy_in g i v h = by_copy (λ s t. Within g s × Within g t) i v (omega arith, tt) (omega arith, omega arith) (tt, omega arith)

never_same : {A : Type 0} → ◌≡◌ {A = ℕ} 0 1 → A
never_same e = absurd (omega arith)

pub copy_apart : (i v : ℕ) → source i v ≢ target i v
copy_apart i v = by_copy (λ s t. s ≢ t) i v (λ e. never_same (cc)) (λ e. never_same (cc)) (λ e. never_same (cc))

-- a step is due until all sectors are finished
pub exchange_due : (g : Geometry) (f : List ℕ) (p : ℕ) → p < 3 * g.count → exchange_of g f p ≡ Some (exchange_step_at g f p)
unfolding exchange_of
exchange_due g f p h = rw (lt-ltb p (3 * g.count) h)

pub exchange_finished : (g : Geometry) (f : List ℕ) (p : ℕ) → 3 * g.count ≤ p → exchange_of g f p ≡ None
unfolding exchange_of
exchange_finished g f p h = rw (le-ltb p (3 * g.count) h)

-- Decisions 1 to 4 by the progress, as the code goes. Assumes nothing.
use Prim.Native.Nat.{ℕ, ◌*◌, ◌≤◌, ◌<◌}
use mathlib.Core.Bool.{Bool, true, false, cond, not}
use mathlib.Core.List.{List}
use Rattle.std.specs.Prelude.{Ok, Err}
use mathlib.Core.Logic.{◌≢◌}
use mathlib.Core.Path.{◌≡◌, refl, ◌∙◌}
use native.Mathlib.Decide.{ℕ_discrete}
use native.Mathlib.Omega.{arith}
use borrow.Author.Tests.{eq-eqb, ne_eqb}
use lib.Dec.{eqb}
use lib.ListN.{length, get_or}
use Rattle.compare.specs.Compare.{all}
use Rattle.flash.specs.Geometry.{geometry_check}
use Rattle.flash.specs.declared.geometry.Geometry.{Geometry}
use Rattle.flash.proofs.Areas.{valid}
use Rattle.slots.specs.Correspondence.{Says}
use Rattle.slots.specs.Exchange.{exchange_step, exchange_of}
use Rattle.slots.specs.Flags.{new, updated, flags, well_formed, lowest_unfinished, progress_of}
use Rattle.slots.specs.Places.{trailer_of}
use Rattle.slots.specs.declared.places.Slot.TheVariants.{Update}
use Rattle.slots.proofs.Exchanging.{exchange_step_at, exchange_due, exchange_finished}
use Rattle.slots.proofs.Reached.{flags_at, flags-says, ill_formed}
use Rattle.loader.specs.Checks.{Checks}
use Rattle.loader.specs.Decisions.{or_else, boot_or, passed_over, why, finish, staged_decision}
use Rattle.loader.specs.Answers.{Answer}
use Rattle.loader.specs.Answers as A

module _ (checks : Checks) (g : Geometry) (f : List ℕ) (ok : geometry_check g (length f) ≡ 0) (t : ℕ) (a b : Bool) where
  abbrev fs : List ℕ
  fs = flags g.count (trailer_of g f Update)

  pub at_refusal : (n : ℕ) → progress_of fs ≡ Err n → staged_decision checks g f t a b ≡ A.Refused n
  unfolding staged_decision
  at_refusal n e = let h = ill_formed fs n e in rw (h.0, h.1)

  abbrev by : ℕ → Answer
  by p = cond (eqb (why checks g f b p) 0) (or_else (exchange_of g f p) (finish checks g f t a)) (boot_or checks g f a (why checks g f b p))

  module _ (p : ℕ) (e : progress_of fs ≡ Ok p) where
    says : Says g.count p fs
    says = flags-says g.count (trailer_of g f Update) p e

    formed : well_formed fs ≡ true
    formed = (flags_at fs p e).formed

    -- 4
    current : p < 3 * g.count → exchange_step g f (lowest_unfinished fs) (get_or fs (lowest_unfinished fs) 0) ≡ exchange_step_at g f p
    current h = let c = says.current h in rw (c.0, c.1)

    sectors : 1 ≤ g.count
    sectors = (valid g (length f) ok).shape.count_min

    -- all flags F
    none-begun : p ≡ 0 → staged_decision checks g f t a b ≡ by p
    unfolding staged_decision
    none-begun z =
        let u : all updated fs ≡ false = says.all-updated ∙ ne_eqb p (3 * g.count) (omega (arith, sectors)) in
        let n : all new fs ≡ true = says.all_new ∙ eq-eqb p 0 z in
        let h : p < 3 * g.count = omega (arith, sectors) in
        rw (formed, u, n, current h, exchange_due g f p h, eq-eqb p 0 z) (go (eqb (passed_over checks g f b) 0))
      where
        go : (c : Bool) → cond (not c) (boot_or checks g f a (passed_over checks g f b)) (A.Step (exchange_step_at g f p))
            ≡ cond c (A.Step (exchange_step_at g f p)) (boot_or checks g f a (passed_over checks g f b))
        go true = refl
        go false = refl

    -- all flags 0
    all_done : p ≢ 0 → p ≡ 3 * g.count → staged_decision checks g f t a b ≡ by p
    unfolding staged_decision
    all_done z w = rw (formed, says.all-updated, eq-eqb p (3 * g.count) w, ne_eqb p 0 z, exchange_finished g f p (omega arith))

    between : p ≢ 0 → p ≢ 3 * g.count → staged_decision checks g f t a b ≡ by p
    unfolding staged_decision
    between z w =
        let h : p < 3 * g.count = omega (arith, says.bound) in
        rw (formed, says.all-updated, ne_eqb p (3 * g.count) w, says.all_new, ne_eqb p 0 z, current h, exchange_due g f p h)

    pub at_progress : staged_decision checks g f t a b ≡ by p
    at_progress = go (ℕ_discrete p 0) (ℕ_discrete p (3 * g.count))
      where
        go : Dec (p ≡ 0) → Dec (p ≡ 3 * g.count) → staged_decision checks g f t a b ≡ by p
        go (yes z) c = none-begun z
        go (no z) (yes w) = all_done z w
        go (no z) (no w) = between z w

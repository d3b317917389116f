-- A swap is begun exactly in mid-swap and where all flags are 0. Assumes nothing.
use Prim.Native.Nat.{ℕ, ◌*◌}
use mathlib.Core.Bool.{Bool, true, false, not, ◌&&◌, ◌||◌}
use mathlib.Core.List.{List}
use mathlib.Core.Path.{◌≡◌, refl, sym, ◌∙◌}
use native.Mathlib.Omega.{arith}
use borrow.Author.Tests.{eqb-true, ne_eqb}
use lib.ListN.{length}
use Rattle.compare.specs.Compare.{all}
use Rattle.flash.proofs.Areas.{valid}
use Rattle.slots.specs.Flags.{new, updated, flags, progress_of}
use Rattle.slots.specs.Places.{trailer_of}
use Rattle.std.specs.Prelude.{Result, Ok, Err}
use Rattle.slots.specs.declared.places.Slot.TheVariants.{Update}
use Rattle.slots.proofs.Reached.{new_at, updated-refused, flags-says}
use Rattle.loader.specs.MidSwap.{mid_swap, mid_swap_answer, BegunExactlyThen}
use Rattle.loader.specs.Requests.{swap_begun}
use Rattle.loader.specs.States.{staged}

-- by three tests: sound with 70, all F, all 0; the last two never both
by_tests : (a n u : Bool) → (n ≡ true → u ≡ false) → (a && not n) ≡ ((a && not n && not u) || (a && u))
by_tests false n u h = refl
by_tests true true true h = sym (h refl)
by_tests true true false h = refl
by_tests true false true h = refl
by_tests true false false h = refl

pub begun_exactly_then : BegunExactlyThen
unfolding swap_begun mid_swap mid_swap_answer
begun_exactly_then g f ok = rw ok (by_tests (staged g f) (all new fs) (all updated fs) (apart (progress_of fs) refl))
  where
    fs : List ℕ
    fs = flags g.count (trailer_of g f Update)

    apart : (r : Result ℕ ℕ) → progress_of fs ≡ r → all new fs ≡ true → all updated fs ≡ false
    apart (Err n) e h = updated-refused fs n e
    apart (Ok p) e h =
        let z : p ≡ 0 = eqb-true p 0 (sym (new_at fs p e) ∙ h) in
        (flags-says g.count (trailer_of g f Update) p e).all-updated ∙ ne_eqb p (3 * g.count) (omega (arith, z, (valid g (length f) ok).shape.count_min))

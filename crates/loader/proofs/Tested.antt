-- What the code tests of the progress is what the definitions test of the flags. Assumes nothing.
use Prim.Native.Nat.{ℕ, ◌*◌, ◌≤◌}
use mathlib.Core.Bool.{Bool}
use mathlib.Core.List.{List}
use mathlib.Core.Path.{◌≡◌, sym}
use lib.Dec.{eqb}
use lib.ListN.{length}
use Rattle.compare.specs.Compare.{all}
use Rattle.flash.specs.Geometry.{geometry_check}
use Rattle.flash.specs.declared.geometry.Geometry.{Geometry}
use Rattle.flash.proofs.Areas.{valid}
use Rattle.refusal.specs.Numbers.{numbered}
use Rattle.refusal.specs.declared.Refusal.{Refusal}
use Rattle.slots.specs.Flags.{new, updated, flags, progress_of}
use Rattle.slots.proofs.Reached.{new_at, new-refused, updated-refused, flags-says}
use Rattle.std.specs.Prelude.{Result, Ok, Err}
use Rattle.std.specs.Result.{result_eq}

pub sectors : (g : Geometry) (f : List ℕ) → geometry_check g (length f) ≡ 0 → g.count ≤ 64
sectors g f e = (valid g (length f) e).shape.count-max

module _ (same : Refusal → Refusal → Bool) where
  pub all_new : (fs : List ℕ) (r : Result ℕ Refusal) → numbered r ≡ progress_of fs → result_eq eqb same r (Ok 0) ≡ all new fs
  all_new fs (Ok p) e = sym (new_at fs p (sym e))
  all_new fs (Err x) e = sym (new-refused fs _ (sym e))

  pub all_updated :
      (n : ℕ) (t : List ℕ) (r : Result ℕ Refusal) →
      numbered r ≡ progress_of (flags n t) →
      result_eq eqb same r (Ok (3 * n)) ≡ all updated (flags n t)
  all_updated n t (Ok p) e = sym (flags-says n t p (sym e)).all-updated
  all_updated n t (Err x) e = sym (updated-refused (flags n t) _ (sym e))

pub ruleset progress_tests = (all_new, all_updated, sectors)

-- A run with one step more is the run and then that step. Assumes nothing.
use Prim.Native.Nat.{ℕ, zero, suc}
use mathlib.Core.Bool.{Bool, true, false, cond}
use mathlib.Core.List.{List, []}
use mathlib.Core.Path.{◌≡◌, refl}
use native.Mathlib.Omega.{arith}
use borrow.Author.Tests.{le-leb}
use lib.Dec.{eqb}
use lib.ListN.{length}
use Rattle.flash.specs.Geometry.{unless, geometry_check}
use Rattle.flash.specs.Steps.{flash_after}
use Rattle.flash.specs.declared.geometry.Geometry.{Geometry}
use Rattle.flash.specs.declared.steps.Step.{Step}
use Rattle.loader.specs.Checks.{Checks}
use Rattle.loader.specs.Decisions.{next_step}
use Rattle.loader.specs.Answers as A
use Rattle.loader.specs.Answers.{Answer}
use Rattle.runner.specs.Counts.{counts_check}
use Rattle.runner.specs.Runs.{Outcome, ends, did, turns, meets, run_for, run_check, run_of}
use Rattle.power_loss.specs.OneByOne.{OneMore, OneByOne}

module _ (checks : Checks) (g : Geometry) where
  -- a step before both changes nothing of it
  did_both : (s : Step) (x : Answer) (o o' : Outcome) → OneMore g x o o' → OneMore g x (did s o) (did s o')
  did_both s (A.Step t) o o' h = record { flash = h.flash; steps = rw h.steps refl }
  did_both s (A.LastStep t) o o' h = (record { flash = h.0.flash; steps = rw h.0.steps refl }, h.1)
  did_both s (A.Boot why) o o' h = rw h refl
  did_both s (A.Refused n) o o' h = rw h refl

  first : (a b : Bool) (f : List ℕ) (x : Answer) → OneMore g x (ends x f) (meets g (run_for checks g 0) a b f x)
  unfolding meets run_for
  first a b f (A.Step s) = record { flash = refl; steps = refl }
  first a b f (A.LastStep s) = (record { flash = refl; steps = refl }, refl)
  first a b f (A.Boot why) = refl
  first a b f (A.Refused n) = refl

  later : (m : ℕ) → ((a b : Bool) (f : List ℕ) → OneMore g (run_for checks g m a b f).answer (run_for checks g m a b f) (run_for checks g (suc m) a b f))
      → (a b : Bool) (f : List ℕ) (x : Answer)
      → OneMore g (meets g (run_for checks g m) a b f x).answer (meets g (run_for checks g m) a b f x) (meets g (run_for checks g (suc m)) a b f x)
  unfolding meets
  later m rec a b f (A.Step s) =
      let t : Bool = turns g f (A.Step s) in
      let f' : List ℕ = flash_after g f s in
      let o : Outcome = run_for checks g m (cond t b a) (cond t a b) f' in
      did_both s o.answer o (run_for checks g (suc m) (cond t b a) (cond t a b) f') (rec (cond t b a) (cond t a b) f')
  later m rec a b f (A.LastStep s) = refl
  later m rec a b f (A.Boot why) = refl
  later m rec a b f (A.Refused n) = refl

  one_more : (m : ℕ) (a b : Bool) (f : List ℕ) → OneMore g (run_for checks g m a b f).answer (run_for checks g m a b f) (run_for checks g (suc m) a b f)
  unfolding run_for
  one_more zero a b f = first a b f (next_step checks g f a b)
  one_more (suc m) a b f = later m (one_more m) a b f (next_step checks g f a b)

-- .. on every input: a refusal before the first step is the same with every number
pub one_by_one : OneByOne
unfolding run_of run_check run_for
one_by_one checks g a b f c = record {
  none = none (eqb (run_check g (length f) 0 c) 0) (run_check g (length f) 0 c);
  more = λ m lt. rw (le-leb m 4096 (omega arith), le-leb (suc m) 4096 (omega arith)) (more m (eqb refusal 0));
}
  where
    refusal : ℕ
    refusal = unless (eqb (geometry_check g (length f)) 0) (geometry_check g (length f)) (counts_check c)

    run : ℕ → Bool → ℕ → Outcome
    run m x n = cond x (run_for checks g m a b f) (ends (A.Refused n) f)

    none : (x : Bool) (n : ℕ) → ((run 0 x n).flash ≡ f) × ((run 0 x n).steps ≡ [])
    none true n = (refl, refl)
    none false n = (refl, refl)

    more : (m : ℕ) (x : Bool) → OneMore g (run m x refusal).answer (run m x refusal) (run (suc m) x refusal)
    more m true = one_more checks g m a b f
    more m false = refl

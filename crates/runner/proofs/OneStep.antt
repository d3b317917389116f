-- The step that makes the last flag 0. Assumes nothing.
use Prim.Native.Nat.{ℕ}
use mathlib.Core.Bool.{Bool, true, false, not, ◌&&◌}
use mathlib.Core.List.{List}
use mathlib.Core.Path.{◌≡◌, refl, sym, ◌∙◌}
use lib.Dec.{eqb}
use lib.ListN.{length}
use Rattle.compare.proofs.Tests.{never}
use Rattle.flash.specs.Geometry.{geometry_check}
use Rattle.flash.specs.Steps.{step_check, flash_after}
use Rattle.flash.specs.declared.geometry.Geometry.{Geometry}
use Rattle.flash.specs.declared.steps.Step.{Step}
use Rattle.loader.specs.Answers as A
use Rattle.runner.specs.Runs.{all_updated, turns}

-- a geometry that is refused lets no step change the flash
unchanged : (g : Geometry) (f : List ℕ) (s : Step) → eqb (geometry_check g (length f)) 0 ≡ false → flash_after g f s ≡ f
unfolding flash_after step_check
unchanged g f s e = rw (e, e)

neither : (b : Bool) → false ≡ not b && b
neither true = refl
neither false = refl

module _ (g : Geometry) (f : List ℕ) (s : Step) {before : Bool} (b : before ≡ (eqb (geometry_check g (length f)) 0 && all_updated g f)) where
  -- all flags were 0 before
  pub never_turned : before ≡ true → not before ≡ turns g f (A.Step s)
  never_turned q = go (eqb (geometry_check g (length f)) 0) refl
    where
      go : (x : Bool) → eqb (geometry_check g (length f)) 0 ≡ x → not before ≡ turns g f (A.Step s)
      go true p = rw (q, sym (rw p at (sym q ∙ b)))
      go false p = absurd (never (sym q ∙ rw p at b))

  -- they were not
  pub turned : {after : Bool} {f' : List ℕ} → before ≡ false → f' ≡ flash_after g f s → length f' ≡ length f
      → after ≡ (eqb (geometry_check g (length f')) 0 && all_updated g f') → after ≡ turns g f (A.Step s)
  turned {after} {f'} q e long a = go (eqb (geometry_check g (length f)) 0) refl
    where
      go : (x : Bool) → eqb (geometry_check g (length f)) 0 ≡ x → after ≡ turns g f (A.Step s)
      go true p = rw (sym (rw p at (sym q ∙ b)), ← e) (rw (long, p) at a)
      go false p = rw (unchanged g f s p) (rw (long, p) at a ∙ neither (all_updated g f))

pub ruleset turning = (turned, never_turned)

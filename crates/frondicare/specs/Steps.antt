-- The geometry and the step that C's numbers stand for, and what is answered and left where they are no step.
use Rattle.std.specs.Prelude.{ℕ, cond, List, Option, Some, None, leb, eqb}
use Rattle.flash.specs.Geometry.{unless, geometry_check}
use Rattle.flash.specs.Steps.{step_check, flash_after}
use Rattle.flash.specs.declared.geometry.Geometry.{Geometry}
use Rattle.flash.specs.declared.steps.Step.{Step}
use Rattle.flash.specs.declared.steps.Step.TheVariants.{Erase, Copy, Byte, Mark}

abbrev pub geometry_of : ℕ → ℕ → ℕ → ℕ → ℕ → Geometry
geometry_of z n boot update swap = record { size = z; count = n; boot = boot; update = update; swap = swap }

-- 0 erases, 1 copies, 2 writes a byte, 3 marks; an argument that a step has no use for doesn't count
unfoldable pub step_of : ℕ → ℕ → ℕ → ℕ → Option Step
step_of op at to value =
    cond (eqb op 0) (Some (Erase at))
    (cond (eqb op 1) (Some (Copy at to))
    (cond (eqb op 2) (cond (leb value 255) (Some (Byte at value)) None)
    (cond (eqb op 3) (Some (Mark at)) None)))

-- the number answered: no step is 24, after the geometry's numbers
abbrev pub number_of : Geometry → ℕ → Option Step → ℕ
number_of g len (Some s) = step_check g len s
number_of g len None = unless (eqb (geometry_check g len) 0) (geometry_check g len) 24

-- the flash left: no step changes nothing
abbrev pub flash_left : Geometry → List ℕ → Option Step → List ℕ
flash_left g f (Some s) = flash_after g f s
flash_left g f None = f

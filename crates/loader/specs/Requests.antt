-- Document 01, "The next step": trigger and confirm, with numbers 21 to 23.
use Rattle.std.specs.Prelude.{ℕ, Bool, cond, not, ◌&&◌, List, Option, Some, None, Result, Ok, Err, eqb, length}
use Rattle.compare.specs.Compare.{all}
use Rattle.flash.specs.Geometry.{geometry_check}
use Rattle.flash.specs.declared.geometry.Geometry.{Geometry}
use Rattle.flash.specs.declared.steps.Step.{Step}
use Rattle.flash.specs.declared.steps.Step.TheVariants.{Byte}
use Rattle.slots.specs.Flags.{new, flags}
use Rattle.slots.specs.Places.{trailer_of}
use Rattle.slots.specs.Trailers.{state_at, sound_with, renewal_of}
use Rattle.slots.specs.declared.places.Slot.TheVariants.{Boot, Update}
use Rattle.loader.specs.States.{updating, success, staged, on_trial}

module _ (g : Geometry) (f : List ℕ) where
  -- 22: UPDATE is sound with 70 and some flag isn't F
  unfoldable pub swap_begun : Bool
  swap_begun = staged g f && not (all new (flags g.count (trailer_of g f Update)))

  -- the next renewal step of UPDATE to 70
  unfoldable pub triggering : Result (Option Step) ℕ
  triggering = cond swap_begun (Err 22) (cond (on_trial g f) (Err 21) (Ok (renewal_of g f Update updating)))

  -- Byte 00 to BOOT's state while it is on trial; with 00 nothing is left to do
  unfoldable pub confirming : Result (Option Step) ℕ
  confirming =
      cond swap_begun (Err 22)
      (cond (on_trial g f) (Ok (Some (Byte (state_at g Boot) success)))
      (cond (sound_with (trailer_of g f Boot) success) (Ok None) (Err 23)))

  -- the answers: the geometry's numbers 1 to 4 first
  abbrev number : ℕ
  number = geometry_check g (length f)

  unfoldable pub trigger_answer : Result (Option Step) ℕ
  trigger_answer = cond (eqb number 0) triggering (Err number)

  unfoldable pub confirm_answer : Result (Option Step) ℕ
  confirm_answer = cond (eqb number 0) confirming (Err number)

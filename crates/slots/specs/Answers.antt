-- The answers of the public calls: the geometry's numbers 1 to 4 first.
use Rattle.std.specs.Prelude.{ℕ, Bool, cond, ◌&&◌, List, [], Option, Result, Ok, Err, eqb, length}
use Rattle.flash.specs.Geometry.{geometry_check}
use Rattle.flash.specs.declared.geometry.Geometry.{Geometry}
use Rattle.flash.specs.declared.steps.Step.{Step}
use Rattle.slots.specs.Exchange.{exchange_of, next_flag_of}
use Rattle.slots.specs.Flags.{flags, progress_of}
use Rattle.slots.specs.Places.{trailer_of, image_of}
use Rattle.slots.specs.Trailers.{state_at, sound_with, state_of, renewal_of}
use Rattle.slots.specs.declared.places.Slot.{Slot}
use Rattle.slots.specs.declared.places.Slot.TheVariants.{Update}

abbrev number : Geometry → List ℕ → ℕ
number g f = geometry_check g (length f)

abbrev accepts : Geometry → List ℕ → Bool
accepts g f = eqb (number g f) 0

unfoldable pub image_answer : Geometry → List ℕ → Slot → List ℕ
image_answer g f s = cond (accepts g f) (image_of g f s) []

unfoldable pub sound_answer : Geometry → List ℕ → Slot → ℕ → Bool
sound_answer g f s v = accepts g f && sound_with (trailer_of g f s) v

unfoldable pub state_answer : Geometry → List ℕ → Slot → Result (Option ℕ) ℕ
state_answer g f s = cond (accepts g f) (Ok (state_of (trailer_of g f s))) (Err (number g f))

unfoldable pub state_at_answer : Geometry → List ℕ → Slot → ℕ
state_at_answer g f s = cond (accepts g f) (state_at g s) 0

unfoldable pub renewal_answer : Geometry → List ℕ → Slot → ℕ → Result (Option Step) ℕ
renewal_answer g f s v = cond (accepts g f) (Ok (renewal_of g f s v)) (Err (number g f))

unfoldable pub progress_answer : Geometry → List ℕ → Result ℕ ℕ
progress_answer g f = cond (accepts g f) (progress_of (flags g.count (trailer_of g f Update))) (Err (number g f))

unfoldable pub exchange_answer : Geometry → List ℕ → ℕ → Result (Option Step) ℕ
exchange_answer g f p = cond (accepts g f) (Ok (exchange_of g f p)) (Err (number g f))

unfoldable pub next_flag_answer : Geometry → List ℕ → ℕ → Result (Option Step) ℕ
next_flag_answer g f p = cond (accepts g f) (Ok (next_flag_of g f p)) (Err (number g f))

-- What C gets of a slot's state. Claim: one comparison tells it; the state is the byte v exactly where the slot is sound with v.
use Rattle.std.specs.Prelude.{ℕ, ◌<◌, true, List, Option, Some, None, Result, Ok, Err, ◌≡◌, length}
use Rattle.flash.specs.Geometry.{geometry_check}
use Rattle.flash.specs.declared.geometry.Geometry.{Geometry}
use Rattle.slots.specs.Answers.{sound_answer, state_answer}
use Rattle.slots.specs.declared.places.Slot.{Slot}
use Rattle.frondicare.specs.declared.state_entries.FlatState.{FlatState}

-- the state byte, or 256, which is no byte; and the number of a refused geometry
abbrev pub flat_state : Result (Option ℕ) ℕ → FlatState
flat_state (Ok (Some v)) = record { number = 0; state = v }
flat_state (Ok None) = record { number = 0; state = 256 }
flat_state (Err n) = record { number = n; state = 256 }

pub record Tells (g : Geometry) (f : List ℕ) (s : Slot) (v : ℕ) : Type 0 where
  pub only : (flat_state (state_answer g f s)).state ≡ v → sound_answer g f s v ≡ true
  pub always : sound_answer g f s v ≡ true → (flat_state (state_answer g f s)).state ≡ v

abbrev pub StatesTold : Type 0
StatesTold = (g : Geometry) (f : List ℕ) (s : Slot) (v : ℕ) → v < 256 → Tells g f s v

-- the number is the geometry's, and 0 where that is accepted, sound or not
abbrev pub StatesNumbered : Type 0
StatesNumbered = (g : Geometry) (f : List ℕ) (s : Slot) → (flat_state (state_answer g f s)).number ≡ geometry_check g (length f)

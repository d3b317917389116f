-- Claim: the step that writes a flag keeps the other half of its byte, every other flag, the state and the closing
-- bytes, and takes the progress one further.
use Rattle.std.specs.Prelude.{ℕ, ◌+◌, ◌/◌, ◌<◌, List, Some, ◌≢◌, ◌≡◌, length}
use Rattle.std.specs.Int.Bits.{bit_and}
use Rattle.flash.specs.Cuts.{sound}
use Rattle.flash.specs.Geometry.{geometry_check}
use Rattle.flash.specs.Steps.{applied}
use Rattle.flash.specs.declared.geometry.Geometry.{Geometry}
use Rattle.flash.specs.declared.steps.Step.{Step}
use Rattle.slots.specs.Correspondence.{FlagsAt}
use Rattle.slots.specs.Exchange.{next_flag, next_flag_of}
use Rattle.slots.specs.Flags.{flag, flags, flag_of}
use Rattle.slots.specs.Places.{trailer_of}
use Rattle.slots.specs.Trailers.{state}
use Rattle.slots.specs.declared.places.Slot.TheVariants.{Update}

-- trailer t' is t with sector i's flag written as v; other: also the half that an odd n leaves over
pub record Flagged (t t' : List ℕ) (i v : ℕ) : Type 0 where
  pub here : flag t' i ≡ bit_and (flag t i) v
  pub other : (j : ℕ) → j < 64 → j ≢ i → flag t' j ≡ flag t j
  pub same-state : state t' ≡ state t
  pub same-sound : sound t' ≡ sound t

pub record FlagWritten (g : Geometry) (f : List ℕ) (p : ℕ) (s : Step) : Type 0 where
  pub keeps : Flagged (trailer_of g f Update) (trailer_of g (applied g f s) Update) (p / 3) (next_flag (flag_of p))
  pub further : FlagsAt g.count p (flags g.count (trailer_of g f Update))
      → FlagsAt g.count (p + 1) (flags g.count (trailer_of g (applied g f s) Update))

abbrev pub NextFlag : Type 0
NextFlag = (g : Geometry) (f : List ℕ) (p : ℕ) (s : Step) → geometry_check g (length f) ≡ 0 → next_flag_of g f p ≡ Some s → FlagWritten g f p s

-- Document 01, "Trailers and flags": the states of a trailer.
use Rattle.std.specs.Prelude.{ℕ, Bool, List}
use Rattle.flash.specs.declared.geometry.Geometry.{Geometry}
use Rattle.slots.specs.Places.{trailer_of}
use Rattle.slots.specs.Trailers.{sound_with}
use Rattle.slots.specs.declared.places.Slot.TheVariants.{Boot, Update}

-- of UPDATE; spent is the paper's word for a state of our own
abbrev pub updating : ℕ
updating = 0x70

abbrev pub spent : ℕ
spent = 0x30

-- of BOOT; with testing it is on trial
abbrev pub testing : ℕ
testing = 0x10

abbrev pub success : ℕ
success = 0x00

-- UPDATE is sound with 70
abbrev pub staged : Geometry → List ℕ → Bool
staged g f = sound_with (trailer_of g f Update) updating

-- BOOT is sound with 10
abbrev pub on_trial : Geometry → List ℕ → Bool
on_trial g f = sound_with (trailer_of g f Boot) testing

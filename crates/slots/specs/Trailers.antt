-- Document 01, "Trailers and flags" and "The next step": a trailer's state, and its renewal to a state.
use Rattle.std.specs.Prelude.{ℕ, ◌+◌, ◌-◌, Bool, cond, ◌&&◌, List, Option, Some, None, eqb, length, take, drop, get_or}
use Rattle.compare.specs.Compare.{all}
use Rattle.flash.specs.Cuts.{sound}
use Rattle.flash.specs.declared.geometry.Geometry.{Geometry}
use Rattle.flash.specs.declared.steps.Step.{Step}
use Rattle.flash.specs.declared.steps.Step.TheVariants.{Erase, Byte, Mark}
use Rattle.slots.specs.Flags.{new, flags}
use Rattle.slots.specs.Places.{offset, trailer_of}
use Rattle.slots.specs.declared.places.Place.TheVariants.{Sector}
use Rattle.slots.specs.declared.places.Slot.{Slot}
use Rattle.slots.specs.declared.places.Slot.TheVariants.{Boot, Update}

-- the state byte is just before the four closing bytes
abbrev pub state : List ℕ → ℕ
state t = get_or t (length t - 5) 0

unfoldable pub state_at : Geometry → Slot → ℕ
state_at g s = offset g (Sector s g.count) + (g.size - 5)

unfoldable pub sound_with : List ℕ → ℕ → Bool
sound_with t v = sound t && eqb (state t) v

-- the state byte of a sound trailer
unfoldable pub state_of : List ℕ → Option ℕ
state_of t = cond (sound t) (Some (state t)) None

-- ---- renewing (the paper's word) a trailer to a state v

-- finished: sound with v and, in UPDATE, all flags F
abbrev pub flag_count : Geometry → Slot → ℕ
flag_count g Boot = 0
flag_count g Update = g.count

unfoldable pub renewed_to : List ℕ → ℕ → ℕ → Bool
renewed_to t n v = sound_with t v && all new (flags n t)

-- all FF except the state byte, which is v
unfoldable pub all_but_state : List ℕ → ℕ → Bool
all_but_state t v = all 0xFF (take (length t - 5) t) && eqb (state t) v && all 0xFF (drop (length t - 4) t)

-- t is the trailer at an offset, with n flags
unfoldable pub renew : ℕ → List ℕ → ℕ → ℕ → Option Step
renew at t n v =
    cond (renewed_to t n v) None (Some
    (cond (all 0xFF t) (Byte (at + length t - 5) v)
    (cond (all_but_state t v) (Mark (at + length t - 4))
    (Erase at))))

abbrev pub renewal_of : Geometry → List ℕ → Slot → ℕ → Option Step
renewal_of g f s v = renew (offset g (Sector s g.count)) (trailer_of g f s) (flag_count g s) v

-- Claim: each step of a renewal leaves one step less to do, of at most three, and changes no other sector.
use Rattle.std.specs.Prelude.{ℕ, suc, ◌<◌, cond, List, Some, None, ◌≢◌, ◌≡◌, length}
use Rattle.compare.specs.Compare.{all}
use Rattle.flash.specs.Geometry.{geometry_check}
use Rattle.flash.specs.Steps.{applied, step_check}
use Rattle.flash.specs.declared.geometry.Geometry.{Geometry}
use Rattle.flash.specs.declared.steps.Step.{Step}
use Rattle.slots.specs.Places.{Within, bytes_at, trailer_of}
use Rattle.slots.specs.Trailers.{flag_count, renewed_to, all_but_state, renewal_of}
use Rattle.slots.specs.declared.places.Place.{Place}
use Rattle.slots.specs.declared.places.Place.TheVariants.{Sector}
use Rattle.slots.specs.declared.places.Slot.{Slot}

-- the steps that the renewal of a trailer t with n flags to v still takes: of Erase, Byte and Mark the last so many
unfoldable pub steps_left : List ℕ → ℕ → ℕ → ℕ
steps_left t n v = cond (renewed_to t n v) 0 (cond (all 0xFF t) 2 (cond (all_but_state t v) 1 3))

pub record Renewing (g : Geometry) (f : List ℕ) (s : Slot) (v : ℕ) (d : Step) : Type 0 where
  pub accepted : step_check g (length f) d ≡ 0
  pub less : suc (steps_left (trailer_of g (applied g f d) s) (flag_count g s) v) ≡ steps_left (trailer_of g f s) (flag_count g s) v
  pub others : (p : Place) → Within g p → Sector s g.count ≢ p → bytes_at g (applied g f d) p ≡ bytes_at g f p

pub record Renewed (g : Geometry) (f : List ℕ) (s : Slot) (v : ℕ) : Type 0 where
  pub finished : steps_left (trailer_of g f s) (flag_count g s) v ≡ 0 → renewal_of g f s v ≡ None
  pub due : (d : Step) → renewal_of g f s v ≡ Some d → Renewing g f s v d

-- to any state but FF
abbrev pub RenewalEnds : Type 0
RenewalEnds = (g : Geometry) (f : List ℕ) (s : Slot) (v : ℕ) → geometry_check g (length f) ≡ 0 → v < 0xFF → Renewed g f s v

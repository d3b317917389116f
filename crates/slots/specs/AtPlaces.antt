-- Claim: the steps that are accepted are exactly those at the sectors of the geometry, as document 01 lists them.
use Rattle.std.specs.Prelude.{ℕ, ◌+◌, ◌-◌, ◌<◌, true, ◌≢◌, ◌≡◌}
use Rattle.flash.specs.Geometry.{geometry_check}
use Rattle.flash.specs.Steps.{accepted}
use Rattle.flash.specs.declared.geometry.Geometry.{Geometry}
use Rattle.flash.specs.declared.steps.Step.TheVariants.{Erase, Copy, Byte, Mark}
use Rattle.slots.specs.Places.{offset, Within}
use Rattle.slots.specs.declared.places.Place.{Place}
use Rattle.slots.specs.declared.places.Place.TheVariants.{Sector}
use Rattle.slots.specs.declared.places.Slot.{Slot}

-- an offset is a sector's start
abbrev pub Starts : Geometry → ℕ → Type 0
Starts g at = (p : Place) × (Within g p × (at ≡ offset g p))

-- it is k bytes into a trailer
abbrev pub IntoTrailer : Geometry → ℕ → ℕ → Type 0
IntoTrailer g k at = (s : Slot) × (at ≡ offset g (Sector s g.count) + k)

pub record PlacesAccepted (g : Geometry) : Type 0 where
  pub erase : (at : ℕ) → Starts g at → accepted g (Erase at) ≡ true
  pub erase-only : (at : ℕ) → accepted g (Erase at) ≡ true → Starts g at
  pub copy : (from to : ℕ) → Starts g from → Starts g to → from ≢ to → accepted g (Copy from to) ≡ true
  pub copy-only : (from to : ℕ) → accepted g (Copy from to) ≡ true → Starts g from × (Starts g to × (from ≢ to))
  pub byte : (at v k : ℕ) → k < g.size → IntoTrailer g k at → accepted g (Byte at v) ≡ true
  pub byte-only : (at v : ℕ) → accepted g (Byte at v) ≡ true → (k : ℕ) × ((k < g.size) × IntoTrailer g k at)
  pub mark : (at : ℕ) → IntoTrailer g (g.size - 4) at → accepted g (Mark at) ≡ true
  pub mark-only : (at : ℕ) → accepted g (Mark at) ≡ true → IntoTrailer g (g.size - 4) at

abbrev pub AtPlaces : Type 0
AtPlaces = (g : Geometry) (len : ℕ) → geometry_check g len ≡ 0 → PlacesAccepted g

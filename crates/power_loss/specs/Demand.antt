-- Demand 3: however often the power is cut during an update and the return after it, nothing is lost. One claim about both lists.
use Rattle.std.specs.Prelude.{ℕ, ◌+◌, ◌*◌, ◌≤◌, ◌<◌, Bool, true, List, None, Ok, ◌≡◌, length, get_or}
use Rattle.flash.specs.Changes.{InAreas}
use Rattle.flash.specs.Cuts.{Bytes}
use Rattle.flash.specs.declared.geometry.Geometry.{Geometry}
use Rattle.header.specs.Checks.{version_in}
use Rattle.slots.specs.Places.{bytes_at, image_of}
use Rattle.slots.specs.declared.places.Place.TheVariants.{Sector}
use Rattle.slots.specs.declared.places.Slot.TheVariants.{Boot, Update}
use Rattle.slots.specs.declared.places.Slot.{Slot}
use Rattle.loader.specs.Checks.{Checks, image_checks}
use Rattle.loader.specs.Requests.{trigger_answer}
use Rattle.loader.specs.States.{on_trial}
use Rattle.loader.specs.Answers as A
use Rattle.loader.specs.Answers.{Answer}
use Rattle.runner.specs.Counts.{roomy}
use Rattle.runner.specs.declared.counts.StepCounts.{StepCounts}
use Rattle.power_loss.specs.Histories.{Event, begun, cuts}
use Rattle.power_loss.specs.OneByOne.{StepByStep}
use Rattle.power_loss.specs.PowerUps.{power_up, Cuts, Ended}

-- no byte outside the three areas has changed
pub record Kept (g : Geometry) (f f' : List ℕ) : Type 0 where
  pub size : length f' ≡ length f
  pub outside : (i : ℕ) → (InAreas g i 1 → ⊥) → get_or f' i 0 ≡ get_or f i 0

abbrev pub other : Slot → Slot
other Boot = Update
other Update = Boot

-- the image sectors of f' are those of f: exchanged, or every byte restored
abbrev pub Exchanged : Geometry → List ℕ → List ℕ → Type 0
Exchanged g f f' = (s : Slot) (i : ℕ) → i < g.count → bytes_at g f' (Sector s i) ≡ bytes_at g f (Sector (other s) i)

abbrev pub Restored : Geometry → List ℕ → List ℕ → Type 0
Restored g f f' = (s : Slot) (i : ℕ) → i < g.count → bytes_at g f' (Sector s i) ≡ bytes_at g f (Sector s i)

-- a step, a last step, or a boot with no reason
abbrev pub GoesOn : Answer → Type 0
GoesOn (A.Step s) = Unit {0}
GoesOn (A.LastStep s) = Unit {0}
GoesOn (A.Boot why) = why ≡ 0
GoesOn (A.Refused n) = ⊥

module _ (checks : Checks) (sig : List ℕ → Bool) (g : Geometry) where
  -- ---- the premises: of the rest of the flash nothing is assumed

  pub record MayBegin (f : List ℕ) : Type 0 where
    pub bytes : Bytes f
    -- trigger says finished: so the geometry is accepted, and BOOT isn't on trial
    pub finished : trigger_answer g f ≡ Ok None
    -- both images pass, and UPDATE's may replace BOOT's
    pub passes : (s : Slot) → checks.verdict (image_of g f s) (sig (image_of g f s)) ≡ 0
    pub replaces : checks.acceptance (image_of g f Boot) (image_of g f Update) ≡ 0

  -- ---- the conclusions, since the flash f

  -- the steps begun, with as many cuts as there were
  abbrev pub Bounded : List Event → Type 0
  Bounded h = begun h ≤ 9 * g.count + 4 + 2 * cuts h

  -- After any cuts in a list that began with f₀: no byte outside the areas has changed; a power-up goes step by step, and wherever it is it
  -- can be cut, so that no list is left out; and an uncut one boots with no reason.
  pub record Safe (f f₀ : List ℕ) : Type 0 where
    pub kept : {h : List Event} {f' : List ℕ} → Cuts checks sig g f₀ h f' → Kept g f f'
    pub step_by_step : {h : List Event} {f' : List ℕ} (c : StepCounts) → Cuts checks sig g f₀ h f'
        → StepByStep g f' (λ m. power_up checks sig g f₀ m f' c)
    pub goes_on : {h : List Event} {f' : List ℕ} (m : ℕ) (c : StepCounts) → Cuts checks sig g f₀ h f' → m < 4096 → roomy c ≡ true
        → GoesOn (power_up checks sig g f₀ m f' c).answer
    pub boots : {h : List Event} {f' : List ℕ} (c : StepCounts) → Cuts checks sig g f₀ h f' → roomy c ≡ true
        → (power_up checks sig g f₀ 4096 f' c).answer ≡ A.Boot 0

  -- the second list has ended with f₂
  pub record Returned (f : List ℕ) (h : List Event) (f₂ : List ℕ) : Type 0 where
    pub bound : Bounded h
    pub restored : Restored g f f₂
    pub kept : Kept g f f₂

  -- the first list has ended with f₁
  pub record Updated (f : List ℕ) (h : List Event) (f₁ : List ℕ) : Type 0 where
    pub bound : Bounded h
    pub on_trial_lem : on_trial g f₁ ≡ true
    pub exchanged : Exchanged g f f₁
    pub kept : Kept g f f₁
    pub safe : Safe f f₁
    pub second : {h₂ : List Event} {f₂ : List ℕ} → Ended checks sig g f₁ h₂ f₂ → Returned f h₂ f₂

  pub record Survives (f : List ℕ) : Type 0 where
    pub safe : Safe f f
    pub first : {h₁ : List Event} {f₁ : List ℕ} → Ended checks sig g f h₁ f₁ → Updated f h₁ f₁

-- for every verdict and every acceptance rule
abbrev pub DemandThree : Type 0
DemandThree = (checks : Checks) (sig : List ℕ → Bool) (g : Geometry) (f : List ℕ) → MayBegin checks sig g f → Survives checks sig g f

-- with the loader's own: both images pass verification, and UPDATE's version is the higher
pub record Triggered (sig : List ℕ → Bool) (g : Geometry) (f : List ℕ) : Type 0 where
  pub bytes : Bytes f
  pub finished : trigger_answer g f ≡ Ok None
  pub passes : (s : Slot) → image_checks.verdict (image_of g f s) (sig (image_of g f s)) ≡ 0
  pub higher : version_in (image_of g f Boot) < version_in (image_of g f Update)

abbrev pub NothingIsLost : Type 0
NothingIsLost = (sig : List ℕ → Bool) (g : Geometry) (f : List ℕ) → Triggered sig g f → Survives image_checks sig g f

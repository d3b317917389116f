-- Demand 3: power-ups, and lists of them. checks are the checks of images, sig is the signature checker, a function of the image.
use Rattle.std.specs.Prelude.{ℕ, ◌<◌, Bool, true, false, cond, ◌&&◌, List, [], ◌∷◌, ◌++◌, ◌≡◌}
use Rattle.compare.specs.Compare.{same}
use Rattle.flash.specs.Cuts.{Cut}
use Rattle.flash.specs.Steps.{applied}
use Rattle.flash.specs.declared.geometry.Geometry.{Geometry}
use Rattle.flash.specs.declared.steps.Step.{Step}
use Rattle.slots.specs.Places.{image_of}
use Rattle.slots.specs.declared.places.Slot.TheVariants.{Boot, Update}
use Rattle.slots.specs.declared.places.Slot.{Slot}
use Rattle.loader.specs.Checks.{Checks}
use Rattle.loader.specs.MidSwap.{mid_swap}
use Rattle.loader.specs.Answers as A
use Rattle.loader.specs.Answers.{Answer}
use Rattle.runner.specs.Counts.{roomy}
use Rattle.runner.specs.Runs.{Outcome, run_of}
use Rattle.runner.specs.declared.counts.StepCounts.{StepCounts}
use Rattle.power_loss.specs.Histories.{Event, finished_all, cut_on, cut_between}

-- the step that an answer says is due, and whether it is the last before booting
pub data Due : Answer → Step → Bool → Type 0 where
  ordinary : (s : Step) → Due (A.Step s) s false
  last : (s : Step) → Due (A.LastStep s) s true

module _ (checks : Checks) (sig : List ℕ → Bool) (g : Geometry) where
  -- the checker's answer for a slot at a power-up with the flash f, in a list that began with f₀: in mid-swap by the slots before that swap
  unfoldable pub signed : List ℕ → List ℕ → Slot → Bool
  signed f₀ f s = sig (image_of g (cond (mid_swap g f) f₀ f) s)

  -- a power-up is one run with those answers; uncut, with the number 4096
  unfoldable pub power_up : List ℕ → ℕ → List ℕ → StepCounts → Outcome
  power_up f₀ m f c = run_of checks g m (signed f₀ f Boot) (signed f₀ f Update) f c

  -- a cut after what a run with a smaller number leaves: the event, the flash left, and whether it counts as a boot
  pub data Lost (o : Outcome) : Event → List ℕ → Bool → Type 0 where
    -- before the step due
    before : {s : Step} {last : Bool} → Due o.answer s last → Lost o cut_between o.flash false
    -- on the step due: what a cut of that step may leave, and where it is a last step and done, a boot
    on : {s : Step} {last : Bool} {f' : List ℕ} → Due o.answer s last → Cut g o.flash s f'
        → Lost o (cut_on s) f' (last && same f' (applied g o.flash s))
    -- at the boot, so after the last step
    after : {why : ℕ} → o.answer ≡ A.Boot why → Lost o cut_between o.flash true

  -- a cut power-up from the flash f, with a smaller number and any counters with room: what happens, and the flash left
  pub data CutUp (f₀ f : List ℕ) : List Event → List ℕ → Bool → Type 0 where
    cut_up : (m : ℕ) (c : StepCounts) {e : Event} {f' : List ℕ} {boots : Bool} → m < 4096 → roomy c ≡ true
        → Lost (power_up f₀ m f c) e f' boots → CutUp f₀ f (finished_all (power_up f₀ m f c).steps ++ e ∷ []) f' boots

  -- cut power-ups, none of which counts as a boot
  pub data Cuts (f₀ : List ℕ) : List Event → List ℕ → Type 0 where
    none : Cuts f₀ [] f₀
    more : {h h' : List Event} {f f' : List ℕ} → Cuts f₀ h f → CutUp f₀ f h' f' false → Cuts f₀ (h ++ h') f'

  -- a whole list: after those, an uncut power-up or a cut that counts as a boot
  pub data Ended (f₀ : List ℕ) : List Event → List ℕ → Type 0 where
    uncut : {h : List Event} {f : List ℕ} (c : StepCounts) → Cuts f₀ h f → roomy c ≡ true
        → Ended f₀ (h ++ finished_all (power_up f₀ 4096 f c).steps) (power_up f₀ 4096 f c).flash
    cut : {h h' : List Event} {f f' : List ℕ} → Cuts f₀ h f → CutUp f₀ f h' f' true → Ended f₀ (h ++ h') f'

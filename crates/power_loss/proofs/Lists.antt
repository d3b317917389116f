-- Cut power-ups, and lists of them. Assumes nothing.
use Prim.Native.Nat.{ℕ, ◌≤◌}
use mathlib.Core.Bool.{Bool, true, false}
use mathlib.Core.List.{List, [], ◌∷◌, ◌++◌}
use mathlib.Core.Path.{◌≡◌, refl, sym}
use native.Mathlib.Omega.{arith}
use Rattle.compare.proofs.Tests.{never}
use Rattle.flash.specs.declared.geometry.Geometry.{Geometry}
use Rattle.slots.specs.Places.{image_of}
use Rattle.slots.specs.declared.places.Slot.TheVariants.{Boot, Update}
use Rattle.loader.specs.Checks.{Checks}
use Rattle.loader.specs.Answers as A
use Rattle.runner.specs.Counts.{roomy}
use Rattle.runner.specs.declared.counts.StepCounts.{StepCounts}
use Rattle.power_loss.specs.Demand.{Safe}
use Rattle.power_loss.specs.Histories.{Event, finished_all}
use Rattle.power_loss.specs.OneByOne.{StepByStep}
use Rattle.power_loss.specs.PowerUps.{none, more, Ended, uncut, cut, signed}
use Rattle.power_loss.specs.PowerUps.{power_up, Lost, before, on, after, CutUp, cut_up, Cuts}
use Rattle.power_loss.proofs.Contents.{following}
use Rattle.power_loss.proofs.Invariant.{Setting, Phase, cost}
use Rattle.power_loss.proofs.OneSector.{base_valid}
use Rattle.power_loss.proofs.OneByOne.{one_by_one}
use Rattle.power_loss.proofs.PowerUpEnds.{Stands, Booted, still, struck, finished, booted, goes_on}
use Rattle.power_loss.proofs.RunSteps.{run-begins}
use Rattle.power_loss.proofs.Runs.{phase_base, at_most, Ran, due, done, runs}
use Rattle.power_loss.proofs.Signed.{answers}
use Rattle.power_loss.proofs.Weights.{ones, no_events, join, uncut_bill, between_bill}

module _ (checks : Checks) (sig : List ℕ → Bool) (g : Geometry) (f₀ o : List ℕ) where
  abbrev a : Bool
  a = sig (image_of g f₀ Boot)

  abbrev b : Bool
  b = sig (image_of g f₀ Update)

  abbrev u : Setting
  u = following checks g f₀ o

  -- ---- power-ups

  module _ (pass : checks.verdict (image_of g f₀ Update) b ≡ 0) where
    ran : (m : ℕ) (f : List ℕ) (c : StepCounts) {late : Bool} (p : Phase u f late) → m ≤ 4096 → roomy c ≡ true
        → Ran checks g f₀ o a b m (λ w. cost u w p) (power_up checks sig g f₀ m f c)
    unfolding power_up
    ran m f c {late} p le r =
        let s = answers checks sig g f₀ o f p in
        rw (run-begins checks g f _ _ m c (phase_base u p).ok le r, s.boot, s.update) (runs checks g f₀ o a b pass m f late p)

    after-cut : (f f' : List ℕ) {late : Bool} (p : Phase u f late) (h : List Event) → CutUp checks sig g f₀ f h f' false
        → Stands checks g f₀ o a b pass f' h (λ w. cost u w p)
    after-cut f f' p h (cut_up m c lt r x) = go (ran m f c p (omega arith) r) x refl
      where
        go : {e : Event} {f'' : List ℕ} {boot : Bool} → Ran checks g f₀ o a b m (λ w. cost u w p) (power_up checks sig g f₀ m f c)
            → Lost checks sig g (power_up checks sig g f₀ m f c) e f'' boot → boot ≡ false
            → Stands checks g f₀ o a b pass f'' (finished_all (power_up checks sig g f₀ m f c).steps ++ e ∷ []) (λ w. cost u w p)
        go y (before d) n = still checks g f₀ o a b pass y d
        go y (on d c) n = struck checks g f₀ o a b pass y d c n
        go y (after e) n = never n

    cut-boots : (f f' : List ℕ) {late : Bool} (p : Phase u f late) (h : List Event) → CutUp checks sig g f₀ f h f' true
        → Booted checks g f₀ o a b pass f' h (λ w. cost u w p)
    cut-boots f f' p h (cut_up m c lt r x) = go (ran m f c p (omega arith) r) x refl
      where
        go : {e : Event} {f'' : List ℕ} {boot : Bool} → Ran checks g f₀ o a b m (λ w. cost u w p) (power_up checks sig g f₀ m f c)
            → Lost checks sig g (power_up checks sig g f₀ m f c) e f'' boot → boot ≡ true
            → Booted checks g f₀ o a b pass f'' (finished_all (power_up checks sig g f₀ m f c).steps ++ e ∷ []) (λ w. cost u w p)
        go y (before d) n = never (sym n)
        go y (on d c) n = finished checks g f₀ o a b pass y d n
        go y (after {why} e) n =
            let v = booted checks g f₀ o a b pass why y e in
            record { over = v.0; bill = between_bill (power_up checks sig g f₀ m f c).steps v.1 }

    -- an uncut power-up boots
    boots : (f : List ℕ) (c : StepCounts) {late : Bool} (p : Phase u f late) → roomy c ≡ true
        → (power_up checks sig g f₀ 4096 f c).answer ≡ A.Boot 0
    boots f c p r = go (ran 4096 f c p (omega arith) r)
      where
        go : Ran checks g f₀ o a b 4096 (λ w. cost u w p) (power_up checks sig g f₀ 4096 f c) → (power_up checks sig g f₀ 4096 f c).answer ≡ A.Boot 0
        go (done e ov le) = e
        go (due p' e n le) = absurd (omega (arith, le ones, at_most u p, (base_valid (phase_base u p)).shape.count-max))

    -- ---- lists

    module _ {late₀ : Bool} (start : Phase u f₀ late₀) where
      after-cuts : {h : List Event} {f : List ℕ} → Cuts checks sig g f₀ h f → Stands checks g f₀ o a b pass f h (λ w. cost u w start)
      after-cuts none = record { late = late₀; phase = start; bill = no_events }
      after-cuts (more {h} {h'} {f} {f'} cs x) =
          let y : Stands checks g f₀ o a b pass f h (λ w. cost u w start) = after-cuts cs in
          let v : Stands checks g f₀ o a b pass f' h' (λ w. cost u w y.phase) = after-cut f f' y.phase h' x in
          record { late = v.late; phase = v.phase; bill = join y.bill v.bill }

      pub ended : {h : List Event} {f : List ℕ} → Ended checks sig g f₀ h f → Booted checks g f₀ o a b pass f h (λ w. cost u w start)
      ended (uncut {h} {f} c cs r) =
          let y : Stands checks g f₀ o a b pass f h (λ w. cost u w start) = after-cuts cs in
          let v = booted checks g f₀ o a b pass 0 (ran 4096 f c y.phase (omega arith) r) (boots f c y.phase r) in
          record { over = v.0; bill = join y.bill (uncut_bill (power_up checks sig g f₀ 4096 f c).steps v.1) }
      ended (cut {h} {h'} {f} {f'} cs x) =
          let y : Stands checks g f₀ o a b pass f h (λ w. cost u w start) = after-cuts cs in
          let v : Booted checks g f₀ o a b pass f' h' (λ w. cost u w y.phase) = cut-boots f f' y.phase h' x in
          record { over = v.over; bill = join y.bill v.bill }

      each : {f : List ℕ} (c : StepCounts) → StepByStep g f (λ m. power_up checks sig g f₀ m f c)
      unfolding power_up
      each {f} c = one_by_one checks g (signed checks sig g f₀ f Boot) (signed checks sig g f₀ f Update) f c

      pub safe : Safe checks sig g o f₀
      safe = record {
        kept = λ cs. (phase_base u (after-cuts cs).phase).kept;
        step_by_step = λ c cs. each c;
        goes_on = λ m c cs lt r. goes_on checks g f₀ o a b pass (ran m _ c (after-cuts cs).phase (omega arith) r);
        boots = λ c cs r. boots _ c (after-cuts cs).phase r;
      }

-- Trigger's step, carried out again and again: it is finished after at most three. Assumes nothing.
use Prim.Native.Nat.{ℕ, zero, suc, ◌≤◌}
use mathlib.Core.Bool.{Bool, true, false, cond}
use mathlib.Core.List.{List}
use mathlib.Core.Logic.{◌≢◌}
use mathlib.Core.Path.{◌≡◌, refl, ap, ◌∙◌}
use native.Mathlib.Omega.{arith}
use borrow.Author.Tests.{eqb-true}
use lib.Dec.{eqb}
use lib.ListN.{length}
use Rattle.flash.specs.Geometry.{geometry_check}
use Rattle.flash.specs.Steps.{applied, flash_after}
use Rattle.flash.specs.declared.geometry.Geometry.{Geometry}
use Rattle.flash.specs.declared.steps.Step.{Step}
use Rattle.flash.proofs.Areas.{valid}
use Rattle.flash.proofs.Shown.{changes, flash-after}
use Rattle.slots.specs.Places.{trailer_of}
use Rattle.slots.specs.Renewed.{steps_left, Renewing}
use Rattle.slots.specs.Trailers.{sound_with, renewal_of}
use Rattle.std.specs.Prelude.{Option, Some, None, Result, Ok, Err}
use Rattle.slots.specs.declared.places.Place.TheVariants.{Sector}
use Rattle.slots.specs.declared.places.Slot.TheVariants.{Boot, Update}
use Rattle.slots.proofs.Apart.{length_at}
use Rattle.slots.proofs.RenewalSteps.{renewal_ends}
use Rattle.slots.proofs.Renewing.{left-max, left_idle}
use Rattle.loader.specs.Requests.{swap_begun, triggering, trigger_answer}
use Rattle.loader.specs.States.{updating, testing, on_trial}
use Rattle.loader.specs.TriggerEnds.{triggered, TriggerEnds}

-- nothing stands against a trigger
record Ready (g : Geometry) (f : List ℕ) : Type 0 where
  ok : geometry_check g (length f) ≡ 0
  not-begun : swap_begun g f ≡ false
  not_trial : on_trial g f ≡ false

abbrev left : Geometry → List ℕ → ℕ
left g f = steps_left (trailer_of g f Update) g.count updating

module _ (g : Geometry) (f : List ℕ) where
  renews : Ready g f → trigger_answer g f ≡ Ok (renewal_of g f Update updating)
  unfolding trigger_answer triggering
  renews r = rw (r.ok, r.not-begun, r.not_trial)

  ready : ((n : ℕ) → trigger_answer g f ≢ Err n) → Ready g f
  unfolding trigger_answer triggering
  ready h = go (eqb (geometry_check g (length f)) 0) refl (swap_begun g f) refl (on_trial g f) refl h
    where
      number : ℕ
      number = geometry_check g (length f)

      go : (a : Bool) → eqb number 0 ≡ a → (b : Bool) → swap_begun g f ≡ b → (c : Bool) → on_trial g f ≡ c
          → ((n : ℕ) → cond {A = Result (Option Step) ℕ} a (cond b (Err 22) (cond c (Err 21) (Ok (renewal_of g f Update updating)))) (Err number) ≢ Err n) → Ready g f
      go false p b q c r k = absurd (k number refl)
      go true p true q c r k = absurd (k 22 refl)
      go true p false q true r k = absurd (k 21 refl)
      go true p false q false r k = record { ok = eqb-true _ _ p; not-begun = q; not_trial = r }

  module _ (r : Ready g f) (d : Step) (e : renewal_of g f Update updating ≡ Some d) where
    step : Renewing g f Update updating d
    step = (renewal_ends g f Update updating r.ok (omega arith)).due d e

    carried : flash_after g f d ≡ applied g f d
    carried = flash-after g f d step.accepted

    size : length (applied g f d) ≡ length f
    size = (changes.only g f d step.accepted).whole.size

    less : suc (left g (applied g f d)) ≡ left g f
    less = step.less

    still : Ready g (applied g f d)
    unfolding swap_begun
    still =
        let ok' : geometry_check g (length (applied g f d)) ≡ 0 = rw size r.ok in
        let v = valid g (length (applied g f d)) ok' in
        record {
          ok = ok';
          not-begun = left_idle (trailer_of g (applied g f d) Update) g.count updating
              (omega (arith, length_at g (applied g f d) v (Sector Update g.count) (omega arith), v.shape.size-min)) (omega arith)
              (omega (arith, less, left-max (trailer_of g f Update) g.count updating));
          not_trial = ap (λ (t : List ℕ). sound_with t testing)
              (step.others (Sector Boot g.count) (omega arith) (λ q. absurd (let z : ◌≡◌ {A = ℕ} 0 1 = cc in omega arith)))
              ∙ r.not_trial;
        }

stays : (m : ℕ) (g : Geometry) (f : List ℕ) → trigger_answer g f ≡ Ok None → trigger_answer g (triggered m g f) ≡ Ok None
unfolding triggered
stays zero g f e = e
stays (suc m) g f e = rw e (stays m g f e)

ends : (m : ℕ) (g : Geometry) (f : List ℕ) → Ready g f → left g f ≤ m → trigger_answer g (triggered m g f) ≡ Ok None
unfolding triggered
ends zero g f r h = renews g f r ∙ ap Ok ((renewal_ends g f Update updating r.ok (omega arith)).finished (omega arith))
ends (suc m) g f r h = go (renewal_of g f Update updating) refl (ends m g)
  where
    go : (w : Option Step) → renewal_of g f Update updating ≡ w
        → ((f' : List ℕ) → Ready g f' → left g f' ≤ m → trigger_answer g (triggered m g f') ≡ Ok None)
        → trigger_answer g (triggered (suc m) g f) ≡ Ok None
    go (Some d) e ih =
        rw (renews g f r, e, carried g f r d e) (ih (applied g f d) (still g f r d e) (omega (arith, less g f r d e)))
    go None e ih = stays (suc m) g f (renews g f r ∙ ap Ok e)

pub trigger-ends : TriggerEnds
trigger-ends g f h = let r = ready g f h in ends 3 g f r (left-max (trailer_of g f Update) g.count updating)

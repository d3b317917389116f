-- Every step that is due is accepted. Assumes nothing.
use Prim.Native.Nat.{ℕ, ◌+◌, ◌-◌, ◌*◌, ◌/◌, ◌<◌}
use mathlib.Core.Bool.{true}
use mathlib.Core.List.{List}
use mathlib.Core.Logic.{inl, inr, ◌≢◌}
use mathlib.Core.Path.{◌≡◌, refl}
use native.Mathlib.Omega.{arith}
use borrow.Author.Tests.{ltb-true}
use Rattle.std.specs.Prelude.{Option, Some, None}
use lib.Dec.{ltb}
use lib.ListN.{length, get_or}
use Rattle.compare.specs.Compare.{same, all}
use Rattle.compare.proofs.Tests.{by_test}
use Rattle.flash.specs.Steps.{accepted}
use Rattle.flash.specs.Valid.{Apart, Valid}
use Rattle.flash.specs.declared.geometry.Geometry.{Geometry}
use Rattle.flash.specs.declared.steps.Step.{Step}
use Rattle.flash.specs.declared.steps.Step.TheVariants.{Byte}
use Rattle.slots.specs.AtPlaces.{PlacesAccepted}
use Rattle.slots.specs.Exchange.{source, target, next_flag, exchange_step, exchange_of}
use Rattle.slots.specs.Flags.{with_half, flag_at, flag_of, flag_step, flag_step_of}
use Rattle.slots.specs.Places.{offset, Within, bytes_at, trailer_of}
use Rattle.slots.specs.Trailers.{state_at, flag_count, renewed_to, all_but_state, renew, renewal_of}
use Rattle.slots.specs.declared.places.Place.TheVariants.{Sector}
use Rattle.slots.specs.declared.places.Slot.{Slot}
use Rattle.slots.specs.declared.places.Slot.TheVariants.{Update}
use Rattle.slots.proofs.Accepting.{accepts}
use Rattle.slots.proofs.Apart.{offset-apart, length_at}
use Rattle.slots.proofs.Exchanging.{copy_in, copy_apart}

-- the step that is due, if one is, is accepted
abbrev pub DueAccepted : Geometry → Option Step → Type 0
DueAccepted g (Some d) = accepted g d ≡ true
DueAccepted g None = Unit {0}

module _ (g : Geometry) (f : List ℕ) (v : Valid g (length f)) where
  allowed : PlacesAccepted g
  allowed = accepts g (length f) v

  trailer_size : (s : Slot) → length (trailer_of g f s) ≡ g.size
  trailer_size s = length_at g f v (Sector s g.count) (omega arith)

  -- a byte k bytes into a trailer
  byte_in : (s : Slot) (k x : ℕ) → k < g.size → accepted g (Byte (offset g (Sector s g.count) + k) x) ≡ true
  byte_in s k x h = allowed.byte (offset g (Sector s g.count) + k) x k h (s, refl)

  pub state-accepted : (s : Slot) (x : ℕ) → accepted g (Byte (state_at g s) x) ≡ true
  unfolding state_at
  state-accepted s x = byte_in s (g.size - 5) x (omega (arith, v.shape.size-min))

  pub renewal_accepted : (s : Slot) (x : ℕ) → DueAccepted g (renewal_of g f s x)
  unfolding renew
  renewal_accepted s x = by_test (DueAccepted g) (renewed_to t (flag_count g s) x) (λ _. tt)
      (λ _. by_test (λ d. accepted g d ≡ true) (all 0xFF t) (λ _. rw byte_place (byte_in s (g.size - 5) x (omega (arith, v.shape.size-min))))
      (λ _. by_test (λ d. accepted g d ≡ true) (all_but_state t x) (λ _. allowed.mark (at + length t - 4) (s, mark_place_lem))
      (λ _. allowed.erase at (Sector s g.count, (omega arith, refl)))))
    where
      t : List ℕ
      t = trailer_of g f s

      at : ℕ
      at = offset g (Sector s g.count)

      byte_place : at + length t - 5 ≡ at + (g.size - 5)
      byte_place = omega (arith, trailer_size s, v.shape.size-min)

      mark_place_lem : at + length t - 4 ≡ at + (g.size - 4)
      mark_place_lem = omega (arith, trailer_size s, v.shape.size-min)

  flag-accepted : (i w : ℕ) → accepted g (flag_step_of g f i w) ≡ true
  unfolding flag_step_of flag_step flag_at
  flag-accepted i w =
      let t : List ℕ = trailer_of g f Update in
      let k : ℕ = flag_at (length t) i in
      byte_in Update k (with_half i w (get_or t k 0)) (omega (arith, trailer_size Update, v.shape.size-min))

  step-accepted : (i w : ℕ) → i < g.count → accepted g (exchange_step g f i w) ≡ true
  unfolding exchange_step
  step-accepted i w h =
      by_test (λ d. accepted g d ≡ true) (same (bytes_at g f (source i w)) (bytes_at g f (target i w))) (λ _. flag-accepted i (next_flag w))
      (λ _. by_test (λ d. accepted g d ≡ true) (all 0xFF (bytes_at g f (target i w)))
      (λ _. allowed.copy from to (source i w, (inside.0, refl)) (target i w, (inside.1, refl)) two)
      (λ _. allowed.erase to (target i w, (inside.1, refl))))
    where
      inside : Within g (source i w) × Within g (target i w)
      inside = copy_in g i w h

      from : ℕ
      from = offset g (source i w)

      to : ℕ
      to = offset g (target i w)

      differ : Apart from g.size to g.size → from ≢ to
      differ (inl a) e = omega (arith, v.shape.size-min)
      differ (inr a) e = omega (arith, v.shape.size-min)

      two : from ≢ to
      two = differ (offset-apart g (length f) v (source i w) (target i w) inside.0 inside.1 (copy_apart i w))

  pub exchange_accepted : (p : ℕ) → DueAccepted g (exchange_of g f p)
  unfolding exchange_of
  exchange_accepted p =
      by_test (DueAccepted g) (ltb p (3 * g.count))
      (λ e. let l = ltb-true p (3 * g.count) e in step-accepted (p / 3) (flag_of p) (omega arith)) (λ _. tt)

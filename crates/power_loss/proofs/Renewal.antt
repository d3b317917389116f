-- One step of a trailer's renewal to any state but FF, whole or cut: what the trailer then holds, and the work still left.
-- Assumes nothing.
use Prim.Native.Nat.{ℕ, zero, suc, ◌+◌, ◌-◌, ◌≤◌, ◌<◌}
use mathlib.Core.Bool.{Bool, true, false}
use mathlib.Core.List.{List, [], ◌∷◌}
use mathlib.Core.Logic.{inl, inr}
use mathlib.Core.Path.{◌≡◌, refl, ap, ◌∙◌}
use native.Mathlib.Omega.{arith}
use borrow.Author.Tests.{eq-eqb}
use lib.Dec.{eqb}
use lib.ListN.{length, set}
use Rattle.compare.specs.Compare.{all}
use Rattle.compare.proofs.Tests.{or_left, or_right}
use Rattle.flash.specs.Bytes.{blank, write}
use Rattle.flash.specs.Cuts.{sound, trailer_start, Cut}
use Rattle.flash.specs.Geometry.{image_size}
use Rattle.flash.specs.Steps.{closing, accepted, applied}
use Rattle.flash.specs.declared.geometry.Geometry.{Geometry}
use Rattle.flash.specs.declared.steps.Step.TheVariants.{Erase, Byte, Mark}
use Rattle.flash.specs.declared.steps.Step.{Step}
use Rattle.slots.specs.Flags.{new, flags}
use Rattle.slots.specs.Places.{offset, bytes_at, trailer_of}
use Rattle.slots.specs.Renewed.{steps_left}
use Rattle.slots.specs.Trailers.{sound_with, flag_count, renewed_to, all_but_state, renew, renewal_of}
use Rattle.std.specs.Prelude.{Some}
use Rattle.slots.specs.declared.places.Place.TheVariants.{Sector}
use Rattle.slots.specs.declared.places.Place.{Place}
use Rattle.slots.specs.declared.places.Slot.TheVariants.{Boot, Update}
use Rattle.slots.specs.declared.places.Slot.{Slot}
use Rattle.slots.proofs.DueAccepted.{renewal_accepted}
use Rattle.slots.proofs.Renewals.{flag-count-max}
use Rattle.slots.proofs.Renewing.{blank_unsound, stamped_unsound, closed_with, closed_flags, left-blank, left_stamped, left_closed}
use Rattle.slots.proofs.Renewing.{stamps, is-blank, is_stamped}
use Rattle.power_loss.proofs.OneSector.{Base, Change, base_valid, sector-size, stepped, on, erased, torn, unchanged}
use Rattle.power_loss.proofs.Weights.{Weight, most, weigh}

-- the weight of the last so many steps of Erase, Byte and Mark
abbrev pub last_steps : Weight → ℕ → ℕ → ℕ
last_steps w at zero = 0
last_steps w at (suc zero) = w.writes
last_steps w at (suc (suc zero)) = w.writes + w.writes
last_steps w at (suc (suc (suc m))) = most w at

-- the work that the renewal of a slot's trailer, now t, to v still needs
unfoldable pub renew_cost : Weight → Geometry → Slot → ℕ → List ℕ → ℕ
renew_cost w g s v t = last_steps w (offset g (Sector s g.count)) (steps_left t (flag_count g s) v)

steps-most : (w : Weight) (at m : ℕ) → last_steps w at m ≤ most w at
steps-most w at zero = omega arith
steps-most w at (suc zero) = omega arith
steps-most w at (suc (suc zero)) = omega arith
steps-most w at (suc (suc (suc m))) = omega arith

module _ (w : Weight) (g : Geometry) (s : Slot) (v : ℕ) (t : List ℕ) where
  pub renew-most : renew_cost w g s v t ≤ most w (offset g (Sector s g.count))
  unfolding renew_cost
  renew-most = steps-most w (offset g (Sector s g.count)) (steps_left t (flag_count g s) v)

  pub renew-left : (m : ℕ) → steps_left t (flag_count g s) v ≡ m → renew_cost w g s v t ≡ last_steps w (offset g (Sector s g.count)) m
  unfolding renew_cost
  renew-left m e = rw e

  pub renew-none : renewed_to t (flag_count g s) v ≡ true → renew_cost w g s v t ≡ 0
  unfolding renew_cost steps_left
  renew-none e = rw e

-- ---- one step

-- what a step makes of a trailer with n flags: it is not sound, it is as it was, or it is renewed
pub data Becomes (n v : ℕ) (was now : List ℕ) : Type 0 where
  unsound : sound now ≡ false → Becomes n v was now
  stays : now ≡ was → Becomes n v was now
  complete : sound_with now v ≡ true → all new (flags n now) ≡ true → Becomes n v was now

-- f' comes of f by a step of the renewal, whole or cut, with at most `left` to be done
pub record After (g : Geometry) (s : Slot) (v : ℕ) (f f' : List ℕ) (left : Weight → ℕ) : Type 0 where
  pub now : List ℕ
  pub change : Change g f f' (Sector s g.count) now
  pub becomes : Becomes (flag_count g s) v (trailer_of g f s) now
  pub cost : (w : Weight) → renew_cost w g s v now ≤ left w

pub record Renewal (g : Geometry) (s : Slot) (v : ℕ) (f : List ℕ) (d : Step) : Type 0 where
  pub is-due : renewal_of g f s v ≡ Some d
  pub left : Weight → ℕ
  pub less : (w : Weight) → weigh w d + left w ≤ renew_cost w g s v (trailer_of g f s)
  pub whole : After g s v f (applied g f d) left
  pub broken : (f' : List ℕ) → Cut g f d f' → After g s v f f' (λ w. renew_cost w g s v (trailer_of g f s))

-- a slot's trailer starts where a cut erase leaves it unsound
starts : (g : Geometry) (s : Slot) → trailer_start g (offset g (Sector s g.count)) ≡ true
unfolding offset
starts g Boot = or_left _ _ (eq-eqb (g.boot + image_size g) (g.boot + image_size g) refl)
starts g Update = or_right (eqb (g.update + image_size g) (g.boot + image_size g)) _ (eq-eqb (g.update + image_size g) (g.update + image_size g) refl)

module _ {g : Geometry} {o f : List ℕ} (b : Base g o f) (s : Slot) (v : ℕ) (hv : v < 255)
    (idle : renewed_to (trailer_of g f s) (flag_count g s) v ≡ false) where
  abbrev p : Place
  p = Sector s g.count

  abbrev z : ℕ
  z = g.size

  abbrev at : ℕ
  at = offset g p

  abbrev t : List ℕ
  t = trailer_of g f s

  abbrev n : ℕ
  n = flag_count g s

  abbrev due : Weight → ℕ
  due w = renew_cost w g s v t

  -- all FF but the state byte, and the same closed
  abbrev stamped : List ℕ
  stamped = set (blank z) (z - 5) v

  abbrev closed : List ℕ
  closed = write stamped (z - 4) closing

  hz : 256 ≤ z
  hz = (base_valid b).shape.size-min

  hn : n ≤ 64
  hn = flag-count-max g s (base_valid b).shape.count-max

  size : length t ≡ z
  size = sector-size b p (omega arith)

  -- a cut Byte or Mark that was not begun
  stay : After g s v f f due
  stay = record { now = t; change = unchanged b p (omega arith); becomes = stays refl; cost = λ w. omega arith }

  accept : (d : Step) → renewal_of g f s v ≡ Some d → accepted g d ≡ true
  accept d e = rw e at (renewal_accepted g f (base_valid b) s v)

  stamp : all 0xFF t ≡ true → renewal_of g f s v ≡ Some (Byte (at + (z - 5)) v) → Renewal g s v f (Byte (at + (z - 5)) v)
  unfolding steps_left
  stamp e is = record {
    is-due = is;
    left = λ w. w.writes;
    less = λ w. omega (arith, costs w);
    whole = done (λ w. w.writes) (λ w. omega arith);
    broken = λ f' c. cut f' c;
  }
    where
      costs : (w : Weight) → due w ≡ w.writes + w.writes
      costs w = renew-left w g s v t 2 (rw (idle, e))

      holds : bytes_at g (applied g f (Byte (at + (z - 5)) v)) p ≡ stamped
      holds = (on b p (omega arith)).one_byte (z - 5) v (omega (arith, hz))
          ∙ ap (λ (l : List ℕ). write l (z - 5) (v ∷ [])) (is-blank t (omega (arith, size, hz)) e ∙ ap blank size)
          ∙ stamps z hz v hv

      done : (left : Weight → ℕ) → ((w : Weight) → w.writes ≤ left w) → After g s v f (applied g f (Byte (at + (z - 5)) v)) left
      done left h = record {
        now = stamped;
        change = stepped b p (omega arith) (Byte (at + (z - 5)) v) (accept (Byte (at + (z - 5)) v) is) (omega arith, omega (arith, hz)) stamped holds;
        becomes = unsound (stamped_unsound z hz v hv);
        cost = λ w. omega (arith, h w, renew-left w g s v stamped 1 (left_stamped z hz v hv n hn));
      }

      cut : (f' : List ℕ) → Cut g f (Byte (at + (z - 5)) v) f' → After g s v f f' due
      cut f' (inl q) = rw q stay
      cut f' (inr q) = rw q (done due (λ w. omega (arith, costs w)))

  mark : all 0xFF t ≡ false → all_but_state t v ≡ true → renewal_of g f s v ≡ Some (Mark (at + (z - 4))) → Renewal g s v f (Mark (at + (z - 4)))
  unfolding steps_left
  mark a e is = record {
    is-due = is;
    left = λ w. 0;
    less = λ w. omega (arith, costs w);
    whole = done (λ w. 0);
    broken = λ f' c. cut f' c;
  }
    where
      costs : (w : Weight) → due w ≡ w.writes
      costs w = renew-left w g s v t 1 (rw (idle, a, e))

      holds : bytes_at g (applied g f (Mark (at + (z - 4)))) p ≡ closed
      holds = (on b p (omega arith)).marked ∙ ap (λ (l : List ℕ). write l (z - 4) closing) (rw size at (is_stamped t (omega (arith, size, hz)) v hv e))

      done : (left : Weight → ℕ) → After g s v f (applied g f (Mark (at + (z - 4)))) left
      done left = record {
        now = closed;
        change = stepped b p (omega arith) (Mark (at + (z - 4))) (accept (Mark (at + (z - 4))) is) (omega arith, omega (arith, hz)) closed holds;
        becomes = complete (closed_with z hz v hv) (closed_flags z hz v hv n hn);
        cost = λ w. omega (arith, renew-left w g s v closed 0 (left_closed z hz v hv n hn));
      }

      cut : (f' : List ℕ) → Cut g f (Mark (at + (z - 4))) f' → After g s v f f' due
      cut f' (inl q) = rw q stay
      cut f' (inr q) = rw q (done due)

  erase : all 0xFF t ≡ false → all_but_state t v ≡ false → renewal_of g f s v ≡ Some (Erase at) → Renewal g s v f (Erase at)
  unfolding steps_left
  erase a e is = record {
    is-due = is;
    left = λ w. w.writes + w.writes;
    less = λ w. omega (arith, costs w);
    whole = record {
      now = blank z;
      change = erased b p (omega arith);
      becomes = unsound (blank_unsound z hz);
      cost = λ w. omega (arith, renew-left w g s v (blank z) 2 (left-blank z hz v hv n hn));
    };
    broken = λ f' c. record {
      now = c.0.left;
      change = torn b p (omega arith) f' c.0;
      becomes = unsound (c.1 (starts g s));
      cost = λ w. omega (arith, costs w, renew-most w g s v c.0.left);
    };
  }
    where
      costs : (w : Weight) → due w ≡ most w at
      costs w = renew-left w g s v t 3 (rw (idle, a, e))

  -- the step that is due, while the renewal isn't finished
  pub renewal : (d : Step) × Renewal g s v f d
  unfolding renew
  renewal = go (all 0xFF t) refl (all_but_state t v) refl
    where
      five : at + length t - 5 ≡ at + (z - 5)
      five = omega (arith, size, hz)

      four : at + length t - 4 ≡ at + (z - 4)
      four = omega (arith, size, hz)

      go : (x : Bool) → all 0xFF t ≡ x → (y : Bool) → all_but_state t v ≡ y → (d : Step) × Renewal g s v f d
      go true e y e' = (Byte (at + (z - 5)) v, stamp e (rw (idle, e, five)))
      go false e true e' = (Mark (at + (z - 4)), mark e e' (rw (idle, e, e', four)))
      go false e false e' = (Erase at, erase e e' (rw (idle, e, e')))

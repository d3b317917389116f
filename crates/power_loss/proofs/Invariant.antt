-- The invariant of a swap through steps and cuts: how far it has come, and the work that it still needs. Assumes nothing.
use Prim.Native.Nat.{ℕ, zero, suc, ◌+◌, ◌*◌, ◌≤◌, ◌<◌}
use mathlib.Core.Bool.{Bool, true, false, cond}
use mathlib.Core.List.{List}
use mathlib.Core.Path.{◌≡◌, refl}
use native.Mathlib.Omega.{arith}
use Rattle.compare.specs.Compare.{same, all}
use Rattle.compare.proofs.Sameness.{same_self}
use Rattle.compare.proofs.Tests.{by_test}
use Rattle.compare.proofs.Values.{all_replicate}
use Rattle.flash.specs.Bytes.{blank}
use Rattle.flash.specs.Cuts.{Cut}
use Rattle.flash.specs.Steps.{applied}
use Rattle.flash.specs.declared.geometry.Geometry.{Geometry}
use Rattle.flash.specs.declared.steps.Step.{Step}
use Rattle.slots.specs.Correspondence.{FlagsAt}
use Rattle.slots.specs.Flags.{flags}
use Rattle.slots.specs.Places.{offset, bytes_at, trailer_of}
use Rattle.slots.specs.declared.places.Place.TheVariants.{Sector}
use Rattle.slots.specs.declared.places.Slot.TheVariants.{Boot, Update}
use Rattle.slots.specs.declared.places.Slot.{Slot}
use Rattle.slots.proofs.Exchanging.{source_at, target_at}
use Rattle.loader.specs.States.{updating, testing, staged, on_trial}
use Rattle.power_loss.proofs.OneSector.{Base, Change}
use Rattle.power_loss.proofs.Renewal.{renew_cost}
use Rattle.power_loss.proofs.Weights.{Weight, most, weigh, harm}

-- what is followed through a swap: something that is known of the image sectors at each progress, and stays known through the changes
-- that a swap makes; and whether a return may come first
pub record Setting : Type 1 where
  pub g : Geometry
  pub origin : List ℕ
  pub Held : ℕ → List ℕ → Type 0
  pub Returns : Type 0
  -- the current target changes; its flag is written where it equals the source
  pub retargets : (p : ℕ) (f f' d : List ℕ) → p < 3 * g.count → Change g f f' (target_at p) d → Held p f → Held p f'
  pub advances : (p : ℕ) (f f' d : List ℕ) → p < 3 * g.count → bytes_at g f (source_at p) ≡ bytes_at g f (target_at p)
      → Change g f f' (Sector Update g.count) d → Held p f → Held (suc p) f'
  -- a trailer changes before the first sector, or after the last
  pub starts : (f f' d : List ℕ) → Change g f f' (Sector Update g.count) d → Held 0 f → Held 0 f'
  pub ends : (s : Slot) (f f' d : List ℕ) → 1 ≤ g.count → Change g f f' (Sector s g.count) d → Held (3 * g.count) f → Held (3 * g.count) f'

module _ (t : Setting) where
  open t use {g, origin, Held, Returns}

  -- ---- the phases

  -- UPDATE's trailer is renewed for a return
  pub record Renewing (f : List ℕ) : Type 0 where
    pub base : Base g origin f
    pub may : Returns
    pub idle : staged g f ≡ false
    pub trial : on_trial g f ≡ true
    pub held : Held 0 f

  -- a swap has come to the progress p
  pub record Going (p : ℕ) (f : List ℕ) : Type 0 where
    pub base : Base g origin f
    pub is-staged : staged g f ≡ true
    pub reached : FlagsAt g.count p (flags g.count (trailer_of g f Update))
    pub held : Held p f

  -- on the way to the boot; the test says whether all sectors are exchanged
  pub data Phase (f : List ℕ) : Bool → Type 0 where
    renewing : Renewing f → Phase f false
    exchanging : (p left : ℕ) → suc p + left ≡ 3 * g.count → Going p f → Phase f false
    finishing : Going (3 * g.count) f → Phase f true

  -- the boot is reached
  pub record Over (f : List ℕ) : Type 0 where
    pub base : Base g origin f
    pub idle : staged g f ≡ false
    pub trial : on_trial g f ≡ true
    pub held : Held (3 * g.count) f

  -- ---- the work that a phase still needs

  -- a copy of a onto b at an offset, with its flag
  unfoldable pub copy_cost : Weight → ℕ → List ℕ → List ℕ → ℕ
  copy_cost w at a b = cond (same a b) w.writes (cond (all 0xFF b) (w.writes + w.writes) (most w at))

  abbrev pub copy_most : Weight → ℕ → ℕ
  copy_most w p = most w (offset g (target_at p))

  -- m whole copies from the progress p on
  unfoldable pub copies : Weight → ℕ → ℕ → ℕ
  copies w p zero = 0
  copies w p (suc m) = copy_most w p + copies w (suc p) m

  abbrev pub start_cost : Weight → List ℕ → ℕ
  start_cost w f = renew_cost w g Update updating (trailer_of g f Update)

  abbrev pub end_cost : Weight → List ℕ → ℕ
  end_cost w f = renew_cost w g Boot testing (trailer_of g f Boot) + w.writes

  abbrev pub cost : {f : List ℕ} {late : Bool} → Weight → Phase f late → ℕ
  cost {f} w (renewing h) = start_cost w f + copies w 0 (3 * g.count) + end_cost w f
  cost {f} w (exchanging p left e h) =
      copy_cost w (offset g (target_at p)) (bytes_at g f (source_at p)) (bytes_at g f (target_at p)) + copies w (suc p) left + end_cost w f
  cost {f} w (finishing h) = end_cost w f

  module _ (w : Weight) (at : ℕ) (a : List ℕ) where
    pub copy-most : (b : List ℕ) → copy_cost w at a b ≤ most w at
    unfolding copy_cost
    copy-most b = by_test (λ x. x ≤ most w at) (same a b) (λ e. omega arith)
        (λ e. by_test (λ x. x ≤ most w at) (all 0xFF b) (λ e'. omega arith) (λ e'. omega arith))

    pub copy-blank : (z : ℕ) → copy_cost w at a (blank z) ≤ w.writes + w.writes
    unfolding copy_cost blank
    copy-blank z = rw (all_replicate 255 z) (by_test (λ x. x ≤ w.writes + w.writes) (same a (blank z)) (λ e. omega arith) (λ e. omega arith))

    pub copy-same : copy_cost w at a a ≡ w.writes
    unfolding copy_cost
    copy-same = rw (same_self a)

  pub one-copy : (w : Weight) (p m : ℕ) → copies w p (suc m) ≡ copy_most w p + copies w (suc p) m
  unfolding copies
  one-copy w p m = refl

  -- ---- a step from a phase

  -- f is in some phase, with at most `left` to be done
  pub record Reach (f : List ℕ) (left : Weight → ℕ) : Type 0 where
    pub late : Bool
    pub phase : Phase f late
    pub fits : (w : Weight) → cost w phase ≤ left w

  pub reach_more : {f : List ℕ} {l l' : Weight → ℕ} → ((w : Weight) → l w ≤ l' w) → Reach f l → Reach f l'
  reach_more le r = record { late = r.late; phase = r.phase; fits = λ w. omega (arith, le w, r.fits w) }

  -- the step s from the phase p, whole or cut
  pub record Move {f : List ℕ} {late : Bool} (p : Phase f late) (s : Step) : Type 0 where
    pub left : Weight → ℕ
    pub less : (w : Weight) → weigh w s + left w ≤ cost w p
    pub whole : Reach (applied g f s) left
    pub keeps : late ≡ true → whole.late ≡ true
    pub broken : (f' : List ℕ) → Cut g f s f' → Reach f' (λ w. cost w p + harm w s)

  -- the last step s from the phase p, whole, or cut and not done
  pub record Arrival {f : List ℕ} {late : Bool} (p : Phase f late) (s : Step) : Type 0 where
    pub less : (w : Weight) → weigh w s ≤ cost w p
    pub whole : Over (applied g f s)
    pub broken : (f' : List ℕ) → Cut g f s f' → same f' (applied g f s) ≡ false → Reach f' (λ w. cost w p + harm w s)

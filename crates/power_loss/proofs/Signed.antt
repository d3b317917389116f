-- The signature checker's answers at a power-up are those of its phase. Assumes nothing.
use Prim.Native.Nat.{ℕ, zero, suc, ◌*◌}
use mathlib.Core.Bool.{Bool, true, false, not, ◌&&◌}
use mathlib.Core.List.{List}
use mathlib.Core.Path.{◌≡◌, refl, ap, ◌∙◌}
use native.Mathlib.Omega.{arith}
use borrow.Author.Tests.{eq-eqb, ne_eqb}
use lib.Dec.{eqb}
use Rattle.flash.specs.declared.geometry.Geometry.{Geometry}
use Rattle.slots.specs.Correspondence.{Says}
use Rattle.slots.specs.Flags.{flags}
use Rattle.slots.specs.Places.{image_of, trailer_of}
use Rattle.slots.specs.declared.places.Slot.TheVariants.{Boot, Update}
use Rattle.slots.specs.declared.places.Slot.{Slot}
use Rattle.slots.proofs.Corresponding.{one_to_one}
use Rattle.loader.specs.Checks.{Checks}
use Rattle.loader.specs.MidSwap.{mid_swap}
use Rattle.power_loss.specs.PowerUps.{signed}
use Rattle.power_loss.proofs.Contents.{Contents, following, contents_new, contents_end}
use Rattle.power_loss.proofs.Images.{image-same}
use Rattle.power_loss.proofs.Invariant.{Setting, Going, Phase, renewing, exchanging, finishing}
use Rattle.power_loss.proofs.Runs.{for_boot, for_update}

module _ (checks : Checks) (sig : List ℕ → Bool) (g : Geometry) (f₀ o : List ℕ) where
  abbrev a : Bool
  a = sig (image_of g f₀ Boot)

  abbrev b : Bool
  b = sig (image_of g f₀ Update)

  abbrev u : Setting
  u = following checks g f₀ o

  pub record Answered (f : List ℕ) (late : Bool) : Type 0 where
    pub boot : signed checks sig g f₀ f Boot ≡ for_boot checks g f₀ o a b late
    pub update : signed checks sig g f₀ f Update ≡ for_update checks g f₀ o a b late

  module _ (f : List ℕ) where
    -- in mid-swap by the flash at the start, else by the flash as it is
    in_swap : mid_swap g f ≡ true → (s : Slot) → signed checks sig g f₀ f s ≡ sig (image_of g f₀ s)
    unfolding signed
    in_swap e s = rw e

    out_of_swap : mid_swap g f ≡ false → (s : Slot) → signed checks sig g f₀ f s ≡ sig (image_of g f s)
    unfolding signed
    out_of_swap e s = rw e

    untouched : mid_swap g f ≡ false → Contents checks g f₀ 0 f → Answered f false
    untouched e c = record { boot = is Boot; update = is Update }
      where
        is : (s : Slot) → signed checks sig g f₀ f s ≡ sig (image_of g f₀ s)
        is s = out_of_swap e s ∙ ap sig (image-same g f f₀ s s (contents_new checks g f₀ f c s))

  module _ (f : List ℕ) {p : ℕ} (h : Going u p f) where
    said : Says g.count p (flags g.count (trailer_of g f Update))
    said = (one_to_one g.count).says p (flags g.count (trailer_of g f Update)) h.reached

    mid_is : mid_swap g f ≡ (not (eqb p 0) && not (eqb p (3 * g.count)))
    unfolding mid_swap
    mid_is = rw (h.is-staged, said.all_new, said.all-updated)

  -- a power-up's answers are those of its phase
  pub answers : (f : List ℕ) {late : Bool} → Phase u f late → Answered f late
  unfolding mid_swap
  answers f (renewing h) = untouched f (rw h.idle) h.held
  answers f (exchanging zero left e h) = untouched f (mid_is f h) h.held
  answers f (exchanging (suc p) left e h) =
      let m : mid_swap g f ≡ true = mid_is f h ∙ rw (ne_eqb (suc p) 0 (omega arith), ne_eqb (suc p) (3 * g.count) (omega arith)) in
      record { boot = in_swap f m Boot; update = in_swap f m Update }
  answers f (finishing h) =
      let c = contents_end checks g f₀ f h.held in
      let m : mid_swap g f ≡ false = mid_is f h ∙ rw (eq-eqb (3 * g.count) (3 * g.count) refl) (no_more (not (eqb (3 * g.count) 0))) in
      record {
        boot = out_of_swap f m Boot ∙ ap sig (image-same g f f₀ Boot Update (c Boot));
        update = out_of_swap f m Update ∙ ap sig (image-same g f f₀ Update Boot (c Update));
      }
    where
      no_more : (x : Bool) → (x && false) ≡ false
      no_more true = refl
      no_more false = refl

-- A run ends by itself, on any flash. Assumes nothing.
use Prim.Native.Nat.{ℕ, suc, ◌+◌, ◌-◌, ◌*◌, ◌≤◌, ◌<◌}
use mathlib.Core.Bool.{Bool, true, false}
use mathlib.Core.List.{List}
use mathlib.Core.Path.{◌≡◌, refl, subst}
use native.Mathlib.Decide.{dec_lt}
use native.Mathlib.Omega.{arith}
use lib.ListN.{length}
use Rattle.flash.specs.Cuts.{Bytes}
use Rattle.flash.specs.Geometry.{geometry_check}
use Rattle.flash.specs.declared.geometry.Geometry.{Geometry}
use Rattle.flash.proofs.Areas.{valid}
use Rattle.slots.specs.Flags.{flags, progress_of}
use Rattle.slots.specs.Places.{offset, bytes_at, trailer_of}
use Rattle.std.specs.Prelude.{Result, Ok, Err}
use Rattle.slots.specs.declared.places.Slot.TheVariants.{Update}
use Rattle.slots.proofs.Exchanging.{source_at, target_at}
use Rattle.slots.proofs.Reached.{flags_at, flags-says}
use Rattle.slots.proofs.Reading.{length-flags}
use Rattle.loader.specs.Checks.{Checks}
use Rattle.loader.specs.Decisions.{boot_or}
use Rattle.loader.specs.States.{staged, on_trial}
use Rattle.loader.specs.Answers as A
use Rattle.runner.specs.Runs.{Outcome, run_for, run_of}
use Rattle.power_loss.specs.RunEnds.{IsEnd, RunEnds}
use Rattle.power_loss.proofs.Decided.{at_rest, boot_ends, at_ill_formed}
use Rattle.power_loss.proofs.Found.{found, found-run}
use Rattle.power_loss.proofs.Invariant.{Setting, Going, exchanging, finishing, copy-most}
use Rattle.power_loss.proofs.OneSector.{Base, kept_self}
use Rattle.power_loss.proofs.Returning.{Within, within_more, stops, idle_run}
use Rattle.power_loss.proofs.RunSteps.{by_check}
use Rattle.power_loss.proofs.Runs.{three_each, end_most}
use Rattle.power_loss.proofs.Weights.{ones}

module _ (checks : Checks) (g : Geometry) (f : List ℕ) (bytes : Bytes f) (ok : geometry_check g (length f) ≡ 0) (a b : Bool) (m : ℕ) where
  abbrev u : Setting
  u = found g f

  base : Base g f f
  base = record { ok = ok; bytes = bytes; kept = kept_self g f }

  abbrev top : ℕ
  top = 2 * (9 * g.count + 4)

  -- a swap is pending: at some progress, or its flags are ill-formed
  swap_run : staged g f ≡ true → Within m top (run_for checks g m a b f)
  swap_run e = go (progress_of (flags g.count (trailer_of g f Update))) refl
    where
      at : (p : ℕ) → progress_of (flags g.count (trailer_of g f Update)) ≡ Ok p → Going u p f
      at p q = record {
        base = base;
        is-staged = e;
        reached = rw (length-flags g.count (trailer_of g f Update)) at (flags_at (flags g.count (trailer_of g f Update)) p q);
        held = tt;
      }

      go : (x : Result ℕ ℕ) → progress_of (flags g.count (trailer_of g f Update)) ≡ x → Within m top (run_for checks g m a b f)
      go (Err n) q = stops checks g f a b (A.Refused n) (at_ill_formed checks g f ok a b e n q) tt m top
      go (Ok p) q = by_end (dec_lt p (3 * g.count))
        where
          by_end : Dec (p < 3 * g.count) → Within m top (run_for checks g m a b f)
          by_end (yes l) = within_more
              (omega (
                arith,
                copy-most u ones (offset g (target_at p)) (bytes_at g f (source_at p)) (bytes_at g f (target_at p)),
                three_each u (suc p) (3 * g.count - suc p),
                end_most u f,
              ))
              (found-run checks g f m f a b (exchanging p (3 * g.count - suc p) (omega arith) (at p q)))
          by_end (no l) =
              let z : p ≡ 3 * g.count = omega (arith, (flags-says g.count (trailer_of g f Update) p q).bound) in
              within_more (omega (arith, end_most u f)) (found-run checks g f m f a b (finishing (subst (λ (i : ℕ). Going u i f) z (at p q))))

  any_run : Within m top (run_for checks g m a b f)
  any_run = go (staged g f) refl (on_trial g f) refl
    where
      go : (x : Bool) → staged g f ≡ x → (y : Bool) → on_trial g f ≡ y → Within m top (run_for checks g m a b f)
      go true e y e' = swap_run e
      go false e true e' = within_more (omega arith) (idle_run checks g f base e e' a b m)
      go false e false e' = stops checks g f a b (boot_or checks g f a 0) (at_rest checks g f ok a b e e') (boot_ends checks g f ok a b 0) m top

pub run_ends : RunEnds
run_ends checks g a b f c bytes = record { steps = λ m. (run m).0; ends = (run 4096).1 (omega arith) }
  where
    Bound : ℕ → Outcome → Type 0
    Bound m x = (length x.steps ≤ 2 * (9 * g.count + 4)) × (4096 ≤ m → IsEnd x.answer)

    run : (m : ℕ) → Bound m (run_of checks g m a b f c)
    run m = by_check checks g f a b (Bound m) m c
        (λ ok. let w = any_run checks g f bytes ok a b m in (w.steps, λ h. w.ends (omega (arith, (valid g (length f) ok).shape.count-max))))
        (λ n. (omega arith, λ h. tt))

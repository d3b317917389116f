-- In mid-swap nothing is verified and nothing boots: the decision is the exchange's step, or 20. Assumes nothing.
use Prim.Native.Nat.{ℕ, ◌*◌, ◌<◌}
use mathlib.Core.Bool.{Bool, true, false, cond, not, ◌&&◌}
use mathlib.Core.List.{List}
use mathlib.Core.Logic.{◌≢◌}
use mathlib.Core.Path.{◌≡◌, refl, sym, ◌∙◌}
use native.Mathlib.Omega.{arith}
use borrow.Author.Tests.{eqb-true, not-true, eq-eqb}
use lib.Dec.{eqb}
use lib.ListN.{length}
use Rattle.compare.specs.Compare.{all}
use Rattle.compare.proofs.Tests.{never, and_left, and_right}
use Rattle.flash.specs.Geometry.{geometry_check}
use Rattle.flash.specs.declared.geometry.Geometry.{Geometry}
use Rattle.slots.specs.Flags.{new, updated, flags, progress_of}
use Rattle.slots.specs.Places.{trailer_of}
use Rattle.std.specs.Prelude.{Result, Ok, Err}
use Rattle.slots.specs.declared.places.Slot.TheVariants.{Update}
use Rattle.slots.proofs.Exchanging.{exchange_step_at, exchange_due}
use Rattle.slots.proofs.Reached.{new_at, ill_formed, flags-says}
use Rattle.loader.specs.Checks.{Checks}
use Rattle.loader.specs.Decisions.{staged_decision, decision, next_step}
use Rattle.loader.specs.MidSwap.{mid_swap, mid_swap_answer, NothingVerified, StepOr20, NeverBoots}
use Rattle.loader.specs.States.{testing, staged}
use Rattle.loader.specs.Answers.{Answer}
use Rattle.loader.specs.Answers as A
use Rattle.loader.proofs.ByProgress.{at_refusal, at_progress}

module _ (g : Geometry) (f : List ℕ) where
  abbrev fs : List ℕ
  fs = flags g.count (trailer_of g f Update)

  -- the answer by the progress alone
  answered : Result ℕ ℕ → Answer
  answered (Ok p) = A.Step (exchange_step_at g f p)
  answered (Err n) = A.Refused n

  module _ (is : mid_swap g f ≡ true) where
    two : (staged g f && not (all new fs)) ≡ true
    unfolding mid_swap
    two = and_left (staged g f && not (all new fs)) (not (all updated fs)) is

    is-staged : staged g f ≡ true
    is-staged = and_left (staged g f) (not (all new fs)) two

    not_new : all new fs ≡ false
    not_new = not-true (all new fs) (and_right (staged g f) (not (all new fs)) two)

    not-updated : all updated fs ≡ false
    unfolding mid_swap
    not-updated = not-true (all updated fs) (and_right (staged g f && not (all new fs)) (not (all updated fs)) is)

    -- some sector is begun or done, and some is not done
    begun : (p : ℕ) → progress_of fs ≡ Ok p → eqb p 0 ≡ false
    begun p e = sym (new_at fs p e) ∙ not_new

    unfinished : (p : ℕ) → progress_of fs ≡ Ok p → p < 3 * g.count
    unfinished p e =
        let s = flags-says g.count (trailer_of g f Update) p e in
        let n : p ≢ 3 * g.count = λ q. never (sym (eq-eqb p (3 * g.count) q) ∙ sym s.all-updated ∙ not-updated) in
        omega (arith, s.bound)

    module _ (ok : geometry_check g (length f) ≡ 0) (checks : Checks) (a b : Bool) where
      by_progress : (r : Result ℕ ℕ) → progress_of fs ≡ r → staged_decision checks g f testing a b ≡ answered r
      unfolding answered
      by_progress (Err n) e = at_refusal checks g f ok testing a b n e
      by_progress (Ok p) e = at_progress checks g f ok testing a b p e ∙ rw (begun p e, exchange_due g f p (unfinished p e))

      decides : decision checks g f a b ≡ answered (progress_of fs)
      unfolding decision
      decides = rw is-staged (by_progress (progress_of fs) refl)

pub nothing_verified : NothingVerified
unfolding next_step
nothing_verified g f is checks checks' a a' b b' = go (eqb (geometry_check g (length f)) 0) refl
  where
    refused : Answer
    refused = A.Refused (geometry_check g (length f))

    go : (c : Bool) → eqb (geometry_check g (length f)) 0 ≡ c → cond c (decision checks g f a b) refused ≡ cond c (decision checks' g f a' b') refused
    go true e = let ok = eqb-true _ _ e in decides g f is ok checks a b ∙ sym (decides g f is ok checks' a' b')
    go false e = refl

pub never_boots : NeverBoots
unfolding next_step mid_swap_answer answered
never_boots g f is checks a b = rw (ok, decides g f swapping ok checks a b) (go (progress_of (fs g f)) refl)
  where
    ok : geometry_check g (length f) ≡ 0
    ok = eqb-true _ _ (and_left (eqb (geometry_check g (length f)) 0) (mid_swap g f) is)

    swapping : mid_swap g f ≡ true
    swapping = and_right (eqb (geometry_check g (length f)) 0) (mid_swap g f) is

    go : (r : Result ℕ ℕ) → progress_of (fs g f) ≡ r → StepOr20 (answered g f r)
    go (Ok p) e = tt
    go (Err n) e = (ill_formed (fs g f) n e).1

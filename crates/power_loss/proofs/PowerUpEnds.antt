-- The end of a power-up, cut or not, over the phases of a swap. Assumes nothing.
use Prim.Native.Nat.{ℕ, ◌+◌, ◌≤◌}
use mathlib.Core.Bool.{Bool, true, false, ◌&&◌}
use mathlib.Core.List.{List, [], ◌∷◌, ◌++◌}
use mathlib.Core.Logic.{◌≢◌}
use mathlib.Core.Path.{◌≡◌, refl, sym, ◌∙◌}
use native.Mathlib.Omega.{arith}
use Rattle.compare.specs.Compare.{same}
use Rattle.compare.proofs.Sameness.{same_equal}
use Rattle.compare.proofs.Tests.{never}
use Rattle.flash.specs.Cuts.{Cut}
use Rattle.flash.specs.Steps.{applied}
use Rattle.flash.specs.declared.geometry.Geometry.{Geometry}
use Rattle.flash.specs.declared.steps.Step.{Step}
use Rattle.slots.specs.Places.{image_of}
use Rattle.slots.specs.declared.places.Slot.TheVariants.{Update}
use Rattle.loader.specs.Checks.{Checks}
use Rattle.loader.specs.Decisions.{next_step}
use Rattle.loader.specs.Answers as A
use Rattle.loader.specs.Answers.{Answer}
use Rattle.runner.specs.Runs.{Outcome}
use Rattle.power_loss.specs.Demand.{GoesOn}
use Rattle.power_loss.specs.Histories.{Event, cut_on, cut_between, finished_all}
use Rattle.power_loss.specs.PowerUps.{Due, ordinary, last}
use Rattle.power_loss.proofs.Contents.{following}
use Rattle.power_loss.proofs.Exchange.{never_same}
use Rattle.power_loss.proofs.Invariant.{Setting, Phase, Over, cost, Reach}
use Rattle.power_loss.proofs.Runs.{for_boot, for_update, Next, onward, arrive, next, Ran, due, done}
use Rattle.power_loss.proofs.Weights.{Weight, harm, weighed, Bill, between_bill, cut_bill}

step≢boot : {s : Step} {r : ℕ} → A.Step s ≢ A.Boot r
step≢boot e = never_same (cc)

last≢boot : {s : Step} {r : ℕ} → A.LastStep s ≢ A.Boot r
last≢boot e = never_same (cc)

step≢last : {s s' : Step} → A.Step s ≢ A.LastStep s'
step≢last e = never_same (cc)

-- ---- which step an answer says is due

due_boot : {x : Answer} {s : Step} {last : Bool} {r : ℕ} → Due x s last → x ≢ A.Boot r
due_boot (ordinary s) = step≢boot
due_boot (last s) = last≢boot

due-step : {x : Answer} {s s' : Step} {last : Bool} → Due x s last → x ≡ A.Step s' → (s ≡ s') × (last ≡ false)
due-step (ordinary s) e = (cc, refl)
due-step (last s) e = absurd (step≢last (sym e))

due-last : {x : Answer} {s s' : Step} {last : Bool} → Due x s last → x ≡ A.LastStep s' → (s ≡ s') × (last ≡ true)
due-last (ordinary s) e = absurd (step≢last e)
due-last (last s) e = (cc, refl)

module _ (checks : Checks) (g : Geometry) (f₀ o : List ℕ) (a b : Bool) (pass : checks.verdict (image_of g f₀ Update) b ≡ 0) where
  abbrev t : Setting
  t = following checks g f₀ o

  -- after the events h the flash f is in some phase
  pub record Stands (f : List ℕ) (h : List Event) (all : Weight → ℕ) : Type 0 where
    pub late : Bool
    pub phase : Phase t f late
    pub bill : Bill h all (λ w. cost t w phase)

  -- .. or the boot is reached
  pub record Booted (f : List ℕ) (h : List Event) (all : Weight → ℕ) : Type 0 where
    pub over : Over t f
    pub bill : Bill h all (λ w. 0)

  -- ---- the step due from a phase

  module _ {f : List ℕ} {late : Bool} {p : Phase t f late} {s : Step} {last : Bool}
      (d : Due (next_step checks g f (for_boot checks g f₀ o a b late) (for_update checks g f₀ o a b late)) s last) {f' : List ℕ} where
    -- cut, and not a boot
    broken : Next checks g f₀ o a b p → Cut g f s f' → (last && same f' (applied g f s)) ≡ false → Reach t f' (λ w. cost t w p + harm w s)
    broken (onward s' e mv) c n = let q = due-step d e in rw q.0 (mv.broken f' (rw q.0 at c))
    broken (arrive s' e ar) c n = let q = due-last d e in rw q.0 (ar.broken f' (rw q.0 at c) (rw (q.0, q.1) at n))

    -- the last step, cut and done
    arrived : Next checks g f₀ o a b p → (last && same f' (applied g f s)) ≡ true → Over t f'
    arrived (onward s' e mv) n = never (sym n ∙ rw (due-step d e).1)
    arrived (arrive s' e ar) n =
        let q = due-last d e in
        let i : f' ≡ applied g f s' = same_equal f' (applied g f s') (rw (q.0, q.1) at n) in
        rw i ar.whole

  module _ {m : ℕ} {all : Weight → ℕ} {x : Outcome} where
    -- cut before the step due
    pub still : {s : Step} {last : Bool} → Ran checks g f₀ o a b m all x → Due x.answer s last
        → Stands x.flash (finished_all x.steps ++ cut_between ∷ []) all
    still (done e ov le) d = absurd (due_boot d e)
    still (due {late} p e q le) d = record { late = late; phase = p; bill = between_bill x.steps le }

    -- cut on the step due, and not a boot
    pub struck : {s : Step} {last : Bool} {f' : List ℕ} → Ran checks g f₀ o a b m all x → Due x.answer s last → Cut g x.flash s f'
        → (last && same f' (applied g x.flash s)) ≡ false → Stands f' (finished_all x.steps ++ cut_on s ∷ []) all
    struck (done e ov le) d c n = absurd (due_boot d e)
    struck {s} (due p e q le) d c n =
        let r = broken (rw e at d) (next checks g f₀ o a b pass x.flash p) c n in
        record { late = r.late; phase = r.phase; bill = cut_bill x.steps s (λ w. omega (arith, le w, r.fits w)) }

    -- cut on the last step, and done
    pub finished : {s : Step} {last : Bool} {f' : List ℕ} → Ran checks g f₀ o a b m all x → Due x.answer s last
        → (last && same f' (applied g x.flash s)) ≡ true → Booted f' (finished_all x.steps ++ cut_on s ∷ []) all
    finished (done e ov le) d n = absurd (due_boot d e)
    finished {s} (due p e q le) d n = record {
      over = arrived (rw e at d) (next checks g f₀ o a b pass x.flash p) n;
      bill = cut_bill x.steps s (λ w. omega (arith, le w));
    }

    -- the boot is reached
    pub booted : (r : ℕ) → Ran checks g f₀ o a b m all x → x.answer ≡ A.Boot r
        → Over t x.flash × ((w : Weight) → weighed w (finished_all x.steps) + 0 ≤ all w)
    booted r (done e ov le) q = (ov, λ w. omega (arith, le w))
    booted r (due p e n le) q = absurd (go (next checks g f₀ o a b pass x.flash p))
      where
        go : Next checks g f₀ o a b p → ⊥
        go (onward s' e' mv) = step≢boot (sym e' ∙ sym e ∙ q)
        go (arrive s' e' ar) = last≢boot (sym e' ∙ sym e ∙ q)

    -- a step, a last step or a boot with no reason is answered
    pub goes_on : Ran checks g f₀ o a b m all x → GoesOn x.answer
    goes_on (done e ov le) = rw e refl
    goes_on (due {late} p e n le) = rw e (go (next checks g f₀ o a b pass x.flash p))
      where
        go : Next checks g f₀ o a b p → GoesOn (next_step checks g x.flash (for_boot checks g f₀ o a b late) (for_update checks g f₀ o a b late))
        go (onward s' e' mv) = rw e' tt
        go (arrive s' e' ar) = rw e' tt

-- A run from any phase of a swap: where it stands after any number of steps. Assumes nothing.
use Prim.Native.Nat.{ℕ, zero, suc, ◌+◌, ◌*◌, ◌≤◌}
use mathlib.Core.Bool.{Bool, true, false, cond, not, ◌&&◌, false≢true}
use mathlib.Core.List.{List}
use mathlib.Core.Path.{◌≡◌, refl, ap, ◌∙◌}
use native.Mathlib.Nat.{zero-add, suc-add}
use native.Mathlib.Omega.{arith}
use borrow.Author.Tests.{eq-eqb, ne_eqb}
use Rattle.flash.specs.Steps.{applied}
use Rattle.flash.specs.declared.geometry.Geometry.{Geometry}
use Rattle.flash.specs.declared.steps.Step.TheVariants.{Byte}
use Rattle.flash.specs.declared.steps.Step.{Step}
use Rattle.slots.specs.Places.{offset, bytes_at, image_of, trailer_of}
use Rattle.slots.specs.Trailers.{state_at}
use Rattle.slots.specs.declared.places.Slot.TheVariants.{Boot, Update}
use Rattle.slots.specs.declared.places.Slot.{Slot}
use Rattle.slots.proofs.Exchanging.{source_at, target_at, exchange_step_at}
use Rattle.loader.specs.Checks.{Checks}
use Rattle.loader.specs.Decisions.{next_step}
use Rattle.loader.specs.States.{updating, spent, testing, on_trial}
use Rattle.loader.specs.Answers as A
use Rattle.loader.specs.Decisions.{why}
use Rattle.runner.specs.Runs.{all_updated, Outcome, did, meets, run_for}
use Rattle.power_loss.specs.Histories.{finished_all, sum}
use Rattle.power_loss.proofs.Contents.{Contents, following, contents_new, contents_end}
use Rattle.power_loss.proofs.Decided.{back_due, not_passed_over, at_exchange, all-updated_at, finish-due, finish-last}
use Rattle.power_loss.proofs.Ends.{renews, move_renewing, finishes, move_finishing, arrival}
use Rattle.power_loss.proofs.Exchange.{move_exchanging}
use Rattle.power_loss.proofs.Images.{image-same}
use Rattle.power_loss.proofs.Invariant.{Setting, Renewing, Going, Phase, renewing, exchanging, finishing, Over, copies, one-copy}
use Rattle.power_loss.proofs.Invariant.{copy-most, end_cost, cost, Move, Arrival}
use Rattle.power_loss.proofs.OneSector.{Base}
use Rattle.power_loss.proofs.Renewal.{renew-most}
use Rattle.power_loss.proofs.RunSteps.{run-due, run_step, step_done, run-last}
use Rattle.power_loss.proofs.Weights.{Weight, ones, weigh, weighed, one_more}

-- ---- any phase

module _ (t : Setting) {f : List ℕ} where
  open t use {g, origin}

  pub phase_base : {late : Bool} → Phase t f late → Base g origin f
  phase_base (renewing h) = h.base
  phase_base (exchanging p left e h) = h.base
  phase_base (finishing h) = h.base

  -- the flash itself says whether UPDATE is sound with 70 and all flags are 0
  pub all-updated-is : {late : Bool} → Phase t f late → all_updated g f ≡ late
  unfolding all_updated
  all-updated-is (renewing h) = rw h.idle
  all-updated-is (exchanging p left e h) = all-updated_at t h ∙ ne_eqb p (3 * g.count) (omega arith)
  all-updated-is (finishing h) = all-updated_at t h ∙ eq-eqb (3 * g.count) (3 * g.count) refl

-- ---- what any phase needs at most

module _ (t : Setting) where
  open t use {g}

  copies_tail : (w : Weight) (i p m : ℕ) → copies t w (i + p) m ≤ copies t w p (i + m)
  copies_tail w zero p m = rw (zero-add p, zero-add m) (omega arith)
  copies_tail w (suc i) p m =
      let e : suc i + p ≡ i + suc p = omega arith in
      rw (e, suc-add i m) (omega (arith, one-copy t w p (i + m), copies_tail w i (suc p) m))

  pub three_each : (p m : ℕ) → copies t ones p m ≡ 3 * m
  unfolding copies
  three_each p zero = refl
  three_each p (suc m) = omega (arith, three_each (suc p) m)

  pub end_most : (f : List ℕ) → end_cost t ones f ≤ 4
  end_most f = omega (arith, renew-most ones g Boot testing (trailer_of g f Boot))

  pub at_most : {f : List ℕ} {late : Bool} (p : Phase t f late) → cost t ones p ≤ 9 * g.count + 7
  at_most {f} (renewing h) =
      omega (arith, renew-most ones g Update updating (trailer_of g f Update), three_each 0 (3 * g.count), end_most f)
  at_most {f} (exchanging p left e h) =
      omega (arith, copy-most t ones (offset g (target_at p)) (bytes_at g f (source_at p)) (bytes_at g f (target_at p)), three_each (suc p) left, end_most f)
  at_most {f} (finishing h) = omega (arith, end_most f)

-- ---- the next step, in a list that began with f₀: a and b are the checker's answers for the images of BOOT and UPDATE in f₀

module _ (checks : Checks) (g : Geometry) (f₀ o : List ℕ) (a b : Bool) where
  abbrev pub t : Setting
  t = following checks g f₀ o

  -- the answers for the slots as they are: the images exchanged or not
  abbrev pub for_boot : Bool → Bool
  for_boot late = cond late b a

  abbrev pub for_update : Bool → Bool
  for_update late = cond late a b

  -- the next step from the phase p
  pub data Next {f : List ℕ} {late : Bool} (p : Phase t f late) : Type 0 where
    onward : (s : Step) → next_step checks g f (for_boot late) (for_update late) ≡ A.Step s → Move t p s → Next p
    arrive : (s : Step) → next_step checks g f (for_boot late) (for_update late) ≡ A.LastStep s → Arrival t p s → Next p

  module _ (pass : checks.verdict (image_of g f₀ Update) b ≡ 0) (f : List ℕ) where
    same-image : Contents checks g f₀ 0 f → (s : Slot) → image_of g f s ≡ image_of g f₀ s
    same-image c s = image-same g f f₀ s s (contents_new checks g f₀ f c s)

    passes : Contents checks g f₀ 0 f → checks.verdict (image_of g f Update) b ≡ 0
    passes c = rw (same-image c Update) pass

    next_renewing : (h : Renewing t f) → Next (renewing h)
    next_renewing h =
        onward (renews t f h).0
        (back_due checks g f h.base.ok a b h.idle h.trial (passes h.held) (renews t f h).0 (renews t f h).1.is-due)
        (move_renewing t f h)

    allowed : (p : ℕ) → Going t p f → why checks g f b p ≡ 0
    allowed zero h = not_passed_over checks g f h.base.ok a b (passes h.held)
        (rw (same-image h.held Boot, same-image h.held Update) (h.held.rule refl))
    allowed (suc p) h = rw (ne_eqb (suc p) 0 (omega arith))

    next_exchanging : (p left : ℕ) (e : suc p + left ≡ 3 * g.count) (h : Going t p f) → Next (exchanging p left e h)
    next_exchanging p left e h =
        onward (exchange_step_at g f p) (at_exchange t h checks a b (omega arith) (allowed p h)) (move_exchanging t f p left e h)

    next_finishing : (h : Going t (3 * g.count) f) → Next (finishing h)
    next_finishing h = go (on_trial g f) refl
      where
        i : image_of g f Boot ≡ image_of g f₀ Update
        i = image-same g f f₀ Boot Update (contents_end checks g f₀ f h.held Boot)

        go : (c : Bool) → on_trial g f ≡ c → Next (finishing h)
        go true e = arrive (Byte (state_at g Update) spent) (finish-last t h checks b a e (rw i pass)) (arrival t f h e)
        go false e = onward (finishes t f h e).0 (finish-due t h checks b a (finishes t f h e).0 (finishes t f h e).1.is-due) (move_finishing t f h e)

    pub next : {late : Bool} (p : Phase t f late) → Next p
    next (renewing h) = next_renewing h
    next (exchanging p left e h) = next_exchanging p left e h
    next (finishing h) = next_finishing h

  -- ---- runs

  -- what a run of m steps leaves, where `all` was to be done
  pub data Ran (m : ℕ) (all : Weight → ℕ) (x : Outcome) : Type 0 where
    due : {late : Bool} (p : Phase t x.flash late) → x.answer ≡ next_step checks g x.flash (for_boot late) (for_update late)
        → weighed ones (finished_all x.steps) ≡ m → ((w : Weight) → weighed w (finished_all x.steps) + cost t w p ≤ all w) → Ran m all x
    done : x.answer ≡ A.Boot 0 → Over t x.flash → ((w : Weight) → weighed w (finished_all x.steps) ≤ all w) → Ran m all x

  ran_did : (m : ℕ) (l l' : Weight → ℕ) (s : Step) (x : Outcome) → ((w : Weight) → weigh w s + l' w ≤ l w) → Ran m l' x
      → Ran (suc m) l (did s x)
  unfolding sum finished_all
  ran_did m l l' s x h (due p e c le) = due p e (one_more s x.steps ∙ ap suc c) (λ w. omega (arith, h w, le w))
  ran_did m l l' s x h (done e ov le) = done e ov (λ w. omega (arith, h w, le w))

  -- the answers change places just where the exchange is completed
  exchanging_turns : (c c' x y : Bool) → (c ≡ true → c' ≡ true) → cond (not c && c') (cond c y x) (cond c x y) ≡ cond c' x y
  exchanging_turns true true x y h = refl
  exchanging_turns true false x y h = absurd (false≢true (h refl))
  exchanging_turns false true x y h = refl
  exchanging_turns false false x y h = refl

  pub runs : checks.verdict (image_of g f₀ Update) b ≡ 0 → (m : ℕ) (f : List ℕ) (late : Bool) (p : Phase t f late)
      → Ran m (λ w. cost t w p) (run_for checks g m (for_boot late) (for_update late) f)
  unfolding meets sum finished_all
  runs pass zero f late p = rw (run-due checks g f (for_boot late) (for_update late)) (due p refl refl (λ w. omega arith))
  runs pass (suc m) f late p = go (λ f' late' p'. runs pass m f' late' p') (next pass f p)
    where
      go : ((f' : List ℕ) (late' : Bool) (p' : Phase t f' late')
          → Ran m (λ w. cost t w p') (run_for checks g m (for_boot late') (for_update late') f'))
          → Next p → Ran (suc m) (λ w. cost t w p) (run_for checks g (suc m) (for_boot late) (for_update late) f)
      go rec (onward s e mv) =
          let x = exchanging_turns late mv.whole.late b a mv.keeps in
          let y = exchanging_turns late mv.whole.late a b mv.keeps in
          let ended = step_done checks g f (for_boot late) (for_update late) s e in
          rw (run_step checks g f (for_boot late) (for_update late) m s e, ended, all-updated-is t p, all-updated-is t mv.whole.phase, x, y)
          (ran_did m (λ w. cost t w p) (λ w. cost t w mv.whole.phase) s
          (run_for checks g m (for_boot mv.whole.late) (for_update mv.whole.late) (applied g f s))
          (λ w. omega (arith, mv.less w, mv.whole.fits w)) (rec (applied g f s) mv.whole.late mv.whole.phase))
      go rec (arrive s e ar) =
          rw (run-last checks g f (for_boot late) (for_update late) m s e) (done refl ar.whole (λ w. omega (arith, ar.less w)))

-- One step of a sector's exchange, whole or cut. Assumes nothing.
use Prim.Native.Nat.{ℕ, zero, suc, ◌+◌, ◌*◌, ◌/◌, ◌≤◌, ◌<◌}
use mathlib.Core.Bool.{Bool, true, false, cond, false≢true}
use mathlib.Core.List.{List}
use mathlib.Core.Logic.{inl, inr, ◌≢◌}
use mathlib.Core.Path.{◌≡◌, refl, sym, ap, ◌∙◌, subst}
use native.Mathlib.Nat.{add-zero, mod-eq_of_lt}
use native.Mathlib.Numerals.{add-one}
use native.Mathlib.Omega.{arith}
use borrow.Author.Tests.{lt-ltb}
use lib.Bits.{and_comm, and_mask}
use lib.ListN.{length, get_or, get_or-replicate}
use lib.Seq.{ext_get_or}
use Rattle.compare.specs.Compare.{same, all}
use Rattle.compare.proofs.Sameness.{same_equal}
use Rattle.compare.proofs.Values.{all-only}
use Rattle.flash.specs.Bytes.{blank, ands}
use Rattle.flash.specs.Cuts.{Bytes, Torn, Cut}
use Rattle.flash.specs.Steps.{accepted, applied}
use Rattle.flash.specs.declared.geometry.Geometry.{Geometry}
use Rattle.flash.specs.declared.steps.Step.TheVariants.{Erase, Copy}
use Rattle.flash.specs.declared.steps.Step.{Step}
use Rattle.flash.proofs.Writes.{length-blank, length-ands, get_or-ands_in}
use Rattle.slots.specs.Exchange.{next_flag, exchange_step, next_flag_of}
use Rattle.slots.specs.FlagWritten.{FlagWritten}
use Rattle.slots.specs.Flags.{flag_at, flag_of, flag_step, flag_step_of}
use Rattle.slots.specs.Places.{offset, Within, bytes_at, trailer_of}
use Rattle.slots.specs.Trailers.{sound_with}
use Rattle.slots.specs.declared.places.Place.TheVariants.{Sector}
use Rattle.slots.specs.declared.places.Slot.TheVariants.{Boot, Update}
use Rattle.slots.specs.declared.places.Slot.{Slot}
use Rattle.slots.proofs.DueAccepted.{exchange_accepted}
use Rattle.slots.proofs.Exchanging.{source_at, target_at, exchange_step_at, by_copy, copy_in, copy_apart, exchange_due}
use Rattle.slots.proofs.Flagging.{next-flag-written}
use Rattle.power_loss.proofs.Invariant.{Setting, Going, exchanging, finishing, copy_cost, copies, copy-most, copy-blank, copy-same, one-copy}
use Rattle.power_loss.proofs.Invariant.{end_cost, cost, Reach, reach_more, Move}
use Rattle.power_loss.proofs.OneSector.{Change, changed, base_valid, sector-size, sector-bytes, stepped, on, erased, torn}
use Rattle.power_loss.proofs.Weights.{Weight, most}

pub never_same : {A : Type 0} → ◌≡◌ {A = ℕ} 0 1 → A
never_same e = absurd (omega arith)

-- no copy goes to a trailer
pub target_aside : (g : Geometry) (p : ℕ) → p < 3 * g.count → (s : Slot) → target_at p ≢ Sector s g.count
target_aside g p h s =
    let i : p / 3 < g.count = omega arith in
    by_copy (λ a b. b ≢ Sector s g.count) (p / 3) (flag_of p) (λ e. never_same (cc)) (λ e. let j : p / 3 ≡ g.count = cc in omega arith)
    (λ e. let j : p / 3 ≡ g.count = cc in omega arith)

-- FF takes whatever bytes are written to it
ands-blank : (z : ℕ) (d : List ℕ) → length d ≡ z → Bytes d → ands (blank z) d ≡ d
unfolding blank
ands-blank z d l b =
    let m : length (ands (blank z) d) ≡ z = length-ands (blank z) d ∙ length-blank z in
    ext_get_or 0 (ands (blank z) d) d (m ∙ sym l) (λ i h.
    get_or-ands_in (blank z) d i (omega arith) ∙ rw (get_or-replicate {A = ℕ} z i 255 0 (omega arith))
    (and_comm 255 (get_or d i 0) ∙ and_mask (get_or d i 0) 8 ∙ mod-eq_of_lt (b i)))

module _ (t : Setting) (f : List ℕ) (p left : ℕ) (eq : suc p + left ≡ 3 * t.g.count) (h : Going t p f) where
  open t use {g}

  here : p < 3 * g.count
  here = omega arith

  abbrev src : List ℕ
  src = bytes_at g f (source_at p)

  abbrev tgt : List ℕ
  tgt = bytes_at g f (target_at p)

  abbrev at : ℕ
  at = offset g (target_at p)

  in_source : Within g (source_at p)
  in_source = (copy_in g (p / 3) (flag_of p) (omega arith)).0

  in_target : Within g (target_at p)
  in_target = (copy_in g (p / 3) (flag_of p) (omega arith)).1

  accept : (s : Step) → exchange_step_at g f p ≡ s → accepted g s ≡ true
  accept s e = rw (exchange_due g f p here, e) at (exchange_accepted g f (base_valid h.base) p)

  -- what is to be done after this copy
  abbrev rest : Weight → ℕ
  rest w = copies t w (suc p) left + end_cost t w f

  -- ---- the target alone changes

  retarget : (f' d : List ℕ) (m : Weight → ℕ) → Change g f f' (target_at p) d → ((w : Weight) → copy_cost t w at src d ≤ m w)
      → Reach t f' (λ w. m w + rest w)
  retarget f' d m c le = record {
    late = false;
    phase = exchanging p left eq (record {
      base = changed h.base c;
      is-staged = rw (trailer Update) h.is-staged;
      reached = rw (trailer Update) h.reached;
      held = t.retargets p f f' d here c h.held;
    });
    fits = λ w. rw (c.others (source_at p) in_source (λ e. copy_apart (p / 3) (flag_of p) (sym e)), c.holds, trailer Boot) (omega (arith, le w));
  }
    where
      trailer : (s : Slot) → trailer_of g f' s ≡ trailer_of g f s
      trailer s = c.others (Sector s g.count) (omega arith) (target_aside g p here s)

  -- the power is lost on a copy or an erase
  anything : (f' : List ℕ) → Torn g f at f' → Reach t f' (λ w. most w at + rest w)
  anything f' x = retarget f' x.left (λ w. most w at) (torn h.base (target_at p) in_target f' x) (λ w. copy-most t w at src x.left)

  move_copy : ((w : Weight) → copy_cost t w at src tgt ≡ w.writes + w.writes) → all 0xFF tgt ≡ true
      → accepted g (Copy (offset g (source_at p)) at) ≡ true → Move t (exchanging p left eq h) (Copy (offset g (source_at p)) at)
  unfolding blank
  move_copy costs e a = record {
    left = λ w. w.writes + rest w;
    less = λ w. omega (arith, costs w);
    whole = retarget (applied g f (Copy (offset g (source_at p)) at)) src (λ w. w.writes)
        (stepped h.base (target_at p) in_target (Copy (offset g (source_at p)) at) a (omega arith, omega arith) src
        ((on h.base (target_at p) in_target).copied (source_at p) in_source
        ∙ rw is-blank (ands-blank g.size src (sector-size h.base (source_at p) in_source) (sector-bytes h.base (source_at p) in_source))))
        (λ w. omega (arith, copy-same t w at src));
    keeps = λ q. absurd (false≢true q);
    broken = λ f' c. reach_more t (λ w. omega (arith, costs w)) (anything f' c);
  }
    where
      is-blank : tgt ≡ blank g.size
      is-blank = all-only 0xFF tgt e ∙ ap blank (sector-size h.base (target_at p) in_target)

  move_erase : ((w : Weight) → copy_cost t w at src tgt ≡ most w at) → Move t (exchanging p left eq h) (Erase at)
  move_erase costs = record {
    left = λ w. w.writes + w.writes + rest w;
    less = λ w. omega (arith, costs w);
    whole = retarget (applied g f (Erase at)) (blank g.size) (λ w. w.writes + w.writes)
        (erased h.base (target_at p) in_target) (λ w. copy-blank t w at src g.size);
    keeps = λ q. absurd (false≢true q);
    broken = λ f' c. reach_more t (λ w. omega (arith, costs w)) (anything f' c.0);
  }

  -- ---- the flag takes the swap on

  abbrev flag : Step
  flag = flag_step_of g f (p / 3) (next_flag (flag_of p))

  module _ (e : src ≡ tgt) (a : accepted g flag ≡ true) where
    written : FlagWritten g f p flag
    unfolding next_flag_of
    written = next-flag-written g f p flag h.base.ok (rw (lt-ltb p (3 * g.count) here))

    change : Change g f (applied g f flag) (Sector Update g.count) (trailer_of g (applied g f flag) Update)
    unfolding flag_step_of flag_step flag_at
    change = stepped h.base (Sector Update g.count) (omega arith) flag a
        (omega arith, omega (arith, sector-size h.base (Sector Update g.count) (omega arith), (base_valid h.base).shape.size-min)) _ refl

    further : Going t (suc p) (applied g f flag)
    unfolding sound_with
    further = record {
      base = changed h.base change;
      is-staged = rw (written.keeps.same-sound, written.keeps.same-state) h.is-staged;
      reached = rw add-one at (written.further h.reached);
      held = t.advances p f (applied g f flag) _ here e change h.held;
    }

    same_boot : trailer_of g (applied g f flag) Boot ≡ trailer_of g f Boot
    same_boot = change.others (Sector Boot g.count) (omega arith) (λ q. never_same (cc))

    done : Reach t (applied g f flag) rest
    done = go left eq
      where
        go : (m : ℕ) → suc p + m ≡ 3 * g.count → Reach t (applied g f flag) (λ w. copies t w (suc p) m + end_cost t w f)
        go zero q = record {
          late = true;
          phase = finishing (subst (λ (x : ℕ). Going t x (applied g f flag)) (sym (add-zero (suc p)) ∙ q) further);
          fits = λ w. rw same_boot (omega arith);
        }
        go (suc m) q = record {
          late = false;
          phase = exchanging (suc p) m (omega arith) further;
          fits = λ w. rw same_boot (omega (
            arith,
            one-copy t w (suc p) m,
            copy-most t w (offset g (target_at (suc p)))
                (bytes_at g (applied g f flag) (source_at (suc p))) (bytes_at g (applied g f flag) (target_at (suc p))),
          ));
        }

    move_flag : Move t (exchanging p left eq h) flag
    unfolding flag_step_of flag_step
    move_flag = record {
      left = rest;
      less = λ w. omega (arith, costs w);
      whole = done;
      keeps = λ q. absurd (false≢true q);
      broken = λ f' c. cut f' c;
    }
      where
        costs : (w : Weight) → copy_cost t w at src tgt ≡ w.writes
        costs w = rw (← e) (copy-same t w at src)

        cut : (f' : List ℕ) → Cut g f flag f' → Reach t f' (λ w. cost t w (exchanging p left eq h) + 0)
        cut f' (inl q) = rw q (record { late = false; phase = exchanging p left eq h; fits = λ w. omega arith })
        cut f' (inr q) = rw q (reach_more t (λ w. omega arith) done)

  pub move_exchanging : Move t (exchanging p left eq h) (exchange_step_at g f p)
  unfolding exchange_step copy_cost
  move_exchanging = go (same src tgt) refl (all 0xFF tgt) refl
    where
      go : (x : Bool) → same src tgt ≡ x → (y : Bool) → all 0xFF tgt ≡ y
          → Move t (exchanging p left eq h) (cond x flag (cond y (Copy (offset g (source_at p)) at) (Erase at)))
      go true q y r = move_flag (same_equal src tgt q) (accept flag (rw q))
      go false q true r = move_copy (λ w. rw (q, r)) r (accept (Copy (offset g (source_at p)) at) (rw (q, r)))
      go false q false r = move_erase (λ w. rw (q, r))

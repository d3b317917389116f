-- The two ends of a swap, step by step: UPDATE's trailer is renewed for a return; BOOT's when all is exchanged, and then UPDATE is spent.
-- Assumes nothing.
use Prim.Native.Nat.{ℕ, suc, ◌+◌, ◌-◌, ◌*◌, ◌≤◌}
use mathlib.Core.Bool.{Bool, true, false, ◌&&◌, false≢true}
use mathlib.Core.List.{List, [], ◌∷◌}
use mathlib.Core.Logic.{inl, inr}
use mathlib.Core.Path.{◌≡◌, refl, sym, ap, ◌∙◌}
use native.Mathlib.Omega.{arith}
use borrow.Author.Tests.{eqb-true}
use lib.Bits.{bit_and}
use lib.Dec.{eqb}
use lib.ListN.{length, get_or, set, replicate, length-set}
use lib.Seq.{get_or-set_same}
use Rattle.compare.specs.Compare.{same, all}
use Rattle.compare.proofs.Sameness.{same_self}
use Rattle.compare.proofs.Tests.{never, and_right, and_true}
use Rattle.compare.proofs.Values.{all-only}
use Rattle.flash.specs.Bytes.{write}
use Rattle.flash.specs.Cuts.{sound, Cut}
use Rattle.flash.specs.Steps.{applied}
use Rattle.flash.specs.declared.steps.Step.TheVariants.{Byte}
use Rattle.flash.specs.declared.steps.Step.{Step}
use Rattle.flash.proofs.Writes.{write-one}
use Rattle.slots.specs.Correspondence.{FlagsAt}
use Rattle.slots.specs.Flags.{new, tab, flags}
use Rattle.slots.specs.Places.{offset, bytes_at, trailer_of}
use Rattle.slots.specs.Trailers.{state, state_at, sound_with, renewed_to}
use Rattle.slots.specs.declared.places.Place.TheVariants.{Sector}
use Rattle.slots.specs.declared.places.Slot.TheVariants.{Boot, Update}
use Rattle.slots.proofs.Corresponding.{one_to_one, flags-new}
use Rattle.slots.proofs.DueAccepted.{state-accepted}
use Rattle.slots.proofs.Exchanging.{source_at, target_at}
use Rattle.slots.proofs.Reading.{length-flags}
use Rattle.slots.proofs.Renewing.{unsound_with}
use Rattle.loader.specs.States.{updating, spent, testing, on_trial}
use Rattle.power_loss.proofs.Exchange.{never_same}
use Rattle.power_loss.proofs.Invariant.{Setting, Renewing, Going, renewing, exchanging, finishing, Over, copies, copy_most, copy-most, one-copy}
use Rattle.power_loss.proofs.Invariant.{start_cost, end_cost, Reach, reach_more, Move, Arrival}
use Rattle.power_loss.proofs.OneSector.{Base, Change, changed, base_valid, sector-size, stepped, on}
use Rattle.power_loss.proofs.Renewal.{renew_cost, Becomes, unsound, stays, complete, After, Renewal, renewal}
use Rattle.power_loss.proofs.Weights.{Weight}

-- ---- renewing UPDATE's trailer

-- new flags stand for the progress 0
pub new-flags : (n : ℕ) (t : List ℕ) → all new (flags n t) ≡ true → FlagsAt n 0 (flags n t)
new-flags n t e =
    let is : flags n t ≡ replicate n 15 = all-only new (flags n t) e ∙ ap (λ (m : ℕ). replicate m 15) (length-flags n t) in
    rw (is, ← flags-new n) ((one_to_one n).stands 0 (omega arith))

module _ (t : Setting) (f : List ℕ) (h : Renewing t f) where
  open t use {g}

  abbrev all_copies : Weight → ℕ
  all_copies w = copies t w 0 (3 * g.count) + end_cost t w f

  first-copy : (w : Weight) → copies t w 0 (3 * g.count) ≡ copy_most t w 0 + copies t w 1 (3 * g.count - 1)
  first-copy w =
      let e : 3 * g.count ≡ suc (3 * g.count - 1) = omega (arith, (base_valid h.base).shape.count_min) in
      ap (λ (m : ℕ). copies t w 0 m) e ∙ one-copy t w 0 (3 * g.count - 1)

  -- what a step of the renewal leaves
  after_renewing : (f' : List ℕ) (left : Weight → ℕ) → After g Update updating f f' left → Reach t f' (λ w. left w + all_copies w)
  after_renewing f' left o = go o.becomes
    where
      is_now : trailer_of g f' Update ≡ o.now
      is_now = o.change.holds

      same_boot : trailer_of g f' Boot ≡ trailer_of g f Boot
      same_boot = o.change.others (Sector Boot g.count) (omega arith) (λ q. never_same (cc))

      base' : Base g t.origin f'
      base' = changed h.base o.change

      still : sound_with o.now updating ≡ false → Reach t f' (λ w. left w + all_copies w)
      still e = record {
        late = false;
        phase = renewing (record {
          base = base';
          may = h.may;
          idle = rw is_now e;
          trial = rw same_boot h.trial;
          held = t.starts f f' o.now o.change h.held;
        });
        fits = λ w. rw (is_now, same_boot) (omega (arith, o.cost w));
      }

      go : Becomes g.count updating (trailer_of g f Update) o.now → Reach t f' (λ w. left w + all_copies w)
      go (unsound e) = still (unsound_with o.now updating e)
      go (stays e) = still (rw e h.idle)
      go (complete e e') = record {
        late = false;
        phase = exchanging 0 (3 * g.count - 1) (omega (arith, (base_valid h.base).shape.count_min)) (record {
          base = base';
          is-staged = rw is_now e;
          reached = rw is_now (new-flags g.count o.now e');
          held = t.starts f f' o.now o.change h.held;
        });
        fits = λ w. rw same_boot (omega (
          arith,
          first-copy w,
          copy-most t w (offset g (target_at 0)) (bytes_at g f' (source_at 0)) (bytes_at g f' (target_at 0)),
        ));
      }

  pub renews : (d : Step) × Renewal g Update updating f d
  unfolding renewed_to
  renews = renewal h.base Update updating (omega arith) (rw h.idle)

  pub move_renewing : Move t (renewing h) renews.0
  move_renewing = record {
    left = λ w. renews.1.left w + all_copies w;
    less = λ w. omega (arith, renews.1.less w);
    whole = after_renewing (applied g f renews.0) renews.1.left renews.1.whole;
    keeps = λ q. absurd (false≢true q);
    broken = λ f' c. reach_more t (λ w. omega arith) (after_renewing f' (λ w. start_cost t w f) (renews.1.broken f' c));
  }

-- ---- BOOT's trailer, then the last byte

-- without flags a trailer is renewed when it is sound with its state
pub renewed_sound : (t : List ℕ) (v : ℕ) → renewed_to t 0 v ≡ sound_with t v
unfolding renewed_to flags tab all
renewed_sound t v = and_true (sound_with t v)

module _ (t : Setting) (f : List ℕ) (h : Going t (3 * t.g.count) f) where
  open t use {g}

  after_finishing : (f' : List ℕ) (left : Weight → ℕ) → After g Boot testing f f' left → Reach t f' (λ w. left w + w.writes)
  after_finishing f' left o = record {
    late = true;
    phase = finishing (record {
      base = changed h.base o.change;
      is-staged = rw same_update h.is-staged;
      reached = rw same_update h.reached;
      held = t.ends Boot f f' o.now (base_valid h.base).shape.count_min o.change h.held;
    });
    fits = λ w. rw o.change.holds (omega (arith, o.cost w));
  }
    where
      same_update : trailer_of g f' Update ≡ trailer_of g f Update
      same_update = o.change.others (Sector Update g.count) (omega arith) (λ q. never_same (cc))

  module _ (e : on_trial g f ≡ false) where
    pub finishes : (d : Step) × Renewal g Boot testing f d
    finishes = renewal h.base Boot testing (omega arith) (rw (renewed_sound (trailer_of g f Boot) testing) e)

    pub move_finishing : Move t (finishing h) finishes.0
    unfolding after_finishing
    move_finishing = record {
      left = λ w. finishes.1.left w + w.writes;
      less = λ w. omega (arith, finishes.1.less w);
      whole = after_finishing (applied g f finishes.0) finishes.1.left finishes.1.whole;
      keeps = λ q. q;
      broken = λ f' c. reach_more t (λ w. omega arith)
          (after_finishing f' (λ w. renew_cost w g Boot testing (trailer_of g f Boot)) (finishes.1.broken f' c));
    }

  abbrev spending : Step
  spending = Byte (state_at g Update) spent

  -- 30 over 70 is 30, so UPDATE is no longer staged
  is-spent : (u : List ℕ) → 5 ≤ length u → sound_with u updating ≡ true → sound_with (write u (length u - 5) (spent ∷ [])) updating ≡ false
  unfolding sound_with
  is-spent u l e =
      let k : ℕ = length u - 5 in
      let was : state u ≡ updating = eqb-true (state u) updating (and_right (sound u) (eqb (state u) updating) e) in
      let one : write u k (spent ∷ []) ≡ set u k (bit_and (get_or u k 0) spent) = write-one u k spent (omega arith) in
      let now : state (set u k (bit_and (get_or u k 0) spent)) ≡ bit_and updating spent =
      rw (length-set u k (bit_and (get_or u k 0) spent)) (get_or-set_same u k (bit_and (get_or u k 0) spent) 0 (omega arith) ∙ rw was refl) in
      rw (one, now) (and_false (sound (set u k (bit_and (get_or u k 0) spent))))
    where
      and_false : (x : Bool) → (x && false) ≡ false
      and_false true = refl
      and_false false = refl

  pub over : on_trial g f ≡ true → Over t (applied g f spending)
  unfolding state_at
  over e = record {
    base = changed h.base change;
    idle = rw change.holds gone;
    trial = rw (change.others (Sector Boot g.count) (omega arith) (λ q. never_same (cc))) e;
    held = t.ends Update f (applied g f spending) spent_trailer (base_valid h.base).shape.count_min change h.held;
  }
    where
      size : length (trailer_of g f Update) ≡ g.size
      size = sector-size h.base (Sector Update g.count) (omega arith)

      spent_trailer : List ℕ
      spent_trailer = write (trailer_of g f Update) (g.size - 5) (spent ∷ [])

      change : Change g f (applied g f spending) (Sector Update g.count) spent_trailer
      change = stepped h.base (Sector Update g.count) (omega arith) spending (state-accepted g f (base_valid h.base) Update spent)
          (omega arith, omega (arith, (base_valid h.base).shape.size-min)) spent_trailer
          ((on h.base (Sector Update g.count) (omega arith)).one_byte (g.size - 5) spent (omega (arith, (base_valid h.base).shape.size-min)))

      gone : sound_with spent_trailer updating ≡ false
      gone = rw size at (is-spent (trailer_of g f Update) (omega (arith, size, (base_valid h.base).shape.size-min)) h.is-staged)

  -- a Byte that a cut leaves not done is not begun
  undone : (f' : List ℕ) → Cut g f spending f' → same f' (applied g f spending) ≡ false → f' ≡ f
  undone f' (inl e) n = e
  undone f' (inr e) n = never (sym (same_self (applied g f spending)) ∙ rw e at n)

  pub arrival : on_trial g f ≡ true → Arrival t (finishing h) spending
  arrival e = record {
    less = λ w. omega arith;
    whole = over e;
    broken = λ f' c n. rw (undone f' c n) (record { late = true; phase = finishing h; fits = λ w. omega arith });
  }

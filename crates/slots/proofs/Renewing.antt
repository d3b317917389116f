-- One step of a renewal, on the bytes of the trailer: from any trailer over all FF and all FF but the state to the
-- renewed one. Assumes nothing.
use Prim.Native.Nat.{ℕ, ◌+◌, ◌-◌, ◌/◌, ◌%◌, ◌≤◌, ◌<◌}
use mathlib.Core.Bool.{Bool, true, false, cond, not, ◌&&◌}
use mathlib.Core.List.{List, [], ◌∷◌}
use mathlib.Core.Logic.{◌≢◌}
use mathlib.Core.Path.{◌≡◌, refl, sym, ap, ◌∙◌}
use native.Mathlib.Decide.{dec_lt, ℕ_discrete}
use native.Mathlib.Nat.{add-zero, mod-eq_of_lt}
use native.Mathlib.Omega.{arith}
use borrow.Author.Tests.{eqb-true, eq-eqb}
use lib.Bits.{bit_and, and_comm, and_mask}
use lib.Dec.{eqb}
use lib.ListN.{length, take, drop, get_or, set, replicate, length-drop, length-set, get_or-replicate}
use lib.Seq.{length-take-le, get_or-take, get_or-drop, get_or-set_same, get_or-set_other, ext_get_or}
use Rattle.compare.specs.Compare.{same, all}
use Rattle.compare.proofs.Sameness.{same_equal, same_self}
use Rattle.compare.proofs.Tests.{never, and_left, and_right, and_both}
use Rattle.compare.proofs.Values.{all-only, all_at, all_of}
use Rattle.flash.specs.Bytes.{blank, ands, write}
use Rattle.flash.specs.Cuts.{sound}
use Rattle.flash.specs.Steps.{closing}
use Rattle.flash.proofs.Closing.{closing-is, length-closing, sound-is}
use Rattle.flash.proofs.Writes.{length-blank, length-write, drop-write, write-before, write-one}
use Rattle.slots.specs.Flags.{new, half, flag_at, flag, flags}
use Rattle.slots.specs.Renewed.{steps_left}
use Rattle.slots.specs.Trailers.{state, sound_with, renewed_to, all_but_state}
use Rattle.slots.proofs.Reading.{length-flags, get_or-flags}

-- FF takes whatever byte is written to it
and-new : (x : ℕ) → x < 256 → bit_and 255 x ≡ x
and-new x h = and_comm 255 x ∙ and_mask x 8 ∙ mod-eq_of_lt h

false_of : (b : Bool) → (b ≡ true → ⊥) → b ≡ false
false_of true h = absurd (h refl)
false_of false h = refl

-- a trailer with FF for its first closing byte is not sound
pub unsound : (t : List ℕ) → get_or t (length t - 4) 0 ≡ 255 → sound t ≡ false
unsound t e = rw sound-is (false_of (same (drop (length t - 4) t) closing) (λ q.
    let d : drop (length t - 4) t ≡ 0x42 ∷ 0x4F ∷ 0x4F ∷ 0x54 ∷ [] = same_equal _ _ q ∙ closing-is in
    let p : get_or (drop (length t - 4) t) 0 0 ≡ 0x42 = rw d in
    omega (arith, get_or-drop (length t - 4) t 0 0, rw (← add-zero (length t - 4)) at e)))

pub unsound_with : (t : List ℕ) (v : ℕ) → sound t ≡ false → sound_with t v ≡ false
unfolding sound_with
unsound_with t v e = rw e

-- ---- the trailer all FF, with its state, and closed

module _ (z : ℕ) (hz : 256 ≤ z) where
  blank_at : (i : ℕ) → i < z → get_or (blank z) i 0 ≡ 255
  unfolding blank
  blank_at i h = get_or-replicate z i 255 0 h

  blank-all : all 0xFF (blank z) ≡ true
  blank-all = all_of 0xFF (blank z) (λ i h. blank_at i (omega (arith, length-blank z)))

  pub blank_unsound : sound (blank z) ≡ false
  blank_unsound = unsound (blank z) (rw (length-blank z) (blank_at (z - 4) (omega arith)))

  module _ (v : ℕ) (hv : v < 255) where
    abbrev stamped : List ℕ
    stamped = set (blank z) (z - 5) v

    length_stamped : length stamped ≡ z
    length_stamped = length-set (blank z) (z - 5) v ∙ length-blank z

    stamped_state : get_or stamped (z - 5) 0 ≡ v
    stamped_state = get_or-set_same (blank z) (z - 5) v 0 (omega (arith, length-blank z))

    stamped_at : (i : ℕ) → i < z → i ≢ z - 5 → get_or stamped i 0 ≡ 255
    stamped_at i h n = get_or-set_other (blank z) (z - 5) i v 0 n ∙ blank_at i h

    pub stamped_unsound : sound stamped ≡ false
    stamped_unsound = unsound stamped (rw length_stamped (stamped_at (z - 4) (omega arith) (omega arith)))

    stamped_not-blank : all 0xFF stamped ≡ false
    stamped_not-blank = false_of (all 0xFF stamped) (λ e.
        omega (arith, stamped_state, all_at 0xFF stamped e (z - 5) (omega (arith, length_stamped))))

    -- the four closing bytes still FF
    stamped_end : drop (z - 4) stamped ≡ 255 ∷ 255 ∷ 255 ∷ 255 ∷ []
    stamped_end =
        let l : length (drop (z - 4) stamped) ≡ 4 = simp length-drop (omega (arith, length_stamped)) in
        all-only 255 (drop (z - 4) stamped) (all_of 255 (drop (z - 4) stamped)
        (λ i h. get_or-drop (z - 4) stamped i 0 ∙ stamped_at (z - 4 + i) (omega (arith, l)) (omega arith)))
        ∙ ap (λ (k : ℕ). replicate k 255) l

    stamped_but_state : all_but_state stamped v ≡ true
    unfolding all_but_state all
    stamped_but_state = rw length_stamped
        (and_both (all 0xFF (take (z - 5) stamped) && eqb (get_or stamped (z - 5) 0) v) (all 0xFF (drop (z - 4) stamped))
        (and_both (all 0xFF (take (z - 5) stamped)) (eqb (get_or stamped (z - 5) 0) v) low (eq-eqb (get_or stamped (z - 5) 0) v stamped_state))
        (rw stamped_end refl))
      where
        low : all 0xFF (take (z - 5) stamped) ≡ true
        low = all_of 0xFF (take (z - 5) stamped) (λ i h.
            let k : i < z - 5 = omega (arith, length-take-le (z - 5) stamped (omega (arith, length_stamped))) in
            get_or-take (z - 5) stamped i 0 k ∙ stamped_at i (omega arith) (omega arith))

    -- with FF for all flags, closed
    abbrev closed : List ℕ
    closed = write stamped (z - 4) closing

    length_closed : length closed ≡ z
    length_closed = length-write stamped (z - 4) closing ∙ length_stamped

    closed_at : (i : ℕ) → i < z - 4 → get_or closed i 0 ≡ get_or stamped i 0
    closed_at i h = write-before stamped (z - 4) closing (omega (arith, length_stamped, length-closing)) i h

    closed_sound : sound closed ≡ true
    unfolding ands
    closed_sound =
        let e : drop (z - 4) closed ≡ ands (drop (z - 4) stamped) closing = drop-write stamped (z - 4) (omega (arith, length_stamped)) closing in
        rw (sound-is, length_closed, e, stamped_end, closing-is) (same_self (0x42 ∷ 0x4F ∷ 0x4F ∷ 0x54 ∷ []))

    pub closed_with : sound_with closed v ≡ true
    unfolding sound_with
    closed_with = and_both (sound closed) (eqb (state closed) v) closed_sound
        (rw length_closed (eq-eqb (get_or closed (z - 5) 0) v (closed_at (z - 5) (omega arith) ∙ stamped_state)))

    pub closed_flags : (n : ℕ) → n ≤ 64 → all new (flags n closed) ≡ true
    unfolding flag flag_at half
    closed_flags n h = all_of new (flags n closed) (λ i k.
        let l : i < n = omega (arith, length-flags n closed) in get_or-flags n closed i l ∙ one i (omega arith))
      where
        ff : (b : Bool) → cond b (255 % 16) (255 / 16) ≡ 15
        ff true = refl
        ff false = refl

        one : (i : ℕ) → i < 64 → flag closed i ≡ new
        one i k =
            let e : get_or closed (z - 6 - i / 2) 0 ≡ 255 = closed_at (z - 6 - i / 2) (omega arith) ∙ stamped_at (z - 6 - i / 2) (omega arith) (omega arith) in
            rw (length_closed, e) (ff (eqb (i % 2) 0))

    -- ---- the steps left

    module _ (n : ℕ) (hn : n ≤ 64) where
      pub left-blank : steps_left (blank z) n v ≡ 2
      unfolding steps_left renewed_to
      left-blank = rw (unsound_with (blank z) v blank_unsound, blank-all)

      pub left_stamped : steps_left stamped n v ≡ 1
      unfolding steps_left renewed_to
      left_stamped = rw (unsound_with stamped v stamped_unsound, stamped_not-blank, stamped_but_state)

      pub left_closed : steps_left closed n v ≡ 0
      unfolding steps_left renewed_to
      left_closed = rw (closed_with, closed_flags n hn)

    -- the Byte and the Mark
    pub stamps : write (blank z) (z - 5) (v ∷ []) ≡ stamped
    stamps = write-one (blank z) (z - 5) v (omega (arith, length-blank z))
        ∙ ap (λ (x : ℕ). set (blank z) (z - 5) x) (rw (blank_at (z - 5) (omega arith)) (and-new v (omega arith)))

-- ---- a trailer by the tests of its renewal

module _ (t : List ℕ) (hz : 256 ≤ length t) where
  pub is-blank : all 0xFF t ≡ true → t ≡ blank (length t)
  unfolding blank
  is-blank e = all-only 0xFF t e

  pub is_stamped : (v : ℕ) → v < 255 → all_but_state t v ≡ true → t ≡ set (blank (length t)) (length t - 5) v
  unfolding all_but_state
  is_stamped v hv e = ext_get_or 0 t (stamped z hz v hv) (sym (length_stamped z hz v hv)) (λ i h. go i h (dec_lt i (z - 5)) (ℕ_discrete i (z - 5)))
    where
      z : ℕ
      z = length t

      two : (all 0xFF (take (z - 5) t) && eqb (state t) v) ≡ true
      two = and_left (all 0xFF (take (z - 5) t) && eqb (state t) v) (all 0xFF (drop (z - 4) t)) e

      low : (i : ℕ) → i < z - 5 → get_or t i 0 ≡ 255
      low i h = sym (get_or-take (z - 5) t i 0 h)
          ∙ all_at 0xFF (take (z - 5) t) (and_left (all 0xFF (take (z - 5) t)) (eqb (state t) v) two) i
          (omega (arith, length-take-le (z - 5) t (omega arith)))

      high : (i : ℕ) → i < z → z - 4 ≤ i → get_or t i 0 ≡ 255
      high i h k =
          let j : z - 4 + (i - (z - 4)) ≡ i = omega arith in
          let l : length (drop (z - 4) t) ≡ 4 = simp length-drop (omega arith) in
          ap (λ (x : ℕ). get_or t x 0) (sym j) ∙ sym (get_or-drop (z - 4) t (i - (z - 4)) 0)
          ∙ all_at 0xFF (drop (z - 4) t) (and_right (all 0xFF (take (z - 5) t) && eqb (state t) v) (all 0xFF (drop (z - 4) t)) e) (i - (z - 4)) (omega arith)

      go : (i : ℕ) → i < z → Dec (i < z - 5) → Dec (i ≡ z - 5) → get_or t i 0 ≡ get_or (stamped z hz v hv) i 0
      go i h (yes k) d = low i k ∙ sym (stamped_at z hz v hv i h (omega arith))
      go i h (no k) (yes d) =
          rw d (eqb-true (state t) v (and_right (all 0xFF (take (z - 5) t)) (eqb (state t) v) two) ∙ sym (stamped_state z hz v hv))
      go i h (no k) (no d) = high i h (omega arith) ∙ sym (stamped_at z hz v hv i h d)

-- ---- what the steps left say

module _ (t : List ℕ) (n v : ℕ) where
  pub left-max : steps_left t n v ≤ 3
  unfolding steps_left
  left-max = go (renewed_to t n v) (all 0xFF t) (all_but_state t v)
    where
      go : (r a b : Bool) → cond r 0 (cond a 2 (cond b 1 3)) ≤ 3
      go true a b = omega arith
      go false true b = omega arith
      go false false true = omega arith
      go false false false = omega arith

  -- a trailer that a renewal has begun to write is not sound before all flags are new
  pub left_idle : 256 ≤ length t → v < 255 → steps_left t n v < 3 → (sound_with t v && not (all new (flags n t))) ≡ false
  unfolding steps_left renewed_to
  left_idle hz hv = go (sound_with t v) refl (all new (flags n t)) (all 0xFF t) refl (all_but_state t v) refl
    where
      first : get_or t (length t - 4) 0 ≡ 255 → sound_with t v ≡ false
      first e = unsound_with t v (unsound t e)

      clash : sound_with t v ≡ true → sound_with t v ≡ false → ⊥
      clash p q = never (sym p ∙ q)

      go : (x : Bool) → sound_with t v ≡ x → (y a : Bool) → all 0xFF t ≡ a → (b : Bool) → all_but_state t v ≡ b
          → cond (x && y) 0 (cond a 2 (cond b 1 3)) < 3 → (x && not y) ≡ false
      go false ex y a ea b eb h = refl
      go true ex true a ea b eb h = refl
      go true ex false true ea b eb h = absurd (clash ex (first (all_at 0xFF t ea (length t - 4) (omega arith))))
      go true ex false false ea true eb h =
          absurd (clash ex (first (ap (λ (l : List ℕ). get_or l (length t - 4) 0) (is_stamped t hz v hv eb)
          ∙ stamped_at (length t) hz v hv (length t - 4) (omega arith) (omega arith))))
      go true ex false false ea false eb h = absurd (omega arith)

-- The ring of sixteen words holds what the schedule's next word is made of, and a turn of the code is a round of FIPS.
-- Assumes nothing.
use Rattle.std.proofs.Common.{◌≡◌, ℕ, zero, suc, ◌+◌, ◌-◌, ◌%◌, ◌<◌, ◌≤◌, max, List, length, get_or, set, sym, refl, ◌∙◌, mod-eq_of_lt, arith, length-set, get_or-set_other, get_or-set_same, le-ltb, lt-ltb}
use native.Mathlib.Decide.{ℕ_discrete, dec_lt}
use Rattle.sha256.specs.Constants.{K}
use Rattle.sha256.specs.Ring.{ring_word, Turned, Holds, Turns, FipsWords, SixteenWords}
use Rattle.sha256.specs.Rounds.{rounds, plus, compress}
use Rattle.sha256.specs.Schedule.{W}
use Rattle.sha256.specs.declared.hash.Hash.{Hash}
use Rattle.sha256.proofs.Recurrence.{recurrence}

ring_start : (m : List ℕ) → Holds m 0 m
ring_start m j h _ = let l : j < 16 = omega arith in rw (mod-eq_of_lt l) (sym (recurrence.first m j l))

module _ (m w : List ℕ) (t : ℕ) (r : Holds m t w) where
  there : (i j : ℕ) → i % 16 ≡ j % 16 → j < max 16 t → t ≤ j + 16 → get_or w (i % 16) 0 ≡ W m j
  there i j e h k = rw e (r j h k)

  ring_word_lem : ring_word w t ≡ W m t
  unfolding ring_word
  ring_word_lem =
      elim (dec_lt t 16) [
        | yes h ↦ rw (lt-ltb t 16 h) (rw (mod-eq_of_lt h) at (r t (omega arith) (omega arith)))
        | no h ↦ let l : 16 ≤ t = omega arith in
            rw (le-ltb t 16 l)
            (cc (recurrence.next m t l, there (t + 14) (t - 2) (omega arith) (omega arith) (omega arith), there (t + 9) (t - 7) (omega arith) (omega arith) (omega arith), there (t + 1) (t - 15) (omega arith) (omega arith) (omega arith), there t (t - 16) (omega arith) (omega arith) (omega arith)))
      ]

  ring_next : (p : ℕ) → p ≡ t % 16 → length w ≡ 16 → Holds m (suc t) (set w p (W m t))
  ring_next p at l j h k =
      elim (ℕ_discrete (j % 16) p) [
        | yes e ↦ let j=t : j ≡ t = omega arith in rw (e, j=t) (get_or-set_same w p (W m t) 0 (omega arith))
        | no n ↦ get_or-set_other w p (j % 16) (W m t) 0 n ∙ r j (omega arith) (omega arith)
      ]

-- t rounds of the block m are done, from the hash value h: the working variables are s and the ring is w
pub record Done (m : List ℕ) (h : Hash) (t : ℕ) (w : List ℕ) (s : Hash) : Type 0 where
  pub sixteen : length w ≡ 16
  pub words : Holds m t w
  pub state : s ≡ rounds m h t

pub none : (m : List ℕ) (h : Hash) → length m ≡ 16 → Done m h 0 m h
unfolding rounds
none m h l = record { sixteen = l; words = ring_start m; state = refl }

module _ {m : List ℕ} {h : Hash} where
  pub one_more : {t k : ℕ} {w w' : List ℕ} {s s' : Hash} (t' : ℕ) → t' ≡ suc t → Done m h t w s → k ≡ K t → Turned k t w s w' s' → Done m h t' w' s'
  unfolding rounds
  one_more {t} {w = w} t' n d k=K e =
      let x : ring_word w t ≡ W m t = ring_word_lem m w t d.words in
      record {
        sixteen = rw e.0 (length-set w _ _ ∙ d.sixteen);
        words = rw (n, e.0, x) (ring_next m w t d.words _ (omega arith) d.sixteen);
        state = rw n (cc d.state);
      }

  pub all : {t : ℕ} {w : List ℕ} {s r : Hash} → t ≡ 64 → Done m h t w s → r ≡ plus s h → r ≡ compress m h
  unfolding compress
  all z d e = cc d.state

module _ (m : List ℕ) (h : Hash) (w : ℕ → List ℕ) (s : ℕ → Hash) (l : length m ≡ 16) (r : Turns m h w s) where
  after : (t : ℕ) → t ≤ 64 → Done m h t (w t) (s t)
  after zero _ = rw (r.first.0, r.first.1) (none m h l)
  after (suc t) b = one_more (suc t) refl (after t (omega arith)) refl (r.next t (omega arith))

  word : (t : ℕ) → t < 64 → ring_word (w t) t ≡ W m t
  word t b = ring_word_lem m (w t) t (after t (omega arith)).words

  fips_words : FipsWords m w s
  fips_words =
      record {
        kept = λ t b. let d = after t b in (d.sixteen, d.words);
        word = word;
        used = λ t b. rw (← word t b) (r.next t b).1;
      }

pub sixteen_words : SixteenWords
sixteen_words = record { always = fips_words }

-- The code's own, in no promise to a caller: the schedule in a ring of sixteen words, in which word j stands at j % 16; and R-3's claim
-- about that ring.
use Rattle.std.specs.Prelude.{◌≡◌, ℕ, suc, ◌+◌, ◌%◌, ◌^◌, ◌<◌, ◌≤◌, max, cond, List, length, nat_lt, slice_index, slice_set}
use Rattle.sha256.specs.Constants.{K}
use Rattle.sha256.specs.Rounds.{round}
use Rattle.sha256.specs.Schedule.{W}
use Rattle.sha256.specs.Words.{σ₀, σ₁}
use Rattle.sha256.specs.declared.hash.Hash.{Hash}

-- word t, from the ring w of the words before it
unfoldable pub ring_word : List ℕ → ℕ → ℕ
ring_word w t =
    cond (nat_lt t 16) (slice_index w t)
    ((σ₁ (slice_index w ((t + 14) % 16)) + slice_index w ((t + 9) % 16) + σ₀ (slice_index w ((t + 1) % 16)) + slice_index w (t % 16)) % 2 ^ 32)

-- round t with the constant k, from the ring w and the working variables s to w' and s': word t is kept in the ring and used
abbrev pub Turned : ℕ → ℕ → List ℕ → Hash → List ℕ → Hash → Type 0
Turned k t w s w' s' = (w' ≡ slice_set w (t % 16) (ring_word w t)) × (s' ≡ round k (ring_word w t) s)

-- w has sixteen words of the block m, each at its place: those before word t, or the first sixteen where t is less than that
abbrev pub Holds : List ℕ → ℕ → List ℕ → Type 0
Holds m t w = (j : ℕ) → j < max 16 t → t ≤ j + 16 → slice_index w (j % 16) ≡ W m j

-- the 64 rounds on the block m from the hash value h: before round t the ring is w t and the working variables are s t
pub record Turns (m : List ℕ) (h : Hash) (w : ℕ → List ℕ) (s : ℕ → Hash) : Type 0 where
  pub first : (w 0 ≡ m) × (s 0 ≡ h)
  pub next : (t : ℕ) → t < 64 → Turned (K t) t (w t) (s t) (w (suc t)) (s (suc t))

-- Document 02, R-3, of such rounds: sixteen words are kept, and round t works out FIPS's word W t from them and uses it
pub record FipsWords (m : List ℕ) (w : ℕ → List ℕ) (s : ℕ → Hash) : Type 0 where
  pub kept : (t : ℕ) → t ≤ 64 → (length (w t) ≡ 16) × Holds m t (w t)
  pub word : (t : ℕ) → t < 64 → ring_word (w t) t ≡ W m t
  pub used : (t : ℕ) → t < 64 → s (suc t) ≡ round (K t) (W m t) (s t)

-- on every block, from every hash value. Proved in proofs/Rounds.antt.
pub record SixteenWords : Type 0 where
  pub always : (m : List ℕ) (h : Hash) (w : ℕ → List ℕ) (s : ℕ → Hash) → length m ≡ 16 → Turns m h w s → FipsWords m w s

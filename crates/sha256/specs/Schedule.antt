-- FIPS 180-4, 6.2.2, step 1: the message schedule of a block m of sixteen words.
use Rattle.std.specs.Prelude.{◌≡◌, ℕ, zero, suc, ◌+◌, ◌-◌, ◌%◌, ◌^◌, ◌<◌, ◌≤◌, cond, List, [], ◌∷◌, nat_lt, slice_index}
use Rattle.sha256.specs.Words.{σ₀, σ₁}

-- word t, from the words before it, the last first
unfoldable pub word_after : List ℕ → ℕ → List ℕ → ℕ
word_after m t p = cond (nat_lt t 16) (slice_index m t) ((σ₁ (slice_index p 1) + slice_index p 6 + σ₀ (slice_index p 14) + slice_index p 15) % 2 ^ 32)

-- the words before t, the last first
unfoldable pub before : List ℕ → ℕ → List ℕ
before m zero = []
before m (suc t) = let p = before m t in word_after m t p ∷ p

-- W_t
unfoldable pub W : List ℕ → ℕ → ℕ
W m t = word_after m t (before m t)

-- FIPS's own two lines for W. Proved in proofs/Recurrence.antt.
pub record Recurrence : Type 0 where
  pub first : (m : List ℕ) (t : ℕ) → t < 16 → W m t ≡ slice_index m t
  pub next : (m : List ℕ) (t : ℕ) → 16 ≤ t → W m t ≡ (σ₁ (W m (t - 2)) + W m (t - 7) + σ₀ (W m (t - 15)) + W m (t - 16)) % 2 ^ 32

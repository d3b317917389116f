-- A message hashed in pieces: the hash value after some whole blocks is all that the rest needs.
-- Assumes nothing.
use Rattle.std.proofs.Common.{◌≡◌, ℕ, zero, suc, ◌+◌, ◌*◌, ◌/◌, ◌≤◌, List, ◌++◌, length, get_or, refl, ap, ◌∙◌, append_assoc, add-zero, add-suc, arith, length-append}
use lib.ListN.{get_or-append}
use Rattle.sha256.specs.Constants.{initial}
use Rattle.sha256.specs.Digest.{hashed, digest, answer, answer_up_to, after_up_to, answer_after, HandedOn}
use Rattle.sha256.specs.Message.{padding, pad_to, pad, N, M}
use Rattle.sha256.specs.declared.hash.Hash.{Hash}
use Rattle.sha256.proofs.Padding.{append_at, block_count}
use Rattle.sha256.proofs.Parsing.{same_block}

module _ (p q : List ℕ) where
  -- block i of p ++ q, where it lies in p and where it lies in q
  block_before : (i : ℕ) → 64 * suc i ≤ length p → M (p ++ q) i ≡ M p i
  block_before i h = same_block (p ++ q) p (64 * i) (64 * i) (λ k l. get_or-append p q 0 (64 * i + k) (omega arith))

  block_after : (k j : ℕ) → length p ≡ 64 * k → M (p ++ q) (k + j) ≡ M q j
  block_after k j e =
      same_block (p ++ q) q (64 * (k + j)) (64 * j)
      (λ c l. append_at p q (64 * (k + j) + c) (omega arith) ∙ ap (λ (i : ℕ). get_or q i 0) (omega arith))

  before : (s : Hash) (i : ℕ) → 64 * i ≤ length p → hashed s (p ++ q) i ≡ hashed s p i
  unfolding hashed
  before s zero h = refl
  before s (suc i) h = cc (block_before i h, before s i (omega arith))

  onward : (s : Hash) (k j : ℕ) → length p ≡ 64 * k → hashed s (p ++ q) (k + j) ≡ hashed (hashed s p k) q j
  unfolding hashed
  onward s k zero e = rw add-zero (before s k (omega arith))
  onward s k (suc j) e = rw add-suc (cc (block_after k j e, onward s k j e))

module _ (p : List ℕ) (k : ℕ) (e : length p ≡ 64 * k) (m : List ℕ) where
  all-bytes : length (p ++ m) ≡ 64 * k + length m
  all-bytes = rw (length-append p m, e)

  padded : pad (p ++ m) ≡ p ++ pad_to (64 * k + length m) m
  unfolding pad_to
  padded = rw (all-bytes, append_assoc p m (padding (64 * k + length m)))

  all_blocks : length (pad (p ++ m)) / 64 ≡ k + N (length m)
  all_blocks = rw (block_count (p ++ m), all-bytes) (omega arith)

  finished : answer_after (hashed initial p k) k m ≡ answer (p ++ m)
  unfolding answer_up_to after_up_to digest
  finished = rw (all_blocks, padded, all-bytes, onward p (pad_to (64 * k + length m) m) initial k (N (length m)) e)

pub handed_on : HandedOn
handed_on = record { onward = λ p k e s q j. onward p q s k j e; finished = finished }

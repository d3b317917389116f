-- Laws of document 01's answer, and what it says of a message that is hashed in pieces.
-- Assumes nothing.
use Rattle.std.proofs.Common.{◌≡◌, ℕ, ◌+◌, ◌*◌, ◌<◌, ◌≤◌, List, ◌++◌, length, Ok, Err, refl, zero-add, length-append, le-leb}
use borrow.Author.Tests.{lt-leb}
use Rattle.sha256.specs.Constants.{initial}
use Rattle.sha256.specs.Digest.{hashed, to_bytes, digest, answer_up_to, after_up_to}
use Rattle.sha256.specs.Message.{pad_to, N}
use Rattle.sha256.specs.declared.hash.Hash.{Hash}
use Rattle.sha256.proofs.Padding.{block_count}

module _ (most : ℕ) (s : Hash) (k : ℕ) (a b : List ℕ) where
  pub accepted : 64 * k + (length a + length b) ≤ most
      → Ok (to_bytes (hashed s (pad_to (64 * k + (length a + length b)) (a ++ b)) (N (length a + length b)))) ≡ after_up_to most s k (a ++ b)
  unfolding after_up_to
  accepted h = rw (length-append a b, le-leb _ _ h)

  pub too_long : most < 64 * k + (length a + length b) → Err 12 ≡ after_up_to most s k (a ++ b)
  unfolding after_up_to
  too_long h = rw (length-append a b, lt-leb _ _ h)

-- with nothing before it, a message's answer
pub from_nothing : (most : ℕ) (m : List ℕ) → after_up_to most initial 0 m ≡ answer_up_to most m
unfolding answer_up_to after_up_to digest
from_nothing most m = rw (zero-add, block_count m)

-- a message that is short enough has its digest, of 32 bytes
pub short_enough : (most : ℕ) (m : List ℕ) → length m ≤ most → answer_up_to most m ≡ Ok (digest m)
unfolding answer_up_to
short_enough most m h = rw (le-leb _ _ h)

pub digest-length : (m : List ℕ) → length (digest m) ≡ 32
unfolding digest
digest-length m = refl

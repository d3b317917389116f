-- FIPS 180-4, 6.2: the digest of a message; and document 01's answer for a lent one.
use Rattle.std.specs.Prelude.{◌≡◌, ℕ, zero, suc, ◌+◌, ◌*◌, ◌/◌, cond, List, ◌++◌, length, nat_le, Result, Ok, Err}
use Rattle.sha256.specs.Constants.{initial}
use Rattle.sha256.specs.Message.{bytes, pad_to, pad, N, M}
use Rattle.sha256.specs.Rounds.{compress}
use Rattle.sha256.specs.declared.hash.Hash.{Hash}

-- 6.2.2: the hash value after the first i blocks of p, from the hash value s
unfoldable pub hashed : Hash → List ℕ → ℕ → Hash
hashed s p zero = s
hashed s p (suc i) = compress (M p i) (hashed s p i)

-- 6.2.2, after step 4: H₀ ‖ H₁ ‖ .. ‖ H₇
abbrev pub to_bytes : Hash → List ℕ
to_bytes s =
    bytes 4 s.a ++ bytes 4 s.b ++ bytes 4 s.c ++ bytes 4 s.d ++ bytes 4 s.e ++ bytes 4 s.f ++ bytes 4 s.g ++ bytes 4 s.h

unfoldable pub digest : List ℕ → List ℕ
digest m = to_bytes (hashed initial (pad m) (length (pad m) / 64))

-- Document 01, number 12: a lent slice has at most 4,294,967,295 bytes.
abbrev pub longest : ℕ
longest = 4294967295

-- 1: a message has fewer than 2^64 bits.
abbrev pub longest_of_all : ℕ
longest_of_all = 2305843009213693951

-- what a digest of the message m answers, where the message may have `most` bytes: the digest, or a refusal's number
unfoldable pub answer_up_to : ℕ → List ℕ → Result (List ℕ) ℕ
answer_up_to most m = cond (nat_le (length m) most) (Ok (digest m)) (Err 12)

abbrev pub answer : List ℕ → Result (List ℕ) ℕ
answer m = answer_up_to longest m

-- the same where k blocks before m have already led to the hash value s
unfoldable pub after_up_to : ℕ → Hash → ℕ → List ℕ → Result (List ℕ) ℕ
after_up_to most s k m =
    cond (nat_le (64 * k + length m) most) (Ok (to_bytes (hashed s (pad_to (64 * k + length m) m) (N (length m))))) (Err 12)

abbrev pub answer_after : Hash → ℕ → List ℕ → Result (List ℕ) ℕ
answer_after s k m = after_up_to longest s k m

-- The hash value after the k whole blocks p is all that the rest of a message needs of them. Proved in proofs/Pieces.antt.
pub record HandedOn : Type 0 where
  pub onward :
      (p : List ℕ) (k : ℕ) → length p ≡ 64 * k → (s : Hash) (q : List ℕ) (j : ℕ) → hashed s (p ++ q) (k + j) ≡ hashed (hashed s p k) q j
  pub finished : (p : List ℕ) (k : ℕ) → length p ≡ 64 * k → (m : List ℕ) → answer_after (hashed initial p k) k m ≡ answer (p ++ m)

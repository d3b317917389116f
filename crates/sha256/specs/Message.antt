-- FIPS 180-4, 5.1.1 and 5.2.1: a message of bytes, padded and parsed into blocks of sixteen words.
use Rattle.std.specs.Prelude.{◌≡◌, ℕ, zero, suc, ◌+◌, ◌-◌, ◌*◌, ◌/◌, ◌%◌, ◌^◌, ◌≤◌, List, [], ◌∷◌, ◌++◌, length, replicate, slice_index}

-- the k low bytes of x, the highest first
abbrev pub bytes : ℕ → ℕ → List ℕ
bytes zero x = []
bytes (suc k) x = x / 2 ^ (8 * k) % 256 ∷ bytes k x

-- 5.1.1: how many zero bytes follow the byte 80 (PaddingRule, below, has FIPS's own words)
abbrev pub zeros : ℕ → ℕ
zeros n = (119 - n % 64) % 64

-- 5.1.1: what is appended to a message of n bytes: the bit 1, zeros, and the message's length in bits as 64 bits
unfoldable pub padding : ℕ → List ℕ
padding n = 0x80 ∷ (replicate (zeros n) 0 ++ bytes 8 (8 * n))

-- m with the padding of a message of n bytes, of which m is the end
unfoldable pub pad_to : ℕ → List ℕ → List ℕ
pad_to n m = m ++ padding n

abbrev pub pad : List ℕ → List ℕ
pad m = pad_to (length m) m

-- the number N of blocks of a padded message of n bytes
abbrev pub N : ℕ → ℕ
N n = (n + 8) / 64 + 1

-- 5.1.1: the zero bytes are the least z for which n + 1 + z is 56 modulo 64 (in FIPS's bits, l + 1 + k ≡ 448 mod 512), and a padded
-- message is N whole blocks. Proved in proofs/Padding.antt.
pub record PaddingRule : Type 0 where
  pub solves : (n : ℕ) → (n + 1 + zeros n) % 64 ≡ 56
  pub least : (n z : ℕ) → (n + 1 + z) % 64 ≡ 56 → zeros n ≤ z
  pub blocks : (m : List ℕ) → length (pad m) ≡ 64 * N (length m)

-- 3.1, 3 and 5.2.1: the word that starts at byte i of p, and the n words from there on
abbrev pub word_at : List ℕ → ℕ → ℕ
word_at p i = slice_index p i * 2 ^ 24 + slice_index p (i + 1) * 2 ^ 16 + slice_index p (i + 2) * 2 ^ 8 + slice_index p (i + 3)

unfoldable pub words_at : List ℕ → ℕ → ℕ → List ℕ
words_at p i zero = []
words_at p i (suc n) = words_at p i n ++ (word_at p (i + 4 * n) ∷ [])

-- 5.2.1: M⁽ⁱ⁾, block i of p, counted from 0 here: its words M₀ to M₁₅
abbrev pub M : List ℕ → ℕ → List ℕ
M p i = words_at p (64 * i) 16

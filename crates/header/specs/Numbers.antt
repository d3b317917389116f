-- Document 01, "Header": all numbers are little-endian.
use Rattle.std.specs.Prelude.{ℕ, zero, suc, ◌+◌, ◌*◌, List, get_or}

-- the byte at place p; past the end it reads as 0
abbrev pub byte_at : List ℕ → ℕ → ℕ
byte_at s p = get_or s p 0

-- the number of the n bytes at place p
unfoldable pub number_at : ℕ → List ℕ → ℕ → ℕ
number_at zero s p = 0
number_at (suc n) s p = byte_at s p + 256 * number_at n s (p + 1)

-- Sums modulo 2 ^ 32 of sums modulo 2 ^ 32.
-- Assumes nothing.
use Rattle.std.proofs.Common.{◌≡◌, ℕ, ◌+◌, ◌%◌, ◌^◌, arith}

module _ (a b c d : ℕ) where
  pub sum4 : (((a + b) % 2 ^ 32 + c) % 2 ^ 32 + d) % 2 ^ 32 ≡ (a + b + c + d) % 2 ^ 32
  sum4 = omega arith

  pub sum5 : (e : ℕ) → ((((a + b) % 2 ^ 32 + c) % 2 ^ 32 + d) % 2 ^ 32 + e) % 2 ^ 32 ≡ (a + b + c + d + e) % 2 ^ 32
  sum5 e = omega arith

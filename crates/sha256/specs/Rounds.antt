-- FIPS 180-4, 6.2.2, steps 2 to 4: the 64 rounds, and what a block does to the hash value.
-- A `Hash` is eight words: the hash value H₀ to H₇ and, between steps 2 and 4, the working variables a to h.
use Rattle.std.specs.Prelude.{ℕ, zero, suc, ◌+◌, ◌%◌, ◌^◌, List}
use Rattle.sha256.specs.Constants.{K}
use Rattle.sha256.specs.Schedule.{W}
use Rattle.sha256.specs.Words.{Ch, Maj, Σ₀, Σ₁}
use Rattle.sha256.specs.declared.hash.Hash.{Hash}

-- step 3, in a round whose constant is k and whose schedule word is w
unfoldable pub T₁ : ℕ → ℕ → Hash → ℕ
T₁ k w s = (s.h + Σ₁ s.e + Ch s.e s.f s.g + k + w) % 2 ^ 32

unfoldable pub T₂ : Hash → ℕ
T₂ s = (Σ₀ s.a + Maj s.a s.b s.c) % 2 ^ 32

unfoldable pub round : ℕ → ℕ → Hash → Hash
round k w s =
    record { a = (T₁ k w s + T₂ s) % 2 ^ 32; b = s.a; c = s.b; d = s.c; e = (s.d + T₁ k w s) % 2 ^ 32; f = s.e; g = s.f; h = s.g }

-- steps 2 and 3: the first t rounds on the block m, from the hash value s
unfoldable pub rounds : List ℕ → Hash → ℕ → Hash
rounds m s zero = s
rounds m s (suc t) = round (K t) (W m t) (rounds m s t)

-- step 4: word by word, modulo 2 ^ 32
unfoldable pub plus : Hash → Hash → Hash
plus x y =
    record { a = (x.a + y.a) % 2 ^ 32; b = (x.b + y.b) % 2 ^ 32; c = (x.c + y.c) % 2 ^ 32; d = (x.d + y.d) % 2 ^ 32; e = (x.e + y.e) % 2 ^ 32; f = (x.f + y.f) % 2 ^ 32; g = (x.g + y.g) % 2 ^ 32; h = (x.h + y.h) % 2 ^ 32 }

-- the hash value after the block m, from the hash value s before it
unfoldable pub compress : List ℕ → Hash → Hash
compress m s = plus (rounds m s 64) s

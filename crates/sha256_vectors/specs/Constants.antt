-- FIPS 180-4, 4.2.2 and 5.3.3: the constants are the first 32 bits of the fractional parts of the cube roots of the first 64 primes,
-- and the initial hash value those of the square roots of the first 8.
use Rattle.std.specs.Prelude.{ℕ, zero, suc, ◌+◌, ◌*◌, ◌%◌, ◌^◌, Bool, true, false, cond, List, [], ◌∷◌, reverse, ◌≡◌, refl, ltb, leb, eqb}
use Rattle.sha256.specs.Constants.{constants, initial}
use Rattle.sha256.specs.declared.hash.Hash.{Hash}

-- whether one of the d numbers from 2 on divides n
divided : ℕ → ℕ → Bool
divided n zero = false
divided n (suc d) = cond (eqb (n % (d + 2)) 0) true (divided n d)

-- the primes among 2 to n + 1, the greatest first
primes : ℕ → List ℕ
primes zero = []
primes (suc n) = let rest = primes n in cond (divided (n + 2) n) rest ((n + 2) ∷ rest)

-- how many of the numbers 1 to q have a power e that is at most p: the whole part of p's root, where q is above it
whole : ℕ → ℕ → ℕ → ℕ
whole e p zero = 0
whole e p (suc q) = cond (leb (suc q ^ e) p) 1 0 + whole e p q

-- x / 2 ^ 32 is p's root e, cut off after 32 bits
cut_root : ℕ → ℕ → ℕ → Bool
cut_root e p x = cond (leb (x ^ e) (p * 2 ^ (32 * e))) (ltb (p * 2 ^ (32 * e)) ((x + 1) ^ e)) false

-- each of the second list is the first 32 bits of the fractional part of the root e of its fellow in the first
fractions : ℕ → List ℕ → List ℕ → Bool
fractions e [] [] = true
fractions e (p ∷ ps) (k ∷ ks) = cond (cut_root e p (whole e p 20 * 2 ^ 32 + k)) (cond (ltb k (2 ^ 32)) (fractions e ps ks) false) false
fractions e [] (k ∷ ks) = false
fractions e (p ∷ ps) [] = false

words : Hash → List ℕ
words s = s.a ∷ s.b ∷ s.c ∷ s.d ∷ s.e ∷ s.f ∷ s.g ∷ s.h ∷ []

cube_roots : fractions 3 (reverse (primes 310)) constants ≡ true
unfolding constants divided primes whole cut_root fractions
cube_roots = refl

square_roots : fractions 2 (reverse (primes 18)) (words initial) ≡ true
unfolding divided primes whole cut_root fractions words
square_roots = refl

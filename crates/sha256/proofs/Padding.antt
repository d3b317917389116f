-- What stands at each byte of a padded message, and how many blocks it has.
-- Assumes nothing.
use Rattle.std.proofs.Common.{◌≡◌, ℕ, ◌+◌, ◌-◌, ◌*◌, ◌/◌, ◌<◌, ◌≤◌, List, [], ◌∷◌, ◌++◌, length, get_or, replicate, sym, ap, ◌∙◌, arith, length-append, get_or-append-add}
use lib.ListN.{length-replicate, get_or-replicate, get_or-append}
use Rattle.std.proofs.Math.Nat.{div-one}
use Rattle.std.specs.Int.{to_be_bytes, w64}
use Rattle.sha256.specs.Message.{bytes, zeros, padding, pad_to, pad, N, PaddingRule}

pub append_at : (xs ys : List ℕ) (i : ℕ) → length xs ≤ i → get_or (xs ++ ys) i 0 ≡ get_or ys (i - length xs) 0
append_at xs ys i h = ap (λ (k : ℕ). get_or (xs ++ ys) k 0) (omega arith) ∙ get_or-append-add xs ys (i - length xs) 0

-- the library's bytes of a number are those of FIPS
big_endian : (x : ℕ) → bytes 8 x ≡ to_be_bytes w64 x
big_endian x = rw (div-one x)

length-padding : (n : ℕ) → length (padding n) ≡ zeros n + 9
unfolding padding
length-padding n = simp (length-append, length-replicate) (omega arith)

length-pad : (m : List ℕ) → length (pad m) ≡ 64 * N (length m)
unfolding pad_to
length-pad m = simp (length-append, length-padding) (omega arith)

pub padding_rule : PaddingRule
padding_rule = record { solves = λ n. omega arith; least = λ n z e. omega arith; blocks = length-pad }

pub block_count : (m : List ℕ) → length (pad m) / 64 ≡ N (length m)
block_count m = omega (arith, length-pad m)

-- byte k of the padding of a message of n bytes: the mark, the gap of zeros, the count of bits
module _ (n k : ℕ) where
  pub mark : k ≡ 0 → 0x80 ≡ get_or (padding n) k 0
  unfolding padding
  mark e = rw e

  behind : (k ≡ 0 → ⊥) → get_or (padding n) k 0 ≡ get_or (replicate (zeros n) 0 ++ bytes 8 (8 * n)) (k - 1) 0
  unfolding padding
  behind h = append_at (0x80 ∷ []) (replicate (zeros n) 0 ++ bytes 8 (8 * n)) k (omega arith)

  pub gap : (k ≡ 0 → ⊥) → k ≤ zeros n → 0 ≡ get_or (padding n) k 0
  gap h l =
      sym (behind h ∙ get_or-append (replicate (zeros n) 0) (bytes 8 (8 * n)) 0 (k - 1) (rw length-replicate (omega arith)) ∙ get_or-replicate (zeros n) (k - 1) 0 0 (omega arith))

  pub count : zeros n < k → get_or (to_be_bytes w64 (8 * n)) (k - zeros n - 1) 0 ≡ get_or (padding n) k 0
  count h =
      let z : List ℕ = replicate (zeros n) 0 in
      let at : get_or (z ++ bytes 8 (8 * n)) (k - 1) 0 ≡ get_or (bytes 8 (8 * n)) (k - zeros n - 1) 0 =
      rw length-replicate at (append_at z (bytes 8 (8 * n)) (k - 1) (rw length-replicate (omega arith))) ∙ ap (λ (j : ℕ). get_or (bytes 8 (8 * n)) j 0) (omega arith) in
      sym (behind (omega arith) ∙ at ∙ ap (λ (b : List ℕ). get_or b (k - zeros n - 1) 0) (big_endian (8 * n)))

-- byte i of two pieces and a padding
module _ (a b : List ℕ) (n i : ℕ) where
  pub in_first : i < length a → get_or a i 0 ≡ get_or (pad_to n (a ++ b)) i 0
  unfolding pad_to
  in_first h = sym (get_or-append (a ++ b) (padding n) 0 i (rw length-append (omega arith)) ∙ get_or-append a b 0 i h)

  pub in_second : length a ≤ i → i < length a + length b → get_or b (i - length a) 0 ≡ get_or (pad_to n (a ++ b)) i 0
  unfolding pad_to
  in_second h l = sym (get_or-append (a ++ b) (padding n) 0 i (rw length-append l) ∙ append_at a b i h)

  pub in_padding : length a + length b ≤ i → get_or (padding n) (i - (length a + length b)) 0 ≡ get_or (pad_to n (a ++ b)) i 0
  unfolding pad_to
  in_padding h = rw (← length-append a b) (sym (append_at (a ++ b) (padding n) i (rw length-append h)))

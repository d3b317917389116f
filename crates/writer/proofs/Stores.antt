-- Pieces stored one after the other.
-- Assumes nothing.
use Rattle.std.proofs.Common.{◌≡◌, ℕ, zero, suc, ◌+◌, ◌/◌, List, ◌++◌, length, refl, ap, ◌∙◌, append_assoc, arith, length-append}
use Rattle.std.proofs.Math.Nat.{div-div-eq-div-mul}
use Rattle.std.specs.Int.{to_le_bytes, w16, w32, w64}
use Rattle.writer.specs.Layout.{le_bytes, tag_bytes}
use Rattle.writer.specs.Stored.{Stored}

-- a piece behind a piece
pub then_stored :
    {b b' b'' p q : List ℕ} {at at' at'' : ℕ} →
    Stored at b p at' b' →
    Stored at' b' q at'' b'' →
    Stored at b (p ++ q) at'' b''
then_stored x y =
    record { long = y.long ∙ x.long; next = simp length-append (omega (arith, x.next, y.next)); start = y.start ∙ rw (x.start, append_assoc) }

-- the bytes of a number
pub length-le : (n x : ℕ) → length (le_bytes n x) ≡ n
unfolding le_bytes
length-le zero x = refl
length-le (suc n) x = ap suc (length-le n (x / 256))

pub tag_length : (k : ℕ) (c : List ℕ) → length (tag_bytes k c) ≡ 4 + length c
unfolding tag_bytes
tag_length k c = simp (length-append, length-le) (omega arith)

-- the library's bytes of a number are the layout's
pub two_bytes : (x : ℕ) → to_le_bytes w16 x ≡ le_bytes 2 x
unfolding le_bytes
two_bytes x = refl

pub four_bytes : (x : ℕ) → to_le_bytes w32 x ≡ le_bytes 4 x
unfolding le_bytes
four_bytes x = simp div-div-eq-div-mul

pub eight_bytes : (x : ℕ) → to_le_bytes w64 x ≡ le_bytes 8 x
unfolding le_bytes
eight_bytes x = simp div-div-eq-div-mul

-- Laws of little-endian numbers.
-- Assumes nothing.
use Prim.Native.Nat.{ℕ, zero, suc, ◌+◌, ◌-◌, ◌*◌, ◌%◌, ◌^◌, ◌<◌, ◌≤◌}
use mathlib.Core.Bool.{true, false}
use mathlib.Core.List.{List}
use mathlib.Core.Path.{◌≡◌, refl}
use native.Mathlib.Nat.{zero-add, suc-add, add-zero, mul_assoc, pow-succ'}
use native.Mathlib.Omega.{arith}
use lib.Dec.{ltb}
use lib.ListN.{length, get_or-eq_default}
use borrow.Author.Tests.{lt-ltb, le-ltb}
use Rattle.header.specs.Numbers.{byte_at, number_at}

-- a number past the end is 0
pub past : (n : ℕ) (s : List ℕ) (p : ℕ) → length s ≤ p → number_at n s p ≡ 0
unfolding number_at
past zero s p h = refl
past (suc n) s p h = omega (arith, get_or-eq_default s 0 h, past n s (p + 1) (omega arith))

-- the number of m + n bytes is made of the first m and the n behind them
pub two_parts : (m n : ℕ) (s : List ℕ) (p : ℕ) → number_at (m + n) s p ≡ number_at m s p + 256 ^ m * number_at n s (p + m)
unfolding number_at
two_parts zero n s p = rw (zero-add n, add-zero p) (omega arith)
two_parts (suc m) n s p =
    let e : p + 1 + m ≡ p + suc m = omega arith in
    rw (suc-add, pow-succ', mul_assoc) (omega (arith, rw e at (two_parts m n s (p + 1))))

pub low_byte : (s : List ℕ) (p : ℕ) → byte_at s p < 256 → number_at 2 s p % 256 ≡ byte_at s p
unfolding number_at
low_byte s p l = omega arith

-- room for n bytes from place p up to place e, as the code measures it
pub too_narrow : (e p n : ℕ) → p ≤ e → e - p < n → ltb e (p + n) ≡ true
too_narrow e p n h l = lt-ltb e (p + n) (omega arith)

pub wide_enough : (e p n : ℕ) → p ≤ e → n ≤ e - p → ltb e (p + n) ≡ false
wide_enough e p n h l = le-ltb e (p + n) (omega arith)

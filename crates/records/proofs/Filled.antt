-- The first bytes of a list are those that it has, and zeros behind it.
use Rattle.std.proofs.Common.{◌≡◌, ℕ, zero, suc, ◌+◌, ◌≤◌, min, inl, inr, List, ◌++◌, length, take, replicate, refl, add-one, add-suc, add-zero, append_assoc, arith}
use Rattle.std.proofs.Math.Seq.{take-suc}
use Rattle.std.proofs.lemmas.Bool.{cases_lt}
use Rattle.std.proofs.lemmas.List.{append-nil, replicate_more, get_or_past, take_all}
use Rattle.records.specs.Records.{first_bytes}

fitting : (s : List ℕ) (k : ℕ) → k ≤ length s → take k s ≡ first_bytes k s
unfolding first_bytes
fitting s zero h = refl
fitting s (suc k) h = rw (take-suc s k 0 (omega arith), fitting s k (omega arith))

past : (s : List ℕ) (m : ℕ) → s ++ replicate m 0 ≡ first_bytes (length s + m) s
unfolding first_bytes
past s zero = rw (append-nil, add-zero, ← fitting s (length s) (omega arith), take_all (length s) s (omega arith))
past s (suc m) = rw (add-suc, ← past s m, get_or_past s (length s + m) 0 (omega arith), append_assoc, replicate_more, add-one)

-- n bytes, and m zeros up to k
pub filled : (s : List ℕ) (n m k : ℕ) → n ≡ min (length s) k → m + n ≡ k → take n s ++ replicate m 0 ≡ first_bytes k s
filled s n m k least all =
    elim (cases_lt (length s) k) [
      | inl short ↦ let e : length s + m ≡ k = omega arith in rw (take_all n s (omega arith)) (rw e at (past s m))
      | inr long ↦ let e : n ≡ k = omega arith in let none : m ≡ 0 = omega arith in rw (e, none, append-nil, fitting s k long)
    ]

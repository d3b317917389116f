-- FIPS 180-4, 6.2.2, step 1: the schedule W satisfies FIPS's own two lines.
-- Assumes nothing.
use Rattle.std.proofs.Common.{◌≡◌, ℕ, zero, suc, ◌+◌, ◌-◌, List, get_or, suc-add, zero-add, arith, le-ltb, lt-ltb}
use Rattle.sha256.specs.Schedule.{W, before, word_after, Recurrence}

-- k places back among the words before word t + k + 1 stands word t
back : (m : List ℕ) (t k : ℕ) → get_or (before m (suc (k + t))) k 0 ≡ W m t
unfolding before W
back m t zero = rw zero-add
back m t (suc k) = rw suc-add (back m t k)

at : (m : List ℕ) (n k t : ℕ) → n ≡ suc (k + t) → get_or (before m n) k 0 ≡ W m t
at m n k t e = rw e (back m t k)

pub recurrence : Recurrence
unfolding W word_after
recurrence =
    record {
      first = λ m t h. rw (lt-ltb t 16 h);
      next = λ m t h. rw (le-ltb t 16 h)
          (cc (at m t 1 (t - 2) (omega arith), at m t 6 (t - 7) (omega arith), at m t 14 (t - 15) (omega arith), at m t 15 (t - 16) (omega arith)));
    }

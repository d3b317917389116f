-- The code's own, in no promise to a caller: how it reads the padded end of a message where it lies.
use Rattle.std.specs.Prelude.{◌≡◌, ℕ, ◌+◌, ◌%◌, ◌^◌, ◌<◌, ◌≤◌, List, slice_index}

-- of a message of n bytes the last r are read; whole blocks came before them
pub record PaddedRest (r n : ℕ) : Type 0 where
  pub within : r ≤ n
  pub short : n < 2 ^ 61
  pub aligned : n % 64 ≡ r % 64

-- 64 bytes of x from i on are those of y from j on
abbrev pub Same64 : List ℕ → ℕ → List ℕ → ℕ → Type 0
Same64 x i y j = (k : ℕ) → k < 64 → slice_index x (i + k) ≡ slice_index y (j + k)

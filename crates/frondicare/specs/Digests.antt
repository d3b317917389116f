-- What a digest's answer leaves in a lent buffer, and its number.
use Rattle.std.specs.Prelude.{ℕ, List, Result, Ok, Err}

-- the number of a refusal, or 0
abbrev pub number_in : Result (List ℕ) ℕ → ℕ
number_in (Ok bytes) = 0
number_in (Err n) = n

-- the answer's bytes, or where it refuses the buffer as it was
abbrev pub filled : Result (List ℕ) ℕ → List ℕ → List ℕ
filled (Ok bytes) old = bytes
filled (Err n) old = old

-- What is read of a record's bytes s. What isn't there reads as zeros, or as the empty part.
use Rattle.std.specs.Prelude.{ℕ, zero, suc, ◌+◌, cond, List, [], ◌∷◌, ◌++◌, leb, length, take, drop}
use Rattle.header.specs.Numbers.{byte_at}

-- n bytes from a place on, where there are so many
unfoldable pub part_of : List ℕ → ℕ → ℕ → List ℕ
part_of s from n = cond (leb (from + n) (length s)) (take n (drop from s)) []

-- the first k bytes
unfoldable pub first_bytes : ℕ → List ℕ → List ℕ
first_bytes zero s = []
first_bytes (suc k) s = first_bytes k s ++ (byte_at s k ∷ [])

-- The first of the stored cases s: a name's length (1 byte), the name, a head of k bytes, a flash's length (4 bytes) and the flash.
use Rattle.std.specs.Prelude.{ℕ, ◌+◌, min, cond, List, ◌++◌, eqb, length, drop}
use Rattle.header.specs.Numbers.{byte_at, number_at}
use Rattle.records.specs.Records.{part_of, first_bytes}

abbrev pub name_in : List ℕ → List ℕ
name_in s = part_of s 1 (byte_at s 0)

abbrev pub head_in : ℕ → List ℕ → List ℕ
head_in k s = part_of s (1 + byte_at s 0) k

-- where the head ends
abbrev pub head_end : ℕ → List ℕ → ℕ
head_end k s = 1 + byte_at s 0 + k

abbrev pub flash_in : ℕ → List ℕ → List ℕ
flash_in k s = part_of s (head_end k s + 4) (number_at 4 s (head_end k s))

abbrev pub cases_after : ℕ → List ℕ → List ℕ
cases_after k s = drop (head_end k s + 4 + number_at 4 s (head_end k s)) s

-- a flash f at the start of a space, as far as there is room
abbrev pub fitting : List ℕ → List ℕ → ℕ
fitting f space = min (length f) (length space)

unfoldable pub loaded : List ℕ → List ℕ → List ℕ
loaded f space = first_bytes (fitting f space) f ++ drop (fitting f space) space

-- its length there; an empty one is the flash before
abbrev pub flash_length : List ℕ → ℕ → List ℕ → ℕ
flash_length f before space = min (cond (eqb (length f) 0) before (length f)) (length space)

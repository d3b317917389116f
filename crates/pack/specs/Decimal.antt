-- A decimal number given as text: one digit or more, and at most a given number.
use Rattle.std.specs.Prelude.{ℕ, ◌+◌, ◌-◌, ◌*◌, Bool, true, cond, ◌&&◌, List, [], ◌∷◌, Option, Some, None, ltb, leb, length}

-- the characters 0 to 9
abbrev pub is_digit : ℕ → Bool
is_digit c = leb 48 c && leb c 57

unfoldable pub all_digits : List ℕ → Bool
all_digits [] = true
all_digits (c ∷ cs) = is_digit c && all_digits cs

-- the number that digits make behind the number x
unfoldable pub value_from : ℕ → List ℕ → ℕ
value_from x [] = x
value_from x (c ∷ cs) = value_from (10 * x + (c - 48)) cs

unfoldable pub decimal_in : ℕ → List ℕ → Option ℕ
decimal_in most text =
    cond (ltb 0 (length text) && (all_digits text && leb (value_from 0 text) most)) (Some (value_from 0 text)) None

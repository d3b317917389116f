-- Bytes as they are printed: two hexadecimal digits for each.
use Rattle.std.specs.Prelude.{ℕ, ◌/◌, ◌%◌, false, List, [], ◌∷◌}
use Rattle.std.specs.List.{flat_map}
use Rattle.std.specs.Fmt.{digit_glyph}

abbrev pub two_digits : ℕ → List ℕ
two_digits x = digit_glyph false (x / 16) ∷ digit_glyph false (x % 16) ∷ []

abbrev pub hex : List ℕ → List ℕ
hex bytes = flat_map two_digits bytes

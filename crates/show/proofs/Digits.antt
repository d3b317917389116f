-- What is printed of one byte more.
use Rattle.std.proofs.Common.{◌≡◌, ℕ, ◌+◌, ◌-◌, ◌<◌, ◌^◌, false, List, [], ◌++◌, length, get_or, take}
use Rattle.std.specs.Fmt.{digits, padded_integral, format_spec}
use Rattle.std.proofs.lemmas.Fmt.{hex_byte}
use Rattle.std.proofs.lemmas.List.{take_more, flat_map_more}
use Rattle.show.specs.Hex.{two_digits, hex}

pub hex-more : (bytes : List ℕ) (i : ℕ) → i < length bytes → get_or bytes i 0 < 256
    → hex (take i bytes) ++ padded_integral (format_spec 32 0 4 2 (2 ^ 64 - 1)) false [] (digits 16 false (get_or bytes i 0)) ≡ hex (take (i + 1) bytes)
hex-more bytes i h fits = rw (take_more bytes i 0 h, hex_byte false (get_or bytes i 0) fits) (flat_map_more two_digits [] (take i bytes) (get_or bytes i 0))

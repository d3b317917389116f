-- What the program's last line tells of a header h.
use Rattle.std.specs.Prelude.{ℕ, List, None}
use Rattle.header.specs.Listing.{listing}

-- the number with which the list of all tags ends
abbrev pub end_of : List ℕ → ℕ
end_of h = (listing 63 h 8 None).number

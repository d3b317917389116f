-- Document 01, "Geometry" and numbers 1 to 4: the three areas of a flash of len bytes.
use Rattle.std.specs.Prelude.{ℕ, ◌+◌, ◌*◌, ◌%◌, Bool, cond, ◌&&◌, ◌||◌, leb, eqb}
use Rattle.flash.specs.declared.geometry.Geometry.{Geometry}

-- the sector sizes and the image sector counts there are
abbrev pub listed : ℕ → Bool
listed z = eqb z 256 || eqb z 512 || eqb z 1024 || eqb z 2048 || eqb z 4096

abbrev pub counted : ℕ → Bool
counted n = leb 1 n && leb n 64

-- sectors 0 to n - 1 of a slot hold the image, sector n is the trailer
abbrev pub image_size : Geometry → ℕ
image_size g = g.count * g.size

abbrev pub slot_size : Geometry → ℕ
slot_size g = image_size g + g.size

abbrev pub aligned : ℕ → ℕ → Bool
aligned at z = eqb (at % z) 0

-- k bytes from an offset on end by the end of len bytes
abbrev pub fits : ℕ → ℕ → ℕ → Bool
fits at k len = leb (at + k) len

-- k bytes from a on and m bytes from b on have none in common; they may touch
abbrev pub apart : ℕ → ℕ → ℕ → ℕ → Bool
apart a k b m = leb (a + k) b || leb (b + m) a

unfoldable pub placed : Geometry → ℕ → Bool
placed g len =
    aligned g.boot g.size && aligned g.update g.size && aligned g.swap g.size
    && fits g.boot (slot_size g) len && fits g.update (slot_size g) len && fits g.swap g.size len

unfoldable pub disjoint : Geometry → Bool
disjoint g =
    apart g.boot (slot_size g) g.update (slot_size g) && apart g.boot (slot_size g) g.swap g.size
    && apart g.update (slot_size g) g.swap g.size

-- a number where a rule is broken, else what the next rules say
abbrev pub unless : Bool → ℕ → ℕ → ℕ
unless ok number next = cond ok next number

-- the number that a geometry is refused with, 0 for none
unfoldable pub geometry_check : Geometry → ℕ → ℕ
geometry_check g len =
    unless (listed g.size) 1 (unless (counted g.count) 2 (unless (placed g len) 3 (unless (disjoint g) 4 0)))

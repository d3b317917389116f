-- Document 01, "Header" and "Numbers given back", with document 02, R-2: the checks of a header, 10 to 16 and 30, in the papers' order.
use Rattle.std.specs.Prelude.{ℕ, ◌+◌, Bool, cond, ◌&&◌, List, [], ◌∷◌, Result, Ok, Err, map, ltb, eqb, length}
use Rattle.header.specs.Lookup.{view_of, of_kind}
use Rattle.header.specs.Numbers.{byte_at, number_at}
use Rattle.header.specs.Types.{mark, version_type, timestamp_type, digest_type, signature_type, firmware_type_type}
use Rattle.header.specs.Walk.{header_walk}
use Rattle.header.specs.declared.tags.Tag.{Tag}

-- the first number that is not 0, and 0 where there is none
abbrev pub first_refusal : List ℕ → ℕ
first_refusal [] = 0
first_refusal (n ∷ ns) = cond (eqb n 0) (first_refusal ns) n

abbrev pub length_check : List ℕ → ℕ
length_check i = cond (ltb (length i) 256) 10 0

-- bytes 0 to 3 are the mark
abbrev pub marked : List ℕ → Bool
marked i =
    eqb (byte_at i 0) (byte_at mark 0) && eqb (byte_at i 1) (byte_at mark 1) && eqb (byte_at i 2) (byte_at mark 2) && eqb (byte_at i 3) (byte_at mark 3)

abbrev pub mark_check : List ℕ → ℕ
mark_check i = cond (marked i) 0 11

-- the firmware's size, without the header
abbrev pub size_of : List ℕ → ℕ
size_of i = number_at 4 i 4

abbrev pub size_check : List ℕ → ℕ
size_check i = cond (eqb (size_of i) 0) 12 (cond (ltb (length i) (256 + size_of i)) 12 0)

-- the number with which the walk over all tags ended
abbrev pub walk_check : ℕ → ℕ
walk_check n = cond (eqb n 13) 13 0

-- of the tags of a mandatory type of length n: 14 missing, 15 repeated, 16 of wrong length
abbrev pub mandatory_check : ℕ → List Tag → ℕ
mandatory_check n [] = 14
mandatory_check n (t ∷ []) = cond (eqb t.len n) 0 16
mandatory_check n (t ∷ (u ∷ ts)) = 15

-- the mandatory types and their lengths
pub record Mandatory : Type 0 where
  pub kind : ℕ
  pub len : ℕ

abbrev pub version_tag : Mandatory
version_tag = record { kind = version_type; len = 4 }

abbrev pub timestamp_tag : Mandatory
timestamp_tag = record { kind = timestamp_type; len = 8 }

abbrev pub digest_tag : Mandatory
digest_tag = record { kind = digest_type; len = 32 }

abbrev pub signature_tag : Mandatory
signature_tag = record { kind = signature_type; len = 64 }

abbrev pub firmware_tag : Mandatory
firmware_tag = record { kind = firmware_type_type; len = 2 }

abbrev pub mandatory : List Mandatory
mandatory = version_tag ∷ timestamp_tag ∷ digest_tag ∷ signature_tag ∷ firmware_tag ∷ []

unfoldable pub tags_check : List Tag → ℕ
tags_check ts = first_refusal (map (λ (m : Mandatory). mandatory_check m.len (of_kind m.kind ts)) mandatory)

-- the mandatory types whose tag the digest has to cover
abbrev pub covered_types : List ℕ
covered_types = version_type ∷ timestamp_type ∷ firmware_type_type ∷ []

-- Of such a type's tags and the digest tags: 30 where the tag does not start before the first digest tag. (A tag's content is four bytes
-- behind its start, so contents compare as starts do.) After check 16 each stands exactly once; where one is missing, 14 has said so.
abbrev pub covered_check : List Tag → List Tag → ℕ
covered_check [] ds = 0
covered_check (t ∷ ts) [] = 0
covered_check (t ∷ ts) (d ∷ ds) = cond (ltb t.at d.at) 0 30

unfoldable pub coverage_check : List Tag → ℕ
coverage_check ts = first_refusal (map (λ (k : ℕ). covered_check (of_kind k ts) (of_kind digest_type ts)) covered_types)

-- the number of the first check that an image's header fails, and 0 where it fails none
unfoldable pub header_check : List ℕ → ℕ
header_check i =
    first_refusal
    (length_check i
    ∷ mark_check i
    ∷ size_check i
    ∷ walk_check (header_walk i).number
    ∷ tags_check (header_walk i).tags
    ∷ coverage_check (header_walk i).tags
    ∷ [])

-- the version of an image whose header passes, or the number of the check that fails
unfoldable pub version_of : List ℕ → Result ℕ ℕ
version_of i = cond (eqb (header_check i) 0) (Ok (number_at 4 (view_of i version_type) 0)) (Err (header_check i))

-- the version alone, 0 where the header fails
abbrev pub version_in : List ℕ → ℕ
version_in i = cond (eqb (header_check i) 0) (number_at 4 (view_of i version_type) 0) 0

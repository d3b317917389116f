-- Document 02, R-2: what an image whose header passes has under its digest.
use Rattle.std.specs.Prelude.{ℕ, ◌+◌, ◌≤◌, List, [], ◌∷◌, Ok, ◌≡◌, length, take, drop}
use Rattle.header.specs.Checks.{first_refusal, length_check, mark_check, size_check, walk_check, tags_check, header_check}
use Rattle.header.specs.Lookup.{lookup, view_of, covered_of}
use Rattle.header.specs.Types.{version_type, timestamp_type, firmware_type_type}
use Rattle.header.specs.Walk.{header_walk}
use Rattle.header.specs.declared.tags.Tag.{Tag}

-- the tag that a lookup of type k finds lies in what the digest covers, whole, and its content is what is read there
pub record Covered (i : List ℕ) (k : ℕ) : Type 0 where
  pub tag : Tag
  pub found : lookup i k ≡ Ok tag
  pub inside : tag.at + tag.len ≤ length (covered_of i)
  pub shown : view_of i k ≡ take tag.len (drop tag.at (covered_of i))

pub record AllCovered (i : List ℕ) : Type 0 where
  pub version : Covered i version_type
  pub timestamp : Covered i timestamp_type
  pub «firmware-type» : Covered i firmware_type_type

-- the checks of document 01 alone, 10 to 16
abbrev pub earlier_checks : List ℕ → ℕ
earlier_checks i =
    first_refusal
    (length_check i ∷ mark_check i ∷ size_check i ∷ walk_check (header_walk i).number ∷ tags_check (header_walk i).tags ∷ [])

-- Number 30 comes behind these, and exactly where not all three are covered. Proved in proofs/Coverage.antt.
pub record CoverageChecked : Type 0 where
  pub earlier : (i : List ℕ) → (earlier_checks i ≡ 0 → ⊥) → header_check i ≡ earlier_checks i
  pub passes : (i : List ℕ) → earlier_checks i ≡ 0 → AllCovered i → header_check i ≡ 0
  pub refused : (i : List ℕ) → earlier_checks i ≡ 0 → (AllCovered i → ⊥) → header_check i ≡ 30
  pub covered : (i : List ℕ) → header_check i ≡ 0 → AllCovered i

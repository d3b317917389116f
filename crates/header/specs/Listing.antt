-- Document 02, R-4: all tags, listed by lookups.
use Rattle.std.specs.Prelude.{ℕ, zero, suc, ◌+◌, ◌<◌, ◌≤◌, List, [], ◌∷◌, Option, Some, None, Result, Ok, Err, ◌⊎◌, ◌≡◌, length}
use Rattle.header.specs.Lookup.{lookup_from, lookup, of_kind}
use Rattle.header.specs.Walk.{Walk, walk, header_walk}
use Rattle.header.specs.declared.tags.Tag.{Tag}

-- the list that goes on from a lookup's answer; rest is the list from a later place
abbrev pub on_answer : (ℕ → Walk) → Result Tag ℕ → Walk
on_answer rest (Err n) = record { tags = []; number = n }
on_answer rest (Ok t) = record { tags = t ∷ (rest t.next).tags; number = (rest t.next).number }

-- What a caller gets who looks up from place p, and then from where each answer goes on, until a lookup refuses: the tags, and the
-- refusal's number. It is 0 where k lookups were too few.
unfoldable pub listing : ℕ → List ℕ → ℕ → Option ℕ → Walk
listing zero h p v = record { tags = []; number = 0 }
listing (suc k) h p v = on_answer (λ (q : ℕ). listing k h q v) (lookup_from h p v)

-- The old lookup is the new one from 8 (old; LookupsAgree says what it finds). 10 comes first (short), then 31 (outside); a start of 256
-- gives 25 (at-256). An answer leads on right behind its content, to a place that may be a start again (leads). So a list of any type is
-- the walk's tags, repeated ones too, and its number, from 8 (all; WalksStay: 13 or 25) and from any other start (from_any); a list of one
-- type is the walk's tags of that type, and its number (of_kind_lem). There are 62 tags at most (most), and so 63 lookups are enough.
-- Proved in proofs/Listing.antt.
pub record TagsListed : Type 0 where
  pub old : (h : List ℕ) (k : ℕ) → lookup h k ≡ lookup_from h 8 (Some k)
  pub short : (h : List ℕ) (p : ℕ) (v : Option ℕ) → length h < 256 → lookup_from h p v ≡ Err 10
  pub outside : (h : List ℕ) (p : ℕ) (v : Option ℕ) → 256 ≤ length h → (p < 8) ⊎ (256 < p) → lookup_from h p v ≡ Err 31
  pub «at-256» : (h : List ℕ) (v : Option ℕ) → 256 ≤ length h → lookup_from h 256 v ≡ Err 25
  pub leads : (h : List ℕ) (p : ℕ) (v : Option ℕ) (t : Tag) → lookup_from h p v ≡ Ok t →
      (p + 4 ≤ t.at) × ((t.next ≡ t.at + t.len) × (t.next ≤ 256))
  pub all : (h : List ℕ) → 256 ≤ length h → listing 63 h 8 None ≡ header_walk h
  pub from_any : (h : List ℕ) (p : ℕ) → 256 ≤ length h → 8 ≤ p → p ≤ 256 → listing 63 h p None ≡ walk h 256 p
  pub of_kind_lem : (h : List ℕ) (p k : ℕ) → 256 ≤ length h → 8 ≤ p → p ≤ 256 →
      listing 63 h p (Some k) ≡ record { tags = of_kind k (walk h 256 p).tags; number = (walk h 256 p).number }
  pub most : (h : List ℕ) → length (header_walk h).tags ≤ 62

-- Document 01, "Header": lookup of a type, and a view; with document 02, R-4: from a given place on, and of any type.
use Rattle.std.specs.Prelude.{ℕ, ◌-◌, ◌%◌, ◌<◌, ◌≤◌, Bool, true, cond, List, [], ◌∷◌, Option, Some, None, Result, Ok, Err, ◌≡◌, ltb, eqb, length, take, drop}
use Rattle.header.specs.Numbers.{byte_at}
use Rattle.header.specs.Types.{digest_type}
use Rattle.header.specs.Walk.{Walk, walk, header_walk}
use Rattle.header.specs.declared.tags.Tag.{Tag}

-- whether a type is wanted
abbrev pub matches : Option ℕ → ℕ → Bool
matches None k = true
matches (Some j) k = eqb k j

-- the first of some tags that is wanted, or the refusal n
abbrev pub first_in : Option ℕ → List Tag → ℕ → Result Tag ℕ
first_in v [] n = Err n
first_in v (t ∷ ts) n = cond (matches v t.kind) (Ok t) (first_in v ts n)

-- the first wanted tag that a walk meets, or the number with which it ended
abbrev pub first : Option ℕ → Walk → Result Tag ℕ
first v w = first_in v w.tags w.number

-- 10 for a header that is too short, 31 for a start before 8 or behind 256, then the walk from there: 13, or 25 at its end
unfoldable pub lookup_from : List ℕ → ℕ → Option ℕ → Result Tag ℕ
lookup_from h p v =
    cond (ltb (length h) 256) (Err 10)
    (cond (ltb p 8) (Err 31)
    (cond (ltb 256 p) (Err 31)
    (first v (walk h 256 p))))

-- document 01's lookup: the first tag of type k
unfoldable pub lookup : List ℕ → ℕ → Result Tag ℕ
lookup h k = lookup_from h 8 (Some k)

-- what a tag's view shows of the header; the empty part where lookup refuses
abbrev pub content_of : List ℕ → Result Tag ℕ → List ℕ
content_of h (Ok t) = take t.len (drop t.at h)
content_of h (Err n) = []

abbrev pub view_of : List ℕ → ℕ → List ℕ
view_of h k = content_of h (lookup h k)

-- the bytes before a tag's type
abbrev pub before_tag : List ℕ → Result Tag ℕ → List ℕ
before_tag h (Ok t) = take (t.at - 4) h
before_tag h (Err n) = []

-- what the digest covers of the header: up to the type of the first digest tag
abbrev pub covered_of : List ℕ → List ℕ
covered_of h = before_tag h (lookup h digest_type)

-- the tags of type k, in order; types are compared here and not by matches, so that the claims can hold a lookup to it
abbrev pub of_kind : ℕ → List Tag → List Tag
of_kind k [] = []
of_kind k (t ∷ ts) = cond (eqb t.kind k) (t ∷ of_kind k ts) (of_kind k ts)

-- In a header that is long enough a lookup gives the first of the tags of its type, and otherwise how the walk ended; type 0000 and, in
-- bytes, a type whose low byte is FF are never found.
pub record Agrees (h : List ℕ) (k : ℕ) : Type 0 where
  pub found : (t : Tag) (ts : List Tag) → 256 ≤ length h → of_kind k (header_walk h).tags ≡ t ∷ ts → lookup h k ≡ Ok t
  pub absent : 256 ≤ length h → of_kind k (header_walk h).tags ≡ [] → lookup h k ≡ Err (header_walk h).number
  pub never_0000 : (t : Tag) → k ≡ 0 → lookup h k ≡ Ok t → ⊥
  pub never_low-FF : (t : Tag) → ((p : ℕ) → byte_at h p < 256) → k % 256 ≡ 0xFF → lookup h k ≡ Ok t → ⊥

-- Proved in proofs/Shown.antt.
abbrev pub LookupsAgree : Type 0
LookupsAgree = (h : List ℕ) (k : ℕ) → Agrees h k

-- What the digest has to cover, checked in one walk: a tag of these types does not start before the first digest tag where the walk meets
-- it behind that one.
-- Assumes nothing.
use Prim.Native.Nat.{ℕ, ◌+◌, ◌≤◌}
use mathlib.Core.Bool.{Bool, true, false, cond, not, ◌||◌, or_assoc}
use mathlib.Core.List.{List, [], ◌∷◌}
use mathlib.Core.Path.{◌≡◌, refl, sym, ◌∙◌}
use native.Mathlib.Omega.{arith}
use lib.Dec.{ltb, eqb}
use borrow.Author.Tests.{eqb-true, eq-eqb, lt-ltb, le-ltb}
use Rattle.compare.proofs.Tests.{by_test, never}
use Rattle.header.specs.Checks.{first_refusal, Mandatory, covered_check, digest_tag, tags_check, coverage_check}
use Rattle.header.specs.Lookup.{of_kind}
use Rattle.header.specs.Seen.{must_be_covered, uncovered_after}
use Rattle.header.specs.Types.{version_type, timestamp_type, firmware_type_type}
use Rattle.header.specs.declared.tags.Tag.{Tag}
use Rattle.header.proofs.Order.{Ordered, none, one, first-is}
use Rattle.header.proofs.Refusals.{Once, all_once}
use Rattle.header.proofs.SomeTag.{some, some_or, neither_right, has_type, has}

abbrev must : Tag → Bool
must t = must_be_covered t.kind

-- what is to stand before the tag of a mandatory type m: for R-2 the digest's
module _ (m : Mandatory) where
  -- the tags behind the first one of that type
  abbrev behind : List Tag → List Tag
  behind [] = []
  behind (t ∷ ts) = cond (eqb t.kind m.kind) ts (behind ts)

  -- whether a tag of type k is one of them
  abbrev late : ℕ → List Tag → Bool
  late k ts = some (has_type k) (behind ts)

  -- whether something is uncovered after some tags; d says whether a tag of type m was met before them
  abbrev pub uncovered_all : Bool → Bool → List Tag → Bool
  uncovered_all d u [] = u
  uncovered_all d u (t ∷ ts) = uncovered_all (d || eqb t.kind m.kind) (uncovered_after d u t) ts

  -- behind a tag of type m each tag counts
  from_first : (u : Bool) (ts : List Tag) → uncovered_all true u ts ≡ (u || some must ts)
  from_first true [] = refl
  from_first false [] = refl
  from_first u (t ∷ ts) = from_first (u || must t) ts ∙ or_assoc u (must t) (some must ts)

  -- before it none does
  from_start : (ts : List Tag) → uncovered_all false false ts ≡ some must (behind ts)
  from_start [] = refl
  from_start (t ∷ ts) = go (eqb t.kind m.kind) (from_start ts)
    where
      go : (b : Bool) → uncovered_all false false ts ≡ some must (behind ts) → uncovered_all b false ts ≡ some must (cond b ts (behind ts))
      go true ih = from_first false ts
      go false ih = ih

  -- where there is no tag of a type, none stands behind
  none-behind : (k : ℕ) (ts : List Tag) → some (has_type k) ts ≡ false → late k ts ≡ false
  none-behind k [] e = refl
  none-behind k (t ∷ ts) e =
      by_test (λ (us : List Tag). some (has_type k) us ≡ false) (eqb t.kind m.kind)
      (λ b. neither_right (has_type k t) (some (has_type k) ts) e) (λ b. none-behind k ts (neither_right (has_type k t) (some (has_type k) ts) e))

  -- the only tag of another type stands behind the only one of type m where it does not start before it
  module _ (k : ℕ) (other : eqb m.kind k ≡ false) where
    stands-behind :
        {ts : List Tag} →
        Ordered ts →
        {t d : Tag} →
        of_kind k ts ≡ t ∷ [] →
        of_kind m.kind ts ≡ d ∷ [] →
        late k ts ≡ not (ltb t.at d.at)
    stands-behind none e f = absurd (let z : ◌≡◌ {A = ℕ} 0 1 = cc in omega arith)
    stands-behind (one {t = u} {ts} before o) {t} {d} e f = go (eqb u.kind m.kind) refl (eqb u.kind k) refl e f (stands-behind o)
      where
        go :
            (b : Bool) →
            eqb u.kind m.kind ≡ b →
            (c : Bool) →
            eqb u.kind k ≡ c →
            cond c (u ∷ of_kind k ts) (of_kind k ts) ≡ t ∷ [] →
            cond b (u ∷ of_kind m.kind ts) (of_kind m.kind ts) ≡ d ∷ [] →
            (of_kind k ts ≡ t ∷ [] → of_kind m.kind ts ≡ d ∷ [] → late k ts ≡ not (ltb t.at d.at)) →
            some (has_type k) (cond b ts (behind ts)) ≡ not (ltb t.at d.at)
        go true p true q e f ih = never (sym (eq-eqb m.kind k (sym (eqb-true _ _ p) ∙ eqb-true _ _ q)) ∙ other)
        go true p false q e f ih =
            let same : u ≡ d = cc in
            let l : u.at + u.len + 4 ≤ t.at = before t (first-is k ts e) in
            rw (has k ts _ e, ← same, le-ltb t.at u.at (omega arith))
        go false p true q e f ih =
            let same : u ≡ t = cc in
            let empty : of_kind k ts ≡ [] = cc in
            let l : u.at + u.len + 4 ≤ d.at = before d (first-is m.kind ts f) in
            rw (none-behind k ts (has k ts _ empty), ← same, lt-ltb u.at d.at (omega arith))
        go false p false q e f ih = ih e f

    -- so its check can be told from what stands behind
    told_behind :
        (ts : List Tag) →
        Ordered ts →
        {i j : ℕ} →
        Once i (of_kind k ts) →
        Once j (of_kind m.kind ts) →
        covered_check (of_kind k ts) (of_kind m.kind ts) ≡ cond (late k ts) 30 0
    told_behind ts o t d = rw (stands-behind o t.is d.is, t.is, d.is) (go (ltb t.tag.at d.tag.at))
      where
        go : (b : Bool) → ◌≡◌ {A = ℕ} (cond b 0 30) (cond (not b) 30 0)
        go true = refl
        go false = refl

first_of_three : (a b c : Bool) → cond (a || b || c) 30 0 ≡ first_refusal (cond a 30 0 ∷ cond b 30 0 ∷ cond c 30 0 ∷ [])
first_of_three true b c = refl
first_of_three false true c = refl
first_of_three false false true = refl
first_of_three false false false = refl

-- where each mandatory type has its one tag, this is what the check says
pub coverage_told : (ts : List Tag) → Ordered ts → tags_check ts ≡ 0 → cond (uncovered_all digest_tag false false ts) 30 0 ≡ coverage_check ts
unfolding coverage_check
coverage_told ts o e =
    let m = digest_tag in
    let each = all_once ts e in
    let only = each.digest in
    rw (
      from_start m ts,
      some_or (λ (t : Tag). has_type version_type t || has_type timestamp_type t) (has_type firmware_type_type) (behind m ts),
      some_or (has_type version_type) (has_type timestamp_type) (behind m ts),
      told_behind m version_type refl ts o each.version only,
      told_behind m timestamp_type refl ts o each.timestamp only,
      told_behind m firmware_type_type refl ts o each.«firmware-type» only,
    ) (first_of_three (late m version_type ts) (late m timestamp_type ts) (late m firmware_type_type ts))

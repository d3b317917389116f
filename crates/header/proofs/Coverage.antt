-- Where the header passes, version, timestamp and firmware type lie in what the digest covers; and headers with the same covered part
-- agree on them.
-- Assumes nothing.
use Prim.Native.Nat.{ℕ, ◌+◌, ◌-◌, ◌<◌, ◌≤◌}
use mathlib.Core.List.{List, [], ◌∷◌, map}
use mathlib.Core.Logic.{◌⊎◌, inl, inr, ⊎_elim}
use mathlib.Core.Path.{◌≡◌, refl, sym, ap, ◌∙◌}
use native.Mathlib.Omega.{arith}
use lib.Dec.{ltb}
use lib.ListN.{length, take, length-take}
use lib.Seq.{length-take-le, take-take}
use borrow.Author.Tests.{ltb-true, lt-ltb, ne_eqb}
use Rattle.compare.proofs.Tests.{by_test}
use Rattle.std.specs.Prelude.{Result, Ok, Err}
use Rattle.header.specs.Checks.{first_refusal, length_check, mark_check, size_check, walk_check, tags_check, covered_types, covered_check, coverage_check, header_check, version_of}
use Rattle.header.specs.Coverage.{Covered, AllCovered, earlier_checks, CoverageChecked}
use Rattle.header.specs.Lookup.{lookup, view_of, before_tag, covered_of, of_kind}
use Rattle.header.specs.Types.{version_type, timestamp_type, digest_type, firmware_type_type}
use Rattle.header.specs.Walk.{header_walk}
use Rattle.header.specs.declared.tags.Tag.{Tag}
use Rattle.header.proofs.Lookups.{InHeader, looked_up}
use Rattle.header.proofs.Order.{apart, ordered, first-is}
use Rattle.header.proofs.Prefix.{part_of, lookup-same}
use Rattle.header.proofs.Refusals.{first_one, zero_at, then_last, Once, passed}
use Rattle.header.proofs.Shown.{agrees}

-- what the digest covers ends where the digest tag starts
pub covered-length : (i : List ℕ) {d : Tag} → lookup i digest_type ≡ Ok d → length (covered_of i) + 4 ≡ d.at
covered-length i {d} f = let g : InHeader i d = looked_up i digest_type f in rw (f, length-take-le (d.at - 4) i (omega arith)) (omega arith)

-- the check of one type
abbrev check_of : List ℕ → ℕ → ℕ
check_of i k = covered_check (of_kind k (header_walk i).tags) (of_kind digest_type (header_walk i).tags)

-- a tag that starts before the digest's is covered
starts_before :
    (i : List ℕ) →
    256 ≤ length i →
    (k : ℕ) {m n : ℕ} →
    Once m (of_kind k (header_walk i).tags) →
    Once n (of_kind digest_type (header_walk i).tags) →
    check_of i k ≡ 0 →
    Covered i k
starts_before i long k o p e =
    let tags = (header_walk i).tags in
    let t = o.tag in
    let d = p.tag in
    let found = (agrees i k).found t [] long o.is in
    let digest = (agrees i digest_type).found d [] long p.is in
    let before : t.at < d.at =
    by_test (λ (r : ℕ). r ≡ 0 → t.at < d.at) (ltb t.at d.at) (λ b e. ltb-true _ _ b) (λ b e. absurd (omega arith))
    (rw (o.is, p.is) at e) in
    let ends : t.at + t.len + 4 ≤ d.at = apart (ordered i 256 8) (first-is k tags o.is) (first-is digest_type tags p.is) before in
    record {
      tag = t;
      found = found;
      inside = omega (arith, covered-length i digest);
      shown = rw (found, digest) (sym (part_of t.at t.len (d.at - 4) i (omega arith)));
    }

-- a covered tag starts before the digest's
covered-passes :
    (i : List ℕ) (k : ℕ) →
    Covered i k →
    (ts ds : List Tag) →
    of_kind k (header_walk i).tags ≡ ts →
    of_kind digest_type (header_walk i).tags ≡ ds →
    covered_check ts ds ≡ 0
covered-passes i k c [] ds e f = refl
covered-passes i k c (t ∷ ts) [] e f = refl
covered-passes i k c (t ∷ ts) (d ∷ ds) e f =
    let long = (looked_up i k c.found).long in
    let found : lookup i k ≡ Ok t = (agrees i k).found t ts long e in
    let same : t ≡ c.tag = cc in
    let at : t.at ≡ c.tag.at = ap (λ (t : Tag). t.at) same in
    rw (lt-ltb t.at d.at (omega (arith, covered-length i ((agrees i digest_type).found d ds long f))))

all-covered : (i : List ℕ) → header_check i ≡ 0 → AllCovered i
unfolding coverage_check
all-covered i e =
    let ok = passed i e in
    let each = ok.tags in
    let zeros = zero_at (map (check_of i) covered_types) in
    record {
      version = starts_before i ok.long version_type each.version each.digest (zeros 0 ok.coverage);
      timestamp = starts_before i ok.long timestamp_type each.timestamp each.digest (zeros 1 ok.coverage);
      «firmware-type» = starts_before i ok.long firmware_type_type each.«firmware-type» each.digest (zeros 2 ok.coverage);
    }

all_pass : (i : List ℕ) → AllCovered i → coverage_check (header_walk i).tags ≡ 0
unfolding coverage_check
all_pass i c =
    rw (
      covered-passes i version_type c.version _ _ refl refl,
      covered-passes i timestamp_type c.timestamp _ _ refl refl,
      covered-passes i firmware_type_type c.«firmware-type» _ _ refl refl,
    )

-- the check has no other number
abbrev Only30 : ℕ → Type 0
Only30 n = (n ≡ 0) ⊎ (n ≡ 30)

each_only_30 : (ts ds : List Tag) → Only30 (covered_check ts ds)
each_only_30 [] ds = inl refl
each_only_30 (t ∷ ts) [] = inl refl
each_only_30 (t ∷ ts) (d ∷ ds) = by_test Only30 (ltb t.at d.at) (λ b. inl refl) (λ b. inr refl)

only_30 : (i : List ℕ) (ks : List ℕ) → Only30 (first_refusal (map (check_of i) ks))
only_30 i [] = inl refl
only_30 i (k ∷ ks) = go (check_of i k) (each_only_30 (of_kind k (header_walk i).tags) (of_kind digest_type (header_walk i).tags)) (only_30 i ks)
  where
    go : (n : ℕ) → Only30 n → Only30 (first_refusal (map (check_of i) ks)) → Only30 (first_refusal (n ∷ map (check_of i) ks))
    go n (inl z) r = rw z r
    go n (inr t) r = rw t (inr refl)

-- the checks are document 01's, then this one
header_is : (i : List ℕ) → header_check i ≡ first_refusal (earlier_checks i ∷ coverage_check (header_walk i).tags ∷ [])
unfolding header_check
header_is i =
    then_last
    (length_check i ∷ mark_check i ∷ size_check i ∷ walk_check (header_walk i).number ∷ tags_check (header_walk i).tags ∷ [])
    (coverage_check (header_walk i).tags) (coverage_check (header_walk i).tags) (λ e. refl)

where_earlier_pass : (i : List ℕ) → earlier_checks i ≡ 0 → header_check i ≡ coverage_check (header_walk i).tags
where_earlier_pass i e = header_is i ∙ rw e (first_one (coverage_check (header_walk i).tags))

pub coverage_checked : CoverageChecked
unfolding coverage_check
coverage_checked =
    record {
      earlier = λ i n. header_is i ∙ rw (ne_eqb (earlier_checks i) 0 n);
      passes = λ i e c. where_earlier_pass i e ∙ all_pass i c;
      refused = λ i e n.
          ⊎_elim (λ z. absurd (n (all-covered i (where_earlier_pass i e ∙ z)))) (λ t. where_earlier_pass i e ∙ t) (only_30 i covered_types);
      covered = all-covered;
    }

-- what is covered is the header's start
pub covered_start : (i : List ℕ) (m : ℕ) → m ≤ length (covered_of i) → take m (covered_of i) ≡ take m i
covered_start i m = go (lookup i digest_type)
  where
    go : (r : Result Tag ℕ) → m ≤ length (before_tag i r) → take m (before_tag i r) ≡ take m i
    go (Ok d) l = take-take m (d.at - 4) i (omega (arith, simp length-take at l))
    go (Err n) l = let z : m ≡ 0 = omega arith in rw z

-- headers with the same covered part agree on what is covered
pub covered_same : (i j : List ℕ) (k : ℕ) → covered_of i ≡ covered_of j → Covered i k → Covered j k → view_of i k ≡ view_of j k
covered_same i j k e c d =
    let t = c.tag in
    let inside : t.at + t.len ≤ length (covered_of j) = rw e at c.inside in
    let same : take t.at i ≡ take t.at j =
    sym (covered_start i t.at (omega (arith, c.inside))) ∙ ap (take t.at) e ∙ covered_start j t.at (omega arith) in
    let found : lookup j k ≡ Ok t =
    lookup-same i j t.at same k (omega arith) (looked_up j k d.found).long c.found in
    let tag : d.tag ≡ t = cc in
    c.shown ∙ rw (e, ← tag) (sym d.shown)

-- and on the version, if that is read
pub version-same :
    (i j : List ℕ) →
    header_check i ≡ 0 →
    header_check j ≡ 0 →
    view_of i version_type ≡ view_of j version_type →
    version_of i ≡ version_of j
unfolding version_of
version-same i j p q e = rw (p, q, e)

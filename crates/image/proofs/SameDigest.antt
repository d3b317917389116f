-- Two images that pass with the same digest are alike in what the digest covers, unless their messages collide.
-- Assumes nothing.
use Prim.Native.Nat.{ℕ, ◌≤◌}
use mathlib.Core.Bool.{true}
use mathlib.Core.List.{List, [], ◌∷◌}
use mathlib.Core.Path.{◌≡◌, refl, sym, ap, ◌∙◌}
use native.Mathlib.Omega.{arith}
use lib.ListN.{length, take, drop, length-append, length-drop}
use lib.Seq.{length-take-le, take-append-le, take_at, drop_at}
use Rattle.compare.specs.Compare.{same}
use Rattle.compare.proofs.Sameness.{same_equal}
use Rattle.compare.proofs.Tests.{by_test}
use Rattle.header.specs.Checks.{size_of, header_check}
use Rattle.header.specs.Coverage.{AllCovered}
use Rattle.header.specs.Lookup.{view_of, covered_of}
use Rattle.header.specs.Types.{version_type, timestamp_type, digest_type, firmware_type_type}
use Rattle.header.proofs.Coverage.{coverage_checked, covered_start, covered_same, version-same}
use Rattle.header.proofs.Lookups.{looked_up}
use Rattle.header.proofs.Prefix.{number_same}
use Rattle.header.proofs.Refusals.{zero_at, firmware-fits}
use Rattle.image.specs.SameDigest.{DigestTells}
use Rattle.image.specs.Verdict.{firmware_of, message_of, digest_of, digest_check, signature_check, verdict}

-- what is known of an image that passes
record Passes (i : List ℕ) : Type 0 where
  header : header_check i ≡ 0
  digest : view_of i digest_type ≡ digest_of i
  -- version, timestamp and firmware type, and before them mark and size
  covered : AllCovered i
  starts : 8 ≤ length (covered_of i)
  long : length (firmware_of i) ≡ size_of i

passes : (i : List ℕ) → verdict i true ≡ 0 → Passes i
unfolding verdict
passes i e =
    let zeros = zero_at (header_check i ∷ digest_check i ∷ signature_check true ∷ []) in
    let all = coverage_checked.covered i (zeros 0 e) in
    record {
      header = zeros 0 e;
      digest =
          by_test (λ (r : ℕ). r ≡ 0 → view_of i digest_type ≡ digest_of i) (same (view_of i digest_type) (digest_of i))
          (λ b e. same_equal _ _ b) (λ b e. absurd (omega arith)) (zeros 1 e);
      covered = all;
      starts = omega (arith, all.version.inside, (looked_up i version_type all.version.found).good.starts);
      long = length-take-le (size_of i) (drop 256 i) (rw (length-drop 256 i) (omega (arith, firmware-fits i (zeros 0 e))));
    }

-- the size is read off the message
size_in : (i : List ℕ) → 8 ≤ length (covered_of i) → take 8 i ≡ take 8 (message_of i)
size_in i l = sym (covered_start i 8 l) ∙ sym (take-append-le 8 (covered_of i) (firmware_of i) l)

pub digest_tells : DigestTells
unfolding digest_of
digest_tells i j e f d n =
    let p = passes i e in
    let q = passes j f in
    let m : message_of i ≡ message_of j = n (sym p.digest ∙ d ∙ q.digest) in
    let sizes : size_of i ≡ size_of j =
    number_same i j 8 (size_in i p.starts ∙ ap (take 8) m ∙ sym (size_in j q.starts)) 4 4 (omega arith) in
    let lengths : length (covered_of i) ≡ length (covered_of j) =
    omega (arith, p.long, q.long, length-append (covered_of i) (firmware_of i), length-append (covered_of j) (firmware_of j), ap length m) in
    let covered : covered_of i ≡ covered_of j =
    sym (take_at (covered_of i) (firmware_of i) _ refl) ∙ rw (m, lengths) (take_at (covered_of j) (firmware_of j) _ refl) in
    let version = covered_same i j version_type covered p.covered.version q.covered.version in
    record {
      covered = covered;
      firmware = sym (drop_at (covered_of i) (firmware_of i) _ refl) ∙ rw (m, lengths) (drop_at (covered_of j) (firmware_of j) _ refl);
      version = version-same i j p.header q.header version;
      timestamp = covered_same i j timestamp_type covered p.covered.timestamp q.covered.timestamp;
      «firmware-type» = covered_same i j firmware_type_type covered p.covered.«firmware-type» q.covered.«firmware-type»;
    }

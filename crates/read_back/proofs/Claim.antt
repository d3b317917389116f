-- The claim: what the writer wrote is read back, and the image passes where the checker says yes.
-- Assumes nothing.
use Prim.Native.Nat.{ℕ, ◌+◌, ◌^◌, ◌<◌}
use mathlib.Core.Bool.{Bool, true, cond}
use mathlib.Core.List.{List, [], ◌∷◌, ◌++◌, map, append-nil}
use mathlib.Core.Path.{◌≡◌, refl, sym, ap, ◌∙◌}
use native.Mathlib.Omega.{arith}
use lib.ListN.{length, replicate, length-append}
use lib.Seq.{take-length}
use borrow.Author.Tests.{lt-ltb, le-ltb, ne_eqb}
use Rattle.header.specs.Checks.{first_refusal, mark_check, size_of, size_check, mandatory_check, tags_check, covered_check, coverage_check, header_check, version_of}
use Rattle.header.specs.Lookup.{of_kind}
use Rattle.header.specs.Walk.{step_at, walk_in, walk}
use Rattle.header.specs.declared.tags.Tag.{Tag}
use Rattle.image.specs.Verdict.{digest_of, digest_check, signature_check, verdict}
use Rattle.writer.specs.Custom.{named, tags_of, well_formed, custom_check}
use Rattle.writer.specs.Layout.{le_bytes, digest_to_sign, written}
use Rattle.std.specs.Prelude.{Ok}
use Rattle.writer.specs.Writer.{buffer_check, fields_check, write_check, buffer_after}
use Rattle.writer.specs.declared.Fields.{Fields}
use Rattle.header.proofs.Refusals.{first_one, zero_at}
use Rattle.compare.proofs.Sameness.{same_self}
use Rattle.writer.proofs.Accepted.{Accepted, accepted}
use Rattle.writer.proofs.Whole.{digest-length}
use Rattle.read_back.specs.ReadBack.{tag_of, moved, written_tags, NumbersRead, HeaderReads, ReadBack}
use Rattle.read_back.proofs.Passing.{kind_past}
use Rattle.read_back.proofs.Placed as P
use Rattle.read_back.proofs.Standing.{number_at_lem}

pub numbers_read : NumbersRead
numbers_read n x l = number_at_lem n (le_bytes n x) 0 x [] l (sym (append-nil (le_bytes n x)))

-- checks that all pass
all_five : (a b c d e : ℕ) → a ≡ 0 → b ≡ 0 → c ≡ 0 → d ≡ 0 → e ≡ 0 → first_refusal (a ∷ b ∷ c ∷ d ∷ e ∷ []) ≡ 0
all_five a b c d e p q r s t = rw (p, q, r, s, t)

last_one : (a b n : ℕ) → a ≡ 0 → b ≡ 0 → first_refusal (a ∷ b ∷ n ∷ []) ≡ n
last_one a b n p q = rw (p, q) (first_one n)

module _ (fields : Fields) (firmware custom hint signature : List ℕ)
    (ok : Accepted firmware custom) (hl : length hint ≡ 32) (sl : length signature ≡ 64) where
  abbrev d : List ℕ
  d = digest_to_sign fields firmware custom hint

  dl : length d ≡ 32
  dl = digest-length fields firmware custom hint

  abbrev h : List ℕ
  h = P.header fields firmware custom hint d signature

  module _ (i : List ℕ) (is : i ≡ h ++ firmware) where
    reads : HeaderReads fields custom hint d signature i
    reads = P.header_reads fields firmware custom hint d signature firmware ok.custom_ok hl dl sl i is

    size_is : size_of i ≡ length firmware
    size_is =
        let s = ok.firmware_ok.size in
        P.size_is fields firmware custom hint d signature firmware ok.custom_ok hl dl sl i is (omega arith)

    image-length : length i ≡ 256 + length firmware
    image-length =
        rw (is, length-append h firmware, P.header-length fields firmware custom hint d signature firmware ok.custom_ok hl dl sl)

    mark-passes : mark_check i ≡ 0
    mark-passes = rw (P.starts fields firmware custom hint d signature firmware ok.custom_ok hl dl sl i is)

    size-passes : size_check i ≡ 0
    size-passes =
        rw size_is
        (simp (ne_eqb (length firmware) 0 ok.firmware_ok.some, le-ltb (length i) (256 + length firmware) (omega (arith, image-length))))

    -- the tags of type k from the run on
    abbrev others : ℕ → List Tag
    others k = of_kind k (map (moved 34) (tags_of custom) ++ P.last_tags (length custom))

    past_run : (k : ℕ) → named k ≡ true → others k ≡ of_kind k (P.last_tags (length custom))
    past_run k m = kind_past k m (length custom) 34 (P.last_tags (length custom)) 0 (tags_of custom) ok.custom_ok.whole

    tags_pass : tags_check (written_tags custom) ≡ 0
    unfolding tags_check
    tags_pass =
        all_five _ _ _ _ _
        (ap (λ (ts : List Tag). mandatory_check 4 (tag_of 0x0001 8 4 ∷ ts)) (past_run 0x0001 refl))
        (ap (λ (ts : List Tag). mandatory_check 8 (tag_of 0x0002 16 8 ∷ ts)) (past_run 0x0002 refl))
        (ap (mandatory_check 32) (past_run 0x0003 refl))
        (ap (mandatory_check 64) (past_run 0x0020 refl))
        (ap (λ (ts : List Tag). mandatory_check 2 (tag_of 0x0030 28 2 ∷ ts)) (past_run 0x0030 refl))

    -- a tag before the run
    before-digest : (t : Tag) (ts : List Tag) → t.at < 74 → covered_check (t ∷ ts) (of_kind 0x0003 (written_tags custom)) ≡ 0
    before-digest t ts l =
        ap (covered_check (t ∷ ts)) (past_run 0x0003 refl)
        ∙ ap (λ (b : Bool). cond {A = ℕ} b 0 30) (lt-ltb t.at (70 + length custom + 4) (omega arith))

    coverage_passes : coverage_check (written_tags custom) ≡ 0
    unfolding coverage_check
    coverage_passes =
        rw (
          before-digest (tag_of 0x0001 8 4) (others 0x0001) (omega arith),
          before-digest (tag_of 0x0002 16 8) (others 0x0002) (omega arith),
          before-digest (tag_of 0x0030 28 2) (others 0x0030) (omega arith),
        )

    header-passes : header_check i ≡ 0
    unfolding header_check
    header-passes =
        rw (reads.walked, le-ltb (length i) 256 (omega (arith, image-length)), mark-passes, size-passes, tags_pass, coverage_passes)

    digest-is : digest_of i ≡ d
    unfolding digest_of digest_to_sign
    digest-is =
        rw (
          P.covered-is fields firmware custom hint d signature firmware ok.custom_ok hl dl sl i is,
          size_is,
          P.behind fields firmware custom hint d signature firmware ok.custom_ok hl dl sl i is,
          take-length firmware,
        )

    digest-passes : digest_check i ≡ 0
    digest-passes = rw (reads.digest-tag.shown, digest-is) (simp (same_self d))

    passes : (signed : Bool) → verdict i signed ≡ cond signed 0 18
    unfolding verdict
    passes signed = last_one (header_check i) (digest_check i) (signature_check signed) header-passes digest-passes

    version-is : fields.version < 2 ^ 32 → version_of i ≡ Ok fields.version
    unfolding version_of
    version-is l = rw (header-passes, reads.version-tag.shown, numbers_read 4 fields.version l)

pub read_back : ReadBack
unfolding write_check buffer_after written
read_back buffer fields firmware custom hint signature e hl sl =
    let ok : Accepted firmware custom = accepted firmware custom (zero_at (buffer_check buffer ∷ fields_check firmware custom ∷ []) 1 e) in
    let w : List ℕ = written fields firmware custom hint signature in
    let n : length (digest_to_sign fields firmware custom hint) ≡ 32 = digest-length fields firmware custom hint in
    rw e
    (record {
      header = P.header_reads fields firmware custom hint _ signature [] ok.custom_ok hl n sl w (sym (append-nil w));
      image = reads fields firmware custom hint signature ok hl sl (w ++ firmware) refl;
      version = version-is fields firmware custom hint signature ok hl sl (w ++ firmware) refl;
      verdict-is = passes fields firmware custom hint signature ok hl sl (w ++ firmware) refl;
    })

-- the premises can be met
pub some_input : write_check (replicate 256 0) (0x11 ∷ []) [] ≡ 0
unfolding write_check fields_check custom_check well_formed walk walk_in step_at
some_input = refl

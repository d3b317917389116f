-- Where the pieces of a written header stand, in any bytes that start with it, and what lookups find there.
-- Assumes nothing.
use Prim.Native.Nat.{ℕ, ◌+◌, ◌-◌, ◌^◌, ◌<◌, ◌≤◌}
use mathlib.Core.Bool.{true, false}
use mathlib.Core.List.{List, [], ◌∷◌, ◌++◌, map, append_assoc}
use mathlib.Core.Path.{◌≡◌, refl, ap, ◌∙◌}
use native.Mathlib.Omega.{arith}
use lib.ListN.{length, drop, replicate, length-append, length-replicate}
use lib.Seq.{drop_at, take_at}
use Rattle.header.specs.Lookup.{first, first_in, lookup, content_of, before_tag, covered_of}
use Rattle.header.specs.Numbers.{number_at}
use Rattle.header.specs.Walk.{walk}
use Rattle.std.specs.Prelude.{Ok, Some}
use Rattle.header.specs.declared.tags.Tag.{Tag}
use Rattle.writer.specs.Custom.{named, tags_of}
use Rattle.writer.specs.Layout.{le_bytes, tag_bytes, covered_part}
use Rattle.writer.specs.declared.Fields.{Fields}
use Rattle.header.proofs.Lookups.{long_enough}
use Rattle.header.proofs.Shown.{stays}
use Rattle.header.proofs.Walk.{stopped}
use Rattle.writer.proofs.Accepted.{Custom}
use Rattle.writer.proofs.Stores.{length-le, tag_length}
use Rattle.writer.proofs.Whole.{covered_length}
use Rattle.read_back.specs.ReadBack.{tag_of, moved, written_tags, Reads, HeaderReads}
use Rattle.read_back.proofs.Passing.{differ', first_past, first_of_run, custom_kind}
use Rattle.read_back.proofs.Standing.{rest_at, number_at_lem, prefixed, small_type, Laid, laid, padding-walked, run-walked, content_in}

abbrev pub last_tags : ℕ → List Tag
last_tags n = tag_of 0x0010 (34 + n) 32 ∷ (tag_of 0x0003 (70 + n) 32 ∷ (tag_of 0x0020 (106 + n) 64 ∷ []))

module _ (fields : Fields) (firmware custom hint digest signature : List ℕ) where
  -- a header with any digest
  abbrev pub header : List ℕ
  header =
      covered_part fields firmware custom hint
      ++ tag_bytes 0x0003 digest
      ++ tag_bytes 0x0020 signature
      ++ replicate (82 - length custom) 0xFF

  module _ (tail : List ℕ) (run : Custom custom) (hl : length hint ≡ 32) (dl : length digest ≡ 32) (sl : length signature ≡ 64) where
    pub header-length : length header ≡ 256
    header-length =
        let r = run.size in
        simp (length-append, tag_length, length-replicate, covered_length fields firmware custom hint hl) (omega arith)

    -- what stands from each piece's place on
    abbrev padding-on : List ℕ
    padding-on = replicate (82 - length custom) 0xFF ++ tail

    abbrev signature_on : List ℕ
    signature_on = tag_bytes 0x0020 signature ++ padding-on

    abbrev digest-on : List ℕ
    digest-on = tag_bytes 0x0003 digest ++ signature_on

    abbrev hint_on : List ℕ
    hint_on = tag_bytes 0x0010 hint ++ digest-on

    abbrev run_on : List ℕ
    run_on = custom ++ hint_on

    abbrev type_on : List ℕ
    type_on = tag_bytes 0x0030 (le_bytes 2 fields.firmware_type) ++ run_on

    abbrev timestamp-on : List ℕ
    timestamp-on = tag_bytes 0x0002 (le_bytes 8 fields.timestamp) ++ type_on

    abbrev version-on : List ℕ
    version-on = tag_bytes 0x0001 (le_bytes 4 fields.version) ++ timestamp-on

    abbrev size-on : List ℕ
    size-on = le_bytes 4 (length firmware) ++ version-on

    shape : header ++ tail ≡ (0x57 ∷ 0x4F ∷ 0x4C ∷ 0x46 ∷ []) ++ size-on
    unfolding covered_part
    shape = simp append_assoc

    module _ (i : List ℕ) (is : i ≡ header ++ tail) where
      pub long : 256 ≤ length i
      long = rw (is, length-append header tail) (omega (arith, header-length))

      pub starts : i ≡ 0x57 ∷ (0x4F ∷ (0x4C ∷ (0x46 ∷ size-on)))
      starts = is ∙ shape

      pub size_is : length firmware < 256 ^ 4 → number_at 4 i 4 ≡ length firmware
      size_is l = number_at_lem 4 i 4 (length firmware) version-on l (rw starts)

      pub behind : drop 256 i ≡ tail
      behind = rw is (drop_at header tail 256 header-length)

      version_at : drop 8 i ≡ version-on
      version_at = rest_at i 4 4 size-on (rw starts) ∙ drop_at (le_bytes 4 (length firmware)) version-on 4 (length-le 4 (length firmware))

      version_laid : Laid i 256 8 16 0x0001 (le_bytes 4 fields.version) timestamp-on
      version_laid = laid i 256 8 16 0x0001 _ _ version_at (rw length-le (omega arith)) (rw length-le) (omega arith) (small_type 0x0001 (omega arith) (omega arith))

      timestamp_laid : Laid i 256 16 28 0x0002 (le_bytes 8 fields.timestamp) type_on
      timestamp_laid = laid i 256 16 28 0x0002 _ _ version_laid.after (rw length-le (omega arith)) (rw length-le) (omega arith) (small_type 0x0002 (omega arith) (omega arith))

      type_laid : Laid i 256 28 34 0x0030 (le_bytes 2 fields.firmware_type) run_on
      type_laid = laid i 256 28 34 0x0030 _ _ timestamp_laid.after (rw length-le (omega arith)) (rw length-le) (omega arith) (small_type 0x0030 (omega arith) (omega arith))

      hint_at : drop (34 + length custom) i ≡ hint_on
      hint_at = rest_at i 34 (length custom) run_on type_laid.after ∙ drop_at custom hint_on (length custom) refl

      hint_laid : Laid i 256 (34 + length custom) (70 + length custom) 0x0010 hint digest-on
      hint_laid =
          let r = run.size in
          laid i 256 (34 + length custom) (70 + length custom) 0x0010 _ _ hint_at (omega arith) (omega arith) (omega arith) (small_type 0x0010 (omega arith) (omega arith))

      digest_laid : Laid i 256 (70 + length custom) (106 + length custom) 0x0003 digest signature_on
      digest_laid =
          let r = run.size in
          laid i 256 (70 + length custom) (106 + length custom) 0x0003 _ _ hint_laid.after (omega arith) (omega arith) (omega arith) (small_type 0x0003 (omega arith) (omega arith))

      signature_laid : Laid i 256 (106 + length custom) (174 + length custom) 0x0020 signature padding-on
      signature_laid =
          let r = run.size in
          laid i 256 (106 + length custom) (174 + length custom) 0x0020 _ _ digest_laid.after (omega arith) (omega arith) (omega arith) (small_type 0x0020 (omega arith) (omega arith))

      last-walked : walk i 256 (34 + length custom) ≡ prefixed (last_tags (length custom)) (stopped 25)
      last-walked =
          let r = run.size in
          hint_laid.walked
          ∙ rw (hl, digest_laid.walked, dl, signature_laid.walked, sl)
          (rw (padding-walked i (82 - length custom) (174 + length custom) tail signature_laid.after (omega arith)))

      pub walked : walk i 256 8 ≡ record { tags = written_tags custom; number = 25 }
      walked =
          version_laid.walked
          ∙ rw (length-le, timestamp_laid.walked, length-le, type_laid.walked, length-le)
          (rw (run-walked i 34 custom hint_on type_laid.after (let r = run.size in omega arith) run.whole, last-walked))

      looked_up : (k : ℕ) → lookup i k ≡ first_in (Some k) (written_tags custom) 25
      looked_up k = long_enough i k long ∙ ap (first (Some k)) walked

      -- a named type that stands behind the run
      past_run : (k : ℕ) → named k ≡ true → first_in (Some k) (map (moved 34) (tags_of custom) ++ last_tags (length custom)) 25 ≡ first_in (Some k) (last_tags (length custom)) 25
      past_run k m = first_past k m (length custom) 34 (last_tags (length custom)) 0 (tags_of custom) 25 run.whole

      reads : {p q k : ℕ} {c rest : List ℕ} → Laid i 256 p q k c rest → lookup i k ≡ Ok (tag_of k p (length c)) → Reads i k p c
      reads l e = record { found = e; shown = ap (content_of i) e ∙ l.content }

      digest-found : lookup i 0x0003 ≡ Ok (tag_of 0x0003 (70 + length custom) 32)
      digest-found = looked_up 0x0003 ∙ past_run 0x0003 refl

      pub header_reads : HeaderReads fields custom hint digest signature i
      header_reads =
          record {
            walked = walked;
            version-tag = reads version_laid (rw length-le (looked_up 0x0001));
            timestamp-tag = reads timestamp_laid (rw length-le (looked_up 0x0002));
            firmware_type_tag = reads type_laid (rw length-le (looked_up 0x0030));
            hint_tag = reads hint_laid (rw hl (looked_up 0x0010 ∙ past_run 0x0010 refl));
            digest-tag = reads digest_laid (rw dl digest-found);
            signature_tag_lem = reads signature_laid (rw sl (looked_up 0x0020 ∙ past_run 0x0020 refl));
            custom_content = λ t m. content_in i 34 custom hint_on type_laid.after (let r = run.size in omega arith) t ((stays custom (length custom) 0).within t m);
            custom_found = λ t ts h.
                let m : named t.kind ≡ false = custom_kind (length custom) t.kind 0 (tags_of custom) t ts run.whole h in
                looked_up t.kind
                ∙ rw (differ' 0x0001 t.kind refl m, differ' 0x0002 t.kind refl m, differ' 0x0030 t.kind refl m)
                (first_of_run t.kind 34 (last_tags (length custom)) (tags_of custom) 25 t ts h);
          }

      pub covered-is : covered_of i ≡ covered_part fields firmware custom hint
      covered-is =
          let e : 70 + length custom + 4 - 4 ≡ 70 + length custom = omega arith in
          let c : List ℕ = covered_part fields firmware custom hint in
          ap (before_tag i) digest-found
          ∙ rw (e, is, append_assoc, append_assoc, append_assoc)
          (take_at c _ (70 + length custom) (covered_length fields firmware custom hint hl))

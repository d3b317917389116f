-- What the writer wrote reads back: the claim, over the definitions that the code is held to. Proved in proofs/Claim.antt.
use Rattle.std.specs.Prelude.{ℕ, ◌+◌, ◌^◌, ◌<◌, Bool, cond, Ok, ◌≡◌, length, take, drop}
use mathlib.Core.List.{List, [], ◌∷◌, ◌++◌, map, Memᴰ}
use Rattle.header.specs.Checks.{version_of}
use Rattle.header.specs.Lookup.{lookup, view_of, of_kind}
use Rattle.header.specs.Numbers.{number_at}
use Rattle.header.specs.Types.{version_type, timestamp_type, digest_type, hint_type, signature_type, firmware_type_type}
use Rattle.header.specs.Walk.{header_walk}
use Rattle.header.specs.declared.tags.Tag.{Tag}
use Rattle.image.specs.Verdict.{verdict}
use Rattle.writer.specs.Custom.{tags_of}
use Rattle.writer.specs.Layout.{le_bytes, digest_to_sign}
use Rattle.writer.specs.Writer.{write_check, buffer_after}
use Rattle.writer.specs.declared.Fields.{Fields}

-- the tag of type k that starts at place p and has n bytes of content
abbrev pub tag_of : ℕ → ℕ → ℕ → Tag
tag_of k p n = record { kind = k; at = p + 4; len = n; next = p + 4 + n }

-- a tag, o bytes further on
abbrev pub moved : ℕ → Tag → Tag
moved o t = record { kind = t.kind; at = o + t.at; len = t.len; next = o + t.next }

-- the tags of a written header in their order, with a run of custom tags
abbrev pub written_tags : List ℕ → List Tag
written_tags custom =
    (tag_of version_type 8 4 ∷ tag_of timestamp_type 16 8 ∷ tag_of firmware_type_type 28 2 ∷ [])
    ++ (map (moved 34) (tags_of custom)
    ++ (tag_of hint_type (34 + length custom) 32
    ∷ tag_of digest_type (70 + length custom) 32
    ∷ tag_of signature_type (106 + length custom) 64
    ∷ []))

abbrev pub content_at : List ℕ → Tag → List ℕ
content_at i t = take t.len (drop t.at i)

-- in the bytes i type k is found at place p, and its view is c
pub record Reads (i : List ℕ) (k p : ℕ) (c : List ℕ) : Type 0 where
  pub found : lookup i k ≡ Ok (tag_of k p (length c))
  pub shown : view_of i k ≡ c

-- what is read in the bytes i, which start with a header that was written
pub record HeaderReads (fields : Fields) (custom hint digest signature i : List ℕ) : Type 0 where
  pub walked : header_walk i ≡ record { tags = written_tags custom; number = 25 }
  pub version-tag : Reads i version_type 8 (le_bytes 4 fields.version)
  pub timestamp-tag : Reads i timestamp_type 16 (le_bytes 8 fields.timestamp)
  pub firmware_type_tag : Reads i firmware_type_type 28 (le_bytes 2 fields.firmware_type)
  pub hint_tag : Reads i hint_type (34 + length custom) hint
  pub digest-tag : Reads i digest_type (70 + length custom) digest
  pub signature_tag_lem : Reads i signature_type (106 + length custom) signature
  -- every custom tag has its content, and is found where it is the first of its type
  pub custom_content : (t : Tag) → Memᴰ t (tags_of custom) → content_at i (moved 34 t) ≡ content_at custom t
  pub custom_found : (t : Tag) (ts : List Tag) → of_kind t.kind (tags_of custom) ≡ t ∷ ts → lookup i t.kind ≡ Ok (moved 34 t)

-- a number's bytes are that number
abbrev pub NumbersRead : Type 0
NumbersRead = (n x : ℕ) → x < 256 ^ n → number_at n (le_bytes n x) 0 ≡ x

-- what is read of the header h and of the image that it heads
pub record ImageReads (fields : Fields) (firmware custom hint digest signature h : List ℕ) : Type 0 where
  pub header : HeaderReads fields custom hint digest signature h
  pub image : HeaderReads fields custom hint digest signature (h ++ firmware)
  pub version : fields.version < 2 ^ 32 → version_of (h ++ firmware) ≡ Ok fields.version
  pub verdict-is : (signed : Bool) → verdict (h ++ firmware) signed ≡ cond signed 0 18

-- Whatever the buffer held: where the writer's second call does not refuse, what it left there is read back.
abbrev pub ReadBack : Type 0
ReadBack =
    (buffer : List ℕ) (fields : Fields) (firmware custom hint signature : List ℕ) →
    write_check buffer firmware custom ≡ 0 →
    length hint ≡ 32 →
    length signature ≡ 64 →
    ImageReads fields firmware custom hint (digest_to_sign fields firmware custom hint) signature
    (buffer_after buffer fields firmware custom hint signature)

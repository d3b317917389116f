-- Document 01, "Header", writer: the header's pieces one after the other.
use Rattle.std.specs.Prelude.{ℕ, zero, suc, ◌-◌, ◌/◌, ◌%◌, List, [], ◌∷◌, ◌++◌, length, replicate}
use Rattle.header.specs.Types.{mark, version_type, timestamp_type, digest_type, hint_type, signature_type, firmware_type_type}
use Rattle.sha256.specs.Digest.{digest}
use Rattle.writer.specs.declared.Fields.{Fields}

-- the n low bytes of x, the lowest first
unfoldable pub le_bytes : ℕ → ℕ → List ℕ
le_bytes zero x = []
le_bytes (suc n) x = x % 256 ∷ le_bytes n (x / 256)

-- a tag: type, length, content
abbrev pub head_bytes : ℕ → ℕ → List ℕ
head_bytes kind n = le_bytes 2 kind ++ le_bytes 2 n

unfoldable pub tag_bytes : ℕ → List ℕ → List ℕ
tag_bytes kind content = head_bytes kind (length content) ++ content

-- the pieces at fixed places
abbrev pub fixed_part : Fields → List ℕ → List ℕ
fixed_part fields firmware =
    mark
    ++ le_bytes 4 (length firmware)
    ++ tag_bytes version_type (le_bytes 4 fields.version)
    ++ tag_bytes timestamp_type (le_bytes 8 fields.timestamp)
    ++ tag_bytes firmware_type_type (le_bytes 2 fields.firmware_type)

-- what the digest covers of the header: everything before the digest tag
unfoldable pub covered_part : Fields → List ℕ → List ℕ → List ℕ → List ℕ
covered_part fields firmware custom hint = fixed_part fields firmware ++ custom ++ tag_bytes hint_type hint

-- the 32 bytes to be signed
unfoldable pub digest_to_sign : Fields → List ℕ → List ℕ → List ℕ → List ℕ
digest_to_sign fields firmware custom hint = digest (covered_part fields firmware custom hint ++ firmware)

-- the whole header
unfoldable pub written : Fields → List ℕ → List ℕ → List ℕ → List ℕ → List ℕ
written fields firmware custom hint signature =
    covered_part fields firmware custom hint
    ++ tag_bytes digest_type (digest_to_sign fields firmware custom hint)
    ++ tag_bytes signature_type signature
    ++ replicate (82 - length custom) 0xFF

-- Document 01, "Header" and "Numbers given back": the verdict on an image.
use Rattle.std.specs.Prelude.{ℕ, Bool, cond, List, [], ◌∷◌, ◌++◌, take, drop}
use Rattle.compare.specs.Compare.{same}
use Rattle.header.specs.Checks.{first_refusal, size_of, header_check}
use Rattle.header.specs.Lookup.{view_of, covered_of}
use Rattle.header.specs.Types.{digest_type}
use Rattle.sha256.specs.Digest.{digest}

-- the firmware: from 256 on, as many bytes as the size says
abbrev pub firmware_of : List ℕ → List ℕ
firmware_of i = take (size_of i) (drop 256 i)

-- the bytes from 0 up to the type of the first digest tag, followed by the firmware
abbrev pub message_of : List ℕ → List ℕ
message_of i = covered_of i ++ firmware_of i

-- SHA-256 over them
unfoldable pub digest_of : List ℕ → List ℕ
digest_of i = digest (message_of i)

abbrev pub digest_check : List ℕ → ℕ
digest_check i = cond (same (view_of i digest_type) (digest_of i)) 0 17

abbrev pub signature_check : Bool → ℕ
signature_check signed = cond signed 0 18

-- the number of the first check that an image fails, and 0 where it passes
unfoldable pub verdict : List ℕ → Bool → ℕ
verdict i signed = first_refusal (header_check i ∷ digest_check i ∷ signature_check signed ∷ [])

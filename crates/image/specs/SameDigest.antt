-- Document 02, R-2: what two images that pass with the same digest have in common, unless SHA-256 collides on them. A signature is over
-- the digest, so this is what it stands for.
use Rattle.std.specs.Prelude.{ℕ, true, List, ◌≡◌}
use Rattle.header.specs.Checks.{version_of}
use Rattle.header.specs.Lookup.{view_of, covered_of}
use Rattle.header.specs.Types.{timestamp_type, digest_type, firmware_type_type}
use Rattle.sha256.specs.Digest.{digest}
use Rattle.image.specs.Verdict.{firmware_of, message_of, verdict}

-- two messages that do not collide
abbrev pub NoCollision : List ℕ → List ℕ → Type 0
NoCollision m n = digest m ≡ digest n → m ≡ n

-- the same in all that the digest covers; and so the three mandatory contents are the same
pub record Alike (i j : List ℕ) : Type 0 where
  pub covered : covered_of i ≡ covered_of j
  pub firmware : firmware_of i ≡ firmware_of j
  pub version : version_of i ≡ version_of j
  pub timestamp : view_of i timestamp_type ≡ view_of j timestamp_type
  pub «firmware-type» : view_of i firmware_type_type ≡ view_of j firmware_type_type

-- Proved in proofs/SameDigest.antt.
abbrev pub DigestTells : Type 0
DigestTells =
    (i j : List ℕ) →
    verdict i true ≡ 0 →
    verdict j true ≡ 0 →
    view_of i digest_type ≡ view_of j digest_type →
    NoCollision (message_of i) (message_of j) →
    Alike i j

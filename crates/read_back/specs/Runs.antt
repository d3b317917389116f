-- Which runs of custom tags the writer accepts: at most 82 bytes of whole tags of allowed types, one after the other, and no others.
-- Proved in proofs/Runs.antt.
use Rattle.std.specs.Prelude.{ℕ, ◌%◌, ◌<◌, ◌≤◌, false, List, [], ◌∷◌, ◌++◌, ◌≡◌, length}
use Rattle.header.specs.Numbers.{byte_at}
use Rattle.writer.specs.Custom.{named, custom_check}
use Rattle.writer.specs.Layout.{tag_bytes}

-- a tag that is to be written
pub record Entry : Type 0 where
  pub kind : ℕ
  pub content : List ℕ

-- not of type 0000, with a low type byte FF, or of a named type; type and length have two bytes
pub record Allowed (e : Entry) : Type 0 where
  pub typed : e.kind ≡ 0 → ⊥
  pub unpadded : e.kind % 256 ≡ 0xFF → ⊥
  pub unnamed : named e.kind ≡ false
  pub kind_fits : e.kind < 65536
  pub length-fits : length e.content < 65536

pub data AllAllowed : List Entry → Type 0 where
  none : AllAllowed []
  one : {e : Entry} {es : List Entry} → Allowed e → AllAllowed es → AllAllowed (e ∷ es)

unfoldable pub encode : List Entry → List ℕ
encode [] = []
encode (e ∷ es) = tag_bytes e.kind e.content ++ encode es

-- bytes that are allowed tags, one after the other
pub record Made (run : List ℕ) : Type 0 where
  pub entries : List Entry
  pub allowed : AllAllowed entries
  pub same : run ≡ encode entries

pub record Runs : Type 0 where
  pub accepted : (es : List Entry) → AllAllowed es → length (encode es) ≤ 82 → custom_check (encode es) ≡ 0
  pub no_others : (run : List ℕ) → ((p : ℕ) → byte_at run p < 256) → custom_check run ≡ 0 → Made run

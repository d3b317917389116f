-- What C gets of a header: a tag's place, a tag of a list, and the version.
use Rattle.std.specs.Prelude.{ℕ, Bool, cond, Option, Some, None, Result, Ok, Err}
use Rattle.header.specs.declared.tags.Tag.{Tag}
use Rattle.frondicare.specs.declared.FlatVersion.{FlatVersion}
use Rattle.frondicare.specs.declared.list_entries.ListedTag.{ListedTag}
use Rattle.frondicare.specs.declared.TagPlace.{TagPlace}

-- the number 0 and where the tag's content lies, or document 01's number and zeros
abbrev pub place_of : Result Tag ℕ → TagPlace
place_of (Ok t) = record { number = 0; at = t.at; len = t.len }
place_of (Err n) = record { number = n; at = 0; len = 0 }

-- a type counts where any is not asked for
abbrev pub wanted_by : Bool → ℕ → Option ℕ
wanted_by any k = cond any None (Some k)

-- the number 0 and the tag, or the papers' number and zeros
abbrev pub listed_tag : Result Tag ℕ → ListedTag
listed_tag (Ok t) = record { number = 0; kind = t.kind; at = t.at; len = t.len; next = t.next }
listed_tag (Err n) = record { number = n; kind = 0; at = 0; len = 0; next = 0 }

-- the number 0 and the version, or document 01's number and 0
abbrev pub flat_version : Result ℕ ℕ → FlatVersion
flat_version (Ok v) = record { number = 0; version = v }
flat_version (Err n) = record { number = n; version = 0 }

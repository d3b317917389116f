-- Document 01, "Header": the image mark, and the types that it names. A tag's type is a kind in the code, where type is a word of the
-- language.
use Rattle.std.specs.Prelude.{ℕ, List, [], ◌∷◌}

abbrev pub mark : List ℕ
mark = 0x57 ∷ 0x4F ∷ 0x4C ∷ 0x46 ∷ []

abbrev pub version_type : ℕ
version_type = 0x0001

abbrev pub timestamp_type : ℕ
timestamp_type = 0x0002

abbrev pub digest_type : ℕ
digest_type = 0x0003

abbrev pub hint_type : ℕ
hint_type = 0x0010

abbrev pub signature_type : ℕ
signature_type = 0x0020

abbrev pub firmware_type_type : ℕ
firmware_type_type = 0x0030

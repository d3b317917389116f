-- Document 01, "Header", writer: the lent run of custom tags.
use Rattle.std.specs.Prelude.{ℕ, ◌+◌, Bool, cond, not, ◌&&◌, ◌||◌, List, [], ◌∷◌, ltb, eqb, length}
use Rattle.header.specs.Types.{version_type, timestamp_type, digest_type, hint_type, signature_type, firmware_type_type}
use Rattle.header.specs.Walk.{walk}
use Rattle.header.specs.declared.tags.Tag.{Tag}

-- the types that document 01 names
abbrev pub named : ℕ → Bool
named k = eqb k version_type || eqb k timestamp_type || eqb k digest_type || eqb k hint_type || eqb k signature_type || eqb k firmware_type_type

-- The tags of a run: those that the header's walk meets in it. So none passes the run's end, has type 0000 or the low type byte FF (WalksStay).
abbrev pub tags_of : List ℕ → List Tag
tags_of run = (walk run (length run) 0).tags

-- whether tags stand one right behind the other from place p up to place e, none of a named type
unfoldable pub well_formed : ℕ → ℕ → List Tag → Bool
well_formed e p [] = eqb p e
well_formed e p (t ∷ ts) = eqb t.at (p + 4) && (not (named t.kind) && well_formed e t.next ts)

-- 26: over 82 bytes; 27: ill-formed
unfoldable pub custom_check : List ℕ → ℕ
custom_check run = cond (ltb 82 (length run)) 26 (cond (well_formed (length run) 0 (tags_of run)) 0 27)

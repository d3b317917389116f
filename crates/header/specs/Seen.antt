-- The code's own, in no promise to a caller: the mandatory types and what the digest covers checked in one walk, tag by tag.
use Rattle.std.specs.Prelude.{ℕ, Bool, false, cond, ◌&&◌, ◌||◌, [], ◌∷◌, ◌++◌, map, Result, Ok, Err, ⊤, eqb}
use Rattle.refusal.specs.Numbers.{number_or_zero}
use Rattle.refusal.specs.declared.Refusal.TheVariants as R
use Rattle.refusal.specs.declared.Refusal.{Refusal}
use Rattle.header.specs.Checks.{first_refusal, Mandatory, mandatory}
use Rattle.header.specs.Types.{version_type, timestamp_type, digest_type, firmware_type_type}
use Rattle.header.specs.declared.checks.Required.{Required}
use Rattle.header.specs.declared.checks.Seen.{Seen}
use Rattle.header.specs.declared.tags.Tag.{Tag}

-- what the tags of a mandatory type come to: missing before any, then by the first one's length, then repeated
abbrev pub State : Type 0
State = Result ⊤ Refusal

abbrev pub missing : State → Bool
missing x = eqb (number_or_zero x) 14

-- a type's state after one more tag
abbrev pub state_after : Mandatory → State → Tag → State
state_after m x t =
    cond (eqb t.kind m.kind) (cond (missing x) (cond (eqb t.len m.len) (Ok tt) (Err R.TagLength)) (Err R.TagRepeated)) x

abbrev pub required_after : Required → Tag → Required
required_after r t =
    record { kind = r.kind; len = r.len; state = state_after (record { kind = r.kind; len = r.len }) r.state t }

-- whether the digest has to cover a tag of this type
abbrev pub must_be_covered : ℕ → Bool
must_be_covered k = eqb k version_type || eqb k timestamp_type || eqb k firmware_type_type

-- whether such a tag was met behind a digest tag, after one more tag; d says whether a digest tag was met before it
abbrev pub uncovered_after : Bool → Bool → Tag → Bool
uncovered_after d u t = u || (d && must_be_covered t.kind)

abbrev pub unseen : Mandatory → Required
unseen m = record { kind = m.kind; len = m.len; state = Err R.TagMissing }

abbrev pub nothing_seen : Seen
nothing_seen = record { required = map unseen mandatory; digest_met = false; uncovered = false }

abbrev pub seen_after : Seen → Tag → Seen
seen_after s t =
    record {
      required = map (λ (r : Required). required_after r t) s.required;
      digest_met = s.digest_met || eqb t.kind digest_type;
      uncovered = uncovered_after s.digest_met s.uncovered t;
    }

abbrev pub first_seen : Seen → ℕ
first_seen s = first_refusal (map (λ (r : Required). number_or_zero r.state) s.required ++ cond s.uncovered 30 0 ∷ [])

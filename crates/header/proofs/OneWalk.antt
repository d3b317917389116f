-- The mandatory types checked in one walk: what is seen tag by tag comes to what the tags of each type say.
-- Assumes nothing.
use Prim.Native.Nat.{ℕ}
use mathlib.Core.Bool.{Bool, true, false, cond, ◌||◌}
use mathlib.Core.List.{List, [], ◌∷◌, map}
use mathlib.Core.Path.{◌≡◌, refl, ap, ◌∙◌}
use lib.Dec.{eqb}
use Rattle.header.specs.Checks.{first_refusal, walk_check, mandatory_check, Mandatory, version_tag, timestamp_tag, digest_tag, signature_tag, firmware_tag, mandatory, tags_check, coverage_check}
use Rattle.header.specs.Lookup.{of_kind}
use Rattle.std.specs.Prelude.{Ok, Err}
use Rattle.refusal.specs.Numbers.{number_or_zero}
use Rattle.refusal.specs.declared.Refusal.TheVariants as R
use Rattle.header.specs.Seen.{State, missing, state_after, required_after, unseen, uncovered_after, nothing_seen, seen_after, first_seen}
use Rattle.header.specs.Types.{digest_type}
use Rattle.header.specs.Walk.{Walk}
use Rattle.header.specs.declared.checks.Required.{Required}
use Rattle.header.specs.declared.checks.Seen.{Seen}
use Rattle.header.specs.declared.tags.Tag.{Tag}
use Rattle.compare.proofs.Tests.{by_test}
use Rattle.header.proofs.Behind.{uncovered_all, coverage_told}
use Rattle.header.proofs.Order.{Ordered}
use Rattle.header.proofs.Refusals.{first_one, then_last}

-- a type's state after some tags
abbrev states_after : Mandatory → State → List Tag → State
states_after m x [] = x
states_after m x (t ∷ ts) = states_after m (state_after m x t) ts

module _ (m : Mandatory) where
  repeated : (ts : List Tag) → states_after m (Err R.TagRepeated) ts ≡ Err R.TagRepeated
  repeated [] = refl
  repeated (t ∷ ts) =
      by_test (λ (x : State). states_after m x ts ≡ Err R.TagRepeated) (eqb t.kind m.kind) (λ b. repeated ts) (λ b. repeated ts)

  once :
      (x : State) (t : Tag) (ts : List Tag) →
      missing x ≡ false →
      number_or_zero x ≡ cond (eqb t.len m.len) 0 16 →
      number_or_zero (states_after m x ts) ≡ mandatory_check m.len (t ∷ of_kind m.kind ts)
  once x t [] d e = e
  once x t (u ∷ ts) d e = go (eqb u.kind m.kind) refl (once x t ts d e)
    where
      go :
          (b : Bool) →
          eqb u.kind m.kind ≡ b →
          number_or_zero (states_after m x ts) ≡ mandatory_check m.len (t ∷ of_kind m.kind ts) →
          number_or_zero (states_after m x (u ∷ ts)) ≡ mandatory_check m.len (t ∷ of_kind m.kind (u ∷ ts))
      go true q ih = rw (q, d) (ap number_or_zero (repeated ts))
      go false q ih = rw q ih

  seen_of : (ts : List Tag) → number_or_zero (states_after m (Err R.TagMissing) ts) ≡ mandatory_check m.len (of_kind m.kind ts)
  seen_of [] = refl
  seen_of (t ∷ ts) = go (eqb t.kind m.kind) refl (seen_of ts)
    where
      first : Bool → State
      first b = cond b (Ok tt) (Err R.TagLength)

      fits : (b : Bool) → missing (first b) ≡ false
      fits true = refl
      fits false = refl

      number : (b : Bool) → number_or_zero (first b) ≡ cond b 0 16
      number true = refl
      number false = refl

      go :
          (b : Bool) →
          eqb t.kind m.kind ≡ b →
          number_or_zero (states_after m (Err R.TagMissing) ts) ≡ mandatory_check m.len (of_kind m.kind ts) →
          number_or_zero (states_after m (Err R.TagMissing) (t ∷ ts)) ≡ mandatory_check m.len (of_kind m.kind (t ∷ ts))
      go true q ih = rw q (once (first (eqb t.len m.len)) t ts (fits (eqb t.len m.len)) (number (eqb t.len m.len)))
      go false q ih = rw q ih

-- a type of the code after some tags
abbrev required_all : Required → List Tag → Required
required_all r [] = r
required_all r (t ∷ ts) = required_all (required_after r t) ts

state_all : (r : Required) (ts : List Tag) → (required_all r ts).state ≡ states_after (record { kind = r.kind; len = r.len }) r.state ts
state_all r [] = refl
state_all r (t ∷ ts) = state_all (required_after r t) ts

told : (m : Mandatory) (ts : List Tag) → number_or_zero (required_all (unseen m) ts).state ≡ mandatory_check m.len (of_kind m.kind ts)
told m ts = rw (state_all (unseen m) ts) (seen_of m ts)

abbrev pub seen_all : Seen → List Tag → Seen
seen_all s [] = s
seen_all s (t ∷ ts) = seen_all (seen_after s t) ts

-- each type by itself
each : (r : Required) (rs : List Required) (d u e v : Bool) (ts : List Tag) →
    (seen_all (record { required = r ∷ rs; digest_met = d; uncovered = u }) ts).required ≡
    required_all r ts ∷ (seen_all (record { required = rs; digest_met = e; uncovered = v }) ts).required
each r rs d u e v [] = refl
each r rs d u e v (t ∷ ts) = each (required_after r t) (map (λ (r : Required). required_after r t) rs) _ _ _ _ ts

no_types : (d u : Bool) (ts : List Tag) → (seen_all (record { required = []; digest_met = d; uncovered = u }) ts).required ≡ []
no_types d u [] = refl
no_types d u (t ∷ ts) = no_types (d || eqb t.kind digest_type) (uncovered_after d u t) ts

all_types : (rs : List Required) (d u : Bool) (ts : List Tag) →
    (seen_all (record { required = rs; digest_met = d; uncovered = u }) ts).required ≡ map (λ (r : Required). required_all r ts) rs
all_types [] d u ts = no_types d u ts
all_types (r ∷ rs) d u ts = each r rs d u d u ts ∙ rw (all_types rs d u ts)

uncovered_seen : (s : Seen) (ts : List Tag) → (seen_all s ts).uncovered ≡ uncovered_all digest_tag s.digest_met s.uncovered ts
uncovered_seen s [] = refl
uncovered_seen s (t ∷ ts) = uncovered_seen (seen_after s t) ts

-- what the checks of a walk come to, where some tags were seen before it
abbrev pub checked : Seen → Walk → ℕ
checked s w = first_refusal (walk_check w.number ∷ first_seen (seen_all s w.tags) ∷ [])

tags_checked : (ts : List Tag) → Ordered ts → first_seen (seen_all nothing_seen ts) ≡ first_refusal (tags_check ts ∷ coverage_check ts ∷ [])
unfolding tags_check
tags_checked ts o =
    rw (
      all_types nothing_seen.required false false ts,
      uncovered_seen nothing_seen ts,
      told version_tag ts,
      told timestamp_tag ts,
      told digest_tag ts,
      told signature_tag ts,
      told firmware_tag ts,
    ) (then_last (map (λ (m : Mandatory). mandatory_check m.len (of_kind m.kind ts)) mandatory) _ _ (coverage_told ts o))

pub all_checked :
    (w : Walk) →
    Ordered w.tags →
    checked nothing_seen w ≡ first_refusal (walk_check w.number ∷ tags_check w.tags ∷ coverage_check w.tags ∷ [])
all_checked w o = rw (tags_checked w.tags o, first_one)

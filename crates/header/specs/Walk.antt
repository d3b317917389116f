-- Document 01, "Header": the walk over the tags, as the list of the tags that it meets and how it ended.
use Rattle.std.specs.Prelude.{ℕ, zero, suc, ◌+◌, ◌-◌, ◌≤◌, cond, ◌⊎◌, ◌≡◌, Result, Ok, Err, ltb, leb, eqb}
use mathlib.Core.List.{List, [], ◌∷◌, Memᴰ}
use Rattle.header.specs.Numbers.{byte_at, number_at}
use Rattle.header.specs.declared.tags.Tag.{Tag}
use Rattle.header.specs.declared.tags.WalkStep.TheVariants.{Padding, Met}
use Rattle.header.specs.declared.tags.WalkStep.{WalkStep}

-- the tag at place p: type, then length, then content; the walk goes on behind that
abbrev pub tag_at : List ℕ → ℕ → Tag
tag_at s p =
    record {
      kind = number_at 2 s p;
      at = p + 4;
      len = number_at 2 s (p + 2);
      next = p + 4 + number_at 2 s (p + 2);
    }

-- One step at place p, where the tags end at place e, in a header 256. It stops with 25 at the walk's end, with 13 where a tag passes e.
unfoldable pub step_at : List ℕ → ℕ → ℕ → Result WalkStep ℕ
step_at s e p =
    cond (leb e p) (Err 25)
    (cond (eqb (byte_at s p) 0xFF) (Ok (Padding (p + 1)))
    (cond (ltb e (p + 4)) (Err 13)
    (cond (eqb (number_at 2 s p) 0) (Err 25)
    (cond (ltb e (p + 4 + number_at 2 s (p + 2))) (Err 13)
    (Ok (Met (tag_at s p)))))))

pub record Walk : Type 0 where
  pub tags : List Tag
  pub number : ℕ

-- the walk that goes on from a step; rest is the walk from a later place
abbrev pub on_step : (ℕ → Walk) → Result WalkStep ℕ → Walk
on_step rest (Err n) = record { tags = []; number = n }
on_step rest (Ok (Padding p)) = rest p
on_step rest (Ok (Met t)) = record { tags = t ∷ (rest t.next).tags; number = (rest t.next).number }

-- the walk from place p, if it has no more than k steps
unfoldable pub walk_in : ℕ → List ℕ → ℕ → ℕ → Walk
walk_in zero s e p = record { tags = []; number = 25 }
walk_in (suc k) s e p = on_step (walk_in k s e) (step_at s e p)

-- The walk from place p. Each step but the last goes to a later place, none beyond e, so there are never more than e + 1: the walk is its
-- first step and the walk from there (steps, in WalksStay).
unfoldable pub walk : List ℕ → ℕ → ℕ → Walk
walk s e p = walk_in (suc e) s e p

-- a header's tags start at 8 and end at 256
abbrev pub header_walk : List ℕ → Walk
header_walk h = walk h 256 8

-- A walk is its first step and the walk from there; it ends with 13 or 25; and every tag that it meets stands in the bytes, behind place p
-- and not beyond e, leads on to right behind its content, has a type other than 0000 and no low type byte FF.
pub record Stays (s : List ℕ) (e p : ℕ) : Type 0 where
  pub steps : walk s e p ≡ on_step (walk s e) (step_at s e p)
  pub ends : ((walk s e p).number ≡ 13) ⊎ ((walk s e p).number ≡ 25)
  pub stands : (t : Tag) → Memᴰ t (walk s e p).tags → t ≡ tag_at s (t.at - 4)
  pub behind : (t : Tag) → Memᴰ t (walk s e p).tags → p + 4 ≤ t.at
  pub within : (t : Tag) → Memᴰ t (walk s e p).tags → t.at + t.len ≤ e
  pub leads : (t : Tag) → Memᴰ t (walk s e p).tags → t.next ≡ t.at + t.len
  pub typed : (t : Tag) → Memᴰ t (walk s e p).tags → t.kind ≡ 0 → ⊥
  pub unpadded : (t : Tag) → Memᴰ t (walk s e p).tags → byte_at s (t.at - 4) ≡ 0xFF → ⊥

-- Proved in proofs/Shown.antt.
abbrev pub WalksStay : Type 0
WalksStay = (s : List ℕ) (e p : ℕ) → Stays s e p

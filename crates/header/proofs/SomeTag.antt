-- Whether some tag of a list has a property, and which types its tags have.
-- Assumes nothing.
use Prim.Native.Nat.{ℕ}
use mathlib.Core.Bool.{Bool, true, false, cond, ◌||◌}
use mathlib.Core.List.{List, [], ◌∷◌}
use mathlib.Core.Path.{◌≡◌, refl}
use lib.Dec.{eqb}
use Rattle.compare.proofs.Tests.{never}
use Rattle.header.specs.Lookup.{of_kind}
use Rattle.header.specs.declared.tags.Tag.{Tag}

-- whether one of some tags is as asked
abbrev pub some : (Tag → Bool) → List Tag → Bool
some f [] = false
some f (t ∷ ts) = f t || some f ts

pub some_or : (f g : Tag → Bool) (ts : List Tag) → some (λ (t : Tag). f t || g t) ts ≡ (some f ts || some g ts)
some_or f g [] = refl
some_or f g (t ∷ ts) = rw (some_or f g ts) (go (f t) (g t) (some f ts) (some g ts))
  where
    go : (a b c d : Bool) → (a || b || (c || d)) ≡ (a || c || (b || d))
    go true b c d = refl
    go false true true d = refl
    go false true false d = refl
    go false false c d = refl

abbrev not_empty : List Tag → Bool
not_empty [] = false
not_empty (t ∷ ts) = true

pub neither_right : (a b : Bool) → (a || b) ≡ false → b ≡ false
neither_right true b e = never e
neither_right false b e = e

abbrev pub has_type : ℕ → Tag → Bool
has_type k t = eqb t.kind k

-- whether there is a tag of a type, by the list of them
pub has : (k : ℕ) (ts us : List Tag) → of_kind k ts ≡ us → some (has_type k) ts ≡ not_empty us
has k [] us e = rw (← e)
has k (t ∷ ts) us e = rw (← e) (go (eqb t.kind k) (has k ts (of_kind k ts) refl))
  where
    go : (b : Bool) → some (has_type k) ts ≡ not_empty (of_kind k ts) → (b || some (has_type k) ts) ≡ not_empty (cond b (t ∷ of_kind k ts) (of_kind k ts))
    go true ih = refl
    go false ih = ih

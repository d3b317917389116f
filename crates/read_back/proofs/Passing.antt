-- Lookups among tags that are partly passed over: no custom tag has a named type, and no named tag a custom one.
-- Assumes nothing.
use Prim.Native.Nat.{ℕ, ◌+◌}
use mathlib.Core.Bool.{true, false, cond, not, ◌&&◌}
use mathlib.Core.List.{List, [], ◌∷◌, ◌++◌, map, cons-ne-nil}
use mathlib.Core.Path.{◌≡◌, refl, sym, ap, ◌∙◌}
use lib.Dec.{eqb}
use borrow.Author.Tests.{not-true, eqb-true, ne_eqb}
use Rattle.header.specs.Lookup.{first_in, of_kind}
use Rattle.std.specs.Prelude.{Result, Ok, Some}
use Rattle.header.specs.declared.tags.Tag.{Tag}
use Rattle.writer.specs.Custom.{named, well_formed}
use Rattle.compare.proofs.Tests.{by_test, never, and_left, and_right}
use Rattle.read_back.specs.ReadBack.{moved}

-- types of which one is named and the other is not differ
pub differ : (k m : ℕ) → named k ≡ true → named m ≡ false → eqb m k ≡ false
differ k m a b = ne_eqb m k (λ e. never (sym a ∙ ap named (sym e) ∙ b))

pub differ' : (k m : ℕ) → named k ≡ true → named m ≡ false → eqb k m ≡ false
differ' k m a b = ne_eqb k m (λ e. never (sym a ∙ ap named e ∙ b))

-- the first tag of a run, and the rest of it
module _ (e p : ℕ) (t : Tag) (ts : List Tag) (w : well_formed e p (t ∷ ts) ≡ true) where
  both : (not (named t.kind) && well_formed e t.next ts) ≡ true
  unfolding well_formed
  both = and_right (eqb t.at (p + 4)) _ w

  pub head_custom : named t.kind ≡ false
  head_custom = not-true _ (and_left _ (well_formed e t.next ts) both)

  pub rest_whole : well_formed e t.next ts ≡ true
  rest_whole = and_right (not (named t.kind)) _ both

-- a named type is looked up past the custom tags
module _ (k : ℕ) (name : named k ≡ true) (e o : ℕ) (us : List Tag) where
  pub first_past :
      (p : ℕ) (ts : List Tag) (n : ℕ) → well_formed e p ts ≡ true → first_in (Some k) (map (moved o) ts ++ us) n ≡ first_in (Some k) us n
  first_past p [] n w = refl
  first_past p (t ∷ ts) n w =
      rw (differ k t.kind name (head_custom e p t ts w)) (first_past t.next ts n (rest_whole e p t ts w))

  pub kind_past : (p : ℕ) (ts : List Tag) → well_formed e p ts ≡ true → of_kind k (map (moved o) ts ++ us) ≡ of_kind k us
  kind_past p [] w = refl
  kind_past p (t ∷ ts) w =
      rw (differ k t.kind name (head_custom e p t ts w)) (kind_past t.next ts (rest_whole e p t ts w))

same_head : {t u : Tag} {ts us : List Tag} → t ∷ ts ≡ u ∷ us → t ≡ u
same_head e = cc

-- a tag of a run that is the first of its type is found there
module _ (k o : ℕ) (us : List Tag) where
  pub first_of_run :
      (ts : List Tag) (n : ℕ) (t : Tag) (vs : List Tag) →
      of_kind k ts ≡ t ∷ vs →
      first_in (Some k) (map (moved o) ts ++ us) n ≡ Ok (moved o t)
  first_of_run [] n t vs h = absurd (cons-ne-nil t vs (sym h))
  first_of_run (u ∷ ts) n t vs h =
      by_test
      (λ (r : List Tag). r ≡ t ∷ vs → ◌≡◌ {A = Result Tag ℕ} (cond (eqb u.kind k) (Ok (moved o u)) (first_in (Some k) (map (moved o) ts ++ us) n)) (Ok (moved o t)))
      (eqb u.kind k)
      (λ b q. rw b (ap (λ (t : Tag). Ok (moved o t)) (same_head q)))
      (λ b q. rw b (first_of_run ts n t vs q))
      h

-- and its type is not a named one
pub custom_kind :
    (e k p : ℕ) (ts : List Tag) (t : Tag) (vs : List Tag) → well_formed e p ts ≡ true → of_kind k ts ≡ t ∷ vs → named k ≡ false
custom_kind e k p [] t vs w h = absurd (cons-ne-nil t vs (sym h))
custom_kind e k p (u ∷ ts) t vs w h =
    by_test (λ (r : List Tag). r ≡ t ∷ vs → named k ≡ false) (eqb u.kind k)
    (λ b q. rw (← eqb-true u.kind k b) (head_custom e p u ts w))
    (λ b q. custom_kind e k u.next ts t vs (rest_whole e p u ts w) q)
    h

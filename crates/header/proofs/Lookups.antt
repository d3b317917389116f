-- Laws of a lookup: how it goes on from a step of the walk, and what is known of the tag that it finds.
-- Assumes nothing.
use Prim.Native.Nat.{ℕ, ◌<◌, ◌≤◌}
use mathlib.Core.Bool.{true, false}
use mathlib.Core.List.{List}
use mathlib.Core.Logic.{◌⊎◌, inl, inr}
use mathlib.Core.Path.{◌≡◌, refl, sym, ap, subst, ◌∙◌}
use native.Mathlib.Omega.{arith}
use lib.Dec.{ltb}
use lib.ListN.{length, length-take}
use borrow.Author.Tests.{lt-ltb, le-ltb, ltb-false}
use Rattle.std.specs.Prelude.{Option, None, Some, Result, Ok, Err}
use Rattle.header.specs.Lookup.{matches, first, lookup_from, lookup, before_tag, covered_of}
use Rattle.header.specs.Walk.{step_at, Walk, on_step, walk}
use Rattle.header.specs.declared.tags.Tag.{Tag}
use Rattle.header.specs.declared.tags.WalkStep.TheVariants.{Padding, Met}
use Rattle.header.specs.declared.tags.WalkStep.{WalkStep}
use Rattle.compare.proofs.Tests.{by_test}
use Rattle.header.proofs.Walk.{Good, meets, stopped, walk_step, walk_ind}

-- the four ways in which a lookup goes on from a step
module _ (s : List ℕ) (e p : ℕ) (v : Option ℕ) where
  step_of : {w : Result WalkStep ℕ} → step_at s e p ≡ w → first v (walk s e p) ≡ first v (on_step (walk s e) w)
  step_of q = ap (first v) (walk_step s e p ∙ ap (on_step (walk s e)) q)

  pub stops : {n : ℕ} → step_at s e p ≡ Err n → first v (walk s e p) ≡ Err n
  stops q = step_of q

  pub pads : {n : ℕ} → step_at s e p ≡ Ok (Padding n) → first v (walk s e p) ≡ first v (walk s e n)
  pads q = step_of q

  pub finds : {t : Tag} → step_at s e p ≡ Ok (Met t) → matches v t.kind ≡ true → first v (walk s e p) ≡ Ok t
  finds q h = step_of q ∙ simp h

  pub passes : {t : Tag} → step_at s e p ≡ Ok (Met t) → matches v t.kind ≡ false → first v (walk s e p) ≡ first v (walk s e t.next)
  passes q h = step_of q ∙ simp h

pub not_found : {A : Type 0} {n : ℕ} {t : Tag} → Err n ≡ Ok t → A
not_found e = absurd (let z : ◌≡◌ {A = ℕ} 0 1 = cc in omega arith)

-- the first tag of any type is the walk's first, and leads on to the rest of the walk; with none, the walk stops at once
pub first_any : (s : List ℕ) (e p : ℕ) {t : Tag} → first None (walk s e p) ≡ Ok t → walk s e p ≡ meets t (walk s e t.next)
first_any s e p {t} =
    walk_ind s e (λ (q : ℕ) (w : Walk). first None w ≡ Ok t → w ≡ meets t (walk s e t.next))
    (λ q n d h. not_found h)
    (λ q n l m ih h. ih h)
    (λ q u g ih h. let same : u ≡ t = cc in rw same)
    p

pub first_none : (s : List ℕ) (e p : ℕ) {n : ℕ} → first None (walk s e p) ≡ Err n → walk s e p ≡ stopped n
first_none s e p {n} =
    walk_ind s e (λ (q : ℕ) (w : Walk). first None w ≡ Err n → w ≡ stopped n)
    (λ q m d h. let same : m ≡ n = cc in rw same)
    (λ q m l k ih h. ih h)
    (λ q u g ih h. not_found (sym h))
    p

-- a tag that is met from a later place on
pub later : {s : List ℕ} {e p q : ℕ} {t : Tag} → p ≤ q → Good s e q t → Good s e p t
later l g = record { is = g.is; typed = g.typed; unpadded = g.unpadded; starts = omega arith; leads = g.leads; inside = g.inside }

-- a tag that a lookup finds is one that the walk meets
pub found_good : (s : List ℕ) (e p : ℕ) (v : Option ℕ) {t : Tag} → first v (walk s e p) ≡ Ok t → Good s e p t
found_good s e p v {t} =
    walk_ind s e (λ (q : ℕ) (w : Walk). first v w ≡ Ok t → Good s e q t)
    (λ q n d h. not_found h)
    (λ q n l m ih h. later (omega arith) (ih h))
    (λ q u g ih.
    by_test (λ (r : Result Tag ℕ). r ≡ Ok t → Good s e q t) (matches v u.kind)
    (λ b h. let same : u ≡ t = cc in subst (Good s e q) same g)
    (λ b h. later (omega arith) (ih h)))
    p

-- the three ways in which a lookup begins: the header is too short, the start is none, or the walk from there
pub too_short : (h : List ℕ) (p : ℕ) (v : Option ℕ) → length h < 256 → lookup_from h p v ≡ Err 10
unfolding lookup_from
too_short h p v l = simp (lt-ltb (length h) 256 l)

pub bad_start : (h : List ℕ) (p : ℕ) (v : Option ℕ) → 256 ≤ length h → (p < 8) ⊎ (256 < p) → lookup_from h p v ≡ Err 31
unfolding lookup_from
bad_start h p v long (inl l) = simp (le-ltb (length h) 256 long, lt-ltb p 8 l)
bad_start h p v long (inr l) = simp (le-ltb (length h) 256 long, le-ltb p 8 (omega arith), lt-ltb 256 p l)

pub walked : (h : List ℕ) (p : ℕ) (v : Option ℕ) → 256 ≤ length h → 8 ≤ p → p ≤ 256 → lookup_from h p v ≡ first v (walk h 256 p)
unfolding lookup_from
walked h p v l a b = simp (le-ltb (length h) 256 l, le-ltb p 8 a, le-ltb 256 p b)

-- the old lookup
pub long_enough : (h : List ℕ) (k : ℕ) → 256 ≤ length h → lookup h k ≡ first (Some k) (walk h 256 8)
unfolding lookup
long_enough h k l = walked h 8 (Some k) l (omega arith) (omega arith)

-- what is known of a tag that is looked up from place p on
pub record FoundFrom (h : List ℕ) (p : ℕ) (t : Tag) : Type 0 where
  pub long : 256 ≤ length h
  pub good : Good h 256 p t

pub found_from : (h : List ℕ) (p : ℕ) (v : Option ℕ) {t : Tag} → lookup_from h p v ≡ Ok t → FoundFrom h p t
unfolding lookup_from
found_from h p v {t} =
    by_test Is (ltb (length h) 256) (λ b e. not_found e)
    (λ short. by_test Is (ltb p 8) (λ b e. not_found e)
    (λ b. by_test Is (ltb 256 p) (λ b e. not_found e)
    (λ b e. record { long = ltb-false _ _ short; good = found_good h 256 p v e })))
  where
    Is : Result Tag ℕ → Type 0
    Is r = r ≡ Ok t → FoundFrom h p t

abbrev pub InHeader : List ℕ → Tag → Type 0
InHeader h t = FoundFrom h 8 t

pub looked_up : (h : List ℕ) (k : ℕ) {t : Tag} → lookup h k ≡ Ok t → InHeader h t
unfolding lookup
looked_up h k e = found_from h 8 (Some k) e

-- what the digest covers lies within the header
pub covered-short : (h : List ℕ) → length (covered_of h) ≤ 256
covered-short h = go (lookup h 0x0003) refl
  where
    go : (r : Result Tag ℕ) → lookup h 0x0003 ≡ r → length (before_tag h r) ≤ 256
    go (Ok t) e = let g : InHeader h t = looked_up h 0x0003 e in simp length-take (omega arith)
    go (Err n) e = omega arith

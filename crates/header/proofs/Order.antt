-- The tags of a walk stand one behind the other.
-- Assumes nothing.
use Prim.Native.Nat.{ℕ, ◌+◌, ◌≤◌, ◌<◌}
use mathlib.Core.List.Memᴰ
use mathlib.Core.List.{List, [], ◌∷◌, Memᴰ}
use mathlib.Core.Logic.{◌⊎◌, inl, inr, ⊎_elim}
use mathlib.Core.Path.{◌≡◌, refl, sym, ap, subst, ◌∙◌}
use native.Mathlib.Omega.{arith}
use lib.Dec.{eqb}
use Rattle.compare.proofs.Tests.{by_test}
use Rattle.header.specs.Lookup.{of_kind}
use Rattle.header.specs.Walk.{Walk, walk}
use Rattle.header.specs.declared.tags.Tag.{Tag}
use Rattle.header.proofs.Lookups.{later}
use Rattle.header.proofs.Walk.{Good, walk_ind}

pub each_good : (s : List ℕ) (e p : ℕ) (t : Tag) → Memᴰ t (walk s e p).tags → Good s e p t
each_good s e p t =
    walk_ind s e (λ (q : ℕ) (w : Walk). Memᴰ t w.tags → Good s e q t)
    (λ q n d m. absurd (Memᴰ.not-nil m))
    (λ q r l b ih m. later (omega arith) (ih m))
    (λ q u g ih m. ⊎_elim (λ same. subst (Good s e q) (sym same) g) (λ n. later (omega arith) (ih n)) (Memᴰ.cases_cons m))
    p

-- each tag ends before every later one starts
pub data Ordered : List Tag → Type 0 where
  none : Ordered []
  one : {t : Tag} {ts : List Tag} → ((u : Tag) → Memᴰ u ts → t.at + t.len + 4 ≤ u.at) → Ordered ts → Ordered (t ∷ ts)

pub ordered : (s : List ℕ) (e p : ℕ) → Ordered (walk s e p).tags
ordered s e =
    walk_ind s e (λ (q : ℕ) (w : Walk). Ordered w.tags)
    (λ q n d. none)
    (λ q r l b ih. ih)
    (λ q t g ih. one (λ u m. omega (arith, each_good s e t.next u m)) ih)

-- of two tags the one whose content starts first ends before the other starts
pub apart : {ts : List Tag} → Ordered ts → {t u : Tag} → Memᴰ t ts → Memᴰ u ts → t.at < u.at → t.at + t.len + 4 ≤ u.at
apart none m n l = absurd (Memᴰ.not-nil m)
apart (one {t = v} {ts} before o) {t} {u} m n l = go (Memᴰ.cases_cons m) (Memᴰ.cases_cons n) (λ p q. apart o p q l)
  where
    go :
        (t ≡ v) ⊎ Memᴰ t ts →
        (u ≡ v) ⊎ Memᴰ u ts →
        (Memᴰ t ts → Memᴰ u ts → t.at + t.len + 4 ≤ u.at) →
        t.at + t.len + 4 ≤ u.at
    go (inl p) (inl q) ih = absurd (let e : t.at ≡ u.at = ap (λ (t : Tag). t.at) (p ∙ sym q) in omega arith)
    go (inl p) (inr q) ih = rw p (before u q)
    go (inr p) (inl q) ih = absurd (let e : u.at ≡ v.at = ap (λ (t : Tag). t.at) q in omega (arith, before t p))
    go (inr p) (inr q) ih = ih p q

-- a tag of type k is one of the tags
pub of_kind_lem : (k : ℕ) (ts : List Tag) {t : Tag} → Memᴰ t (of_kind k ts) → Memᴰ t ts
of_kind_lem k [] m = m
of_kind_lem k (u ∷ ts) {t} m =
    by_test (λ (us : List Tag). Memᴰ t us → Memᴰ t (u ∷ ts)) (eqb u.kind k)
    (λ b m. ⊎_elim (λ e. Memᴰ.head e) (λ n. Memᴰ.tail (of_kind_lem k ts n)) (Memᴰ.cases_cons m))
    (λ b m. Memᴰ.tail (of_kind_lem k ts m))
    m

pub first-is : (k : ℕ) (ts : List Tag) {t : Tag} {us : List Tag} → of_kind k ts ≡ t ∷ us → Memᴰ t ts
first-is k ts {t} e = of_kind_lem k ts (subst (Memᴰ t) (sym e) (Memᴰ.head refl))

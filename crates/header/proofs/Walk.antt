-- The laws of the walk that the functions' proofs cite: a step leads on to a later place, so a walk is its first step and the walk from
-- where that leads (walk_step); and what is known of a tag that a walk meets.
-- Assumes nothing.
use Prim.Native.Nat.{ℕ, zero, suc, ◌+◌, ◌-◌, ◌<◌, ◌≤◌}
use mathlib.Core.List.{List, [], ◌∷◌}
use mathlib.Core.Logic.{◌⊎◌, inl, inr}
use mathlib.Core.Path.{◌≡◌, refl, sym, ap, subst}
use native.Mathlib.Omega.{arith}
use lib.Dec.{ltb, leb, eqb}
use borrow.Author.Tests.{ltb-false, leb-false, eqb-false, le-leb, lt-leb, le-ltb, ne_eqb}
use Rattle.std.specs.Prelude.{Result, Ok, Err}
use Rattle.header.specs.Numbers.{byte_at, number_at}
use Rattle.header.specs.Walk.{tag_at, step_at, Walk, on_step, walk_in, walk}
use Rattle.header.specs.declared.tags.Tag.{Tag}
use Rattle.header.specs.declared.tags.WalkStep.TheVariants.{Padding, Met}
use Rattle.header.specs.declared.tags.WalkStep.{WalkStep}
use Rattle.compare.proofs.Tests.{by_test}

-- the walk that stops at once, and the one that meets a tag first
abbrev pub stopped : ℕ → Walk
stopped n = record { tags = []; number = n }

abbrev pub meets : Tag → Walk → Walk
meets t w = record { tags = t ∷ w.tags; number = w.number }

-- a tag that a walk meets from place p on, where the tags end at e
pub record Good (s : List ℕ) (e p : ℕ) (t : Tag) : Type 0 where
  pub is : t ≡ tag_at s (t.at - 4)
  pub typed : t.kind ≡ 0 → ⊥
  pub unpadded : byte_at s (t.at - 4) ≡ 0xFF → ⊥
  pub starts : p + 4 ≤ t.at
  pub leads : t.next ≡ t.at + t.len
  pub inside : t.at + t.len ≤ e

abbrev pub GoodStep : List ℕ → ℕ → ℕ → Result WalkStep ℕ → Type 0
GoodStep s e p (Err n) = (n ≡ 13) ⊎ (n ≡ 25)
GoodStep s e p (Ok (Padding q)) = (p < q) × (q ≤ e)
GoodStep s e p (Ok (Met t)) = Good s e p t

pub step_good : (s : List ℕ) (e p : ℕ) → GoodStep s e p (step_at s e p)
unfolding step_at
step_good s e p =
    by_test (GoodStep s e p) (leb e p) (λ t. inr refl)
    (λ before. by_test (GoodStep s e p) (eqb (byte_at s p) 0xFF) (λ t. omega (arith, leb-false))
    (λ unpadded. by_test (GoodStep s e p) (ltb e (p + 4)) (λ t. inl refl)
    (λ t. by_test (GoodStep s e p) (eqb (number_at 2 s p) 0) (λ t. inr refl)
    (λ typed. by_test (GoodStep s e p) (ltb e (p + 4 + number_at 2 s (p + 2))) (λ t. inl refl)
    (λ inside.
    let at : p + 4 - 4 ≡ p = omega arith in
    record {
      is = rw at;
      typed = eqb-false _ _ typed;
      unpadded = rw at (eqb-false _ _ unpadded);
      starts = omega arith;
      leads = refl;
      inside = omega (arith, ltb-false);
    })))))

on_same :
    (f g : ℕ → Walk) (s : List ℕ) (e p : ℕ) (w : Result WalkStep ℕ) →
    GoodStep s e p w →
    ((q : ℕ) → p < q → q ≤ e → f q ≡ g q) →
    on_step f w ≡ on_step g w
on_same f g s e p (Err n) q h = refl
on_same f g s e p (Ok (Padding n)) q h = h n q.0 q.1
on_same f g s e p (Ok (Met t)) q h = ap (meets t) (h t.next (omega arith) (omega arith))

-- with enough steps, one more changes nothing
enough : (k : ℕ) (s : List ℕ) (e p : ℕ) → e ≤ p + k → walk_in (suc k) s e p ≡ walk_in (suc (suc k)) s e p
unfolding walk_in
enough zero s e p h =
    on_same (walk_in zero s e) (walk_in (suc zero) s e) s e p (step_at s e p) (step_good s e p) (λ q l m. absurd (omega arith))
enough (suc k) s e p h =
    on_same (walk_in (suc k) s e) (walk_in (suc (suc k)) s e) s e p (step_at s e p) (step_good s e p)
    (λ q l m. enough k s e q (omega arith))

-- the walk is its first step, and the walk from where that leads
pub walk_step : (s : List ℕ) (e p : ℕ) → walk s e p ≡ on_step (walk s e) (step_at s e p)
unfolding walk walk_in
walk_step s e p = enough e s e p (omega arith)

-- where a step ends the walk, passes padding, or meets a tag
pub step_end : (s : List ℕ) (e p : ℕ) → e ≤ p → step_at s e p ≡ Err 25
unfolding step_at
step_end s e p l = rw (le-leb e p l)

pub step-padding : (s : List ℕ) (e p : ℕ) → p < e → byte_at s p ≡ 0xFF → step_at s e p ≡ Ok (Padding (p + 1))
unfolding step_at
step-padding s e p l f = rw (lt-leb e p l, f)

pub step_met :
    (s : List ℕ) (e p : ℕ) →
    p + 4 + number_at 2 s (p + 2) ≤ e →
    (byte_at s p ≡ 0xFF → ⊥) →
    (number_at 2 s p ≡ 0 → ⊥) →
    step_at s e p ≡ Ok (Met (tag_at s p))
unfolding step_at
step_met s e p fits unpadded typed =
    simp (
      lt-leb e p (omega arith),
      ne_eqb (byte_at s p) 0xFF unpadded,
      le-ltb e (p + 4) (omega arith),
      ne_eqb (number_at 2 s p) 0 typed,
      le-ltb e (p + 4 + number_at 2 s (p + 2)) fits,
    )

-- the tag that a step meets is the one at its place
pub step-tag : (s : List ℕ) (e p : ℕ) {t : Tag} → step_at s e p ≡ Ok (Met t) → t ≡ tag_at s p
unfolding step_at
step-tag s e p {t} =
    by_test Is (leb e p) (λ b. stop)
    (λ b. by_test Is (eqb (byte_at s p) 0xFF) (λ b. padding)
    (λ b. by_test Is (ltb e (p + 4)) (λ b. stop)
    (λ b. by_test Is (eqb (number_at 2 s p) 0) (λ b. stop)
    (λ b. by_test Is (ltb e (p + 4 + number_at 2 s (p + 2))) (λ b. stop) (λ b h. let same : tag_at s p ≡ t = cc in sym same)))))
  where
    Is : Result WalkStep ℕ → Type 0
    Is w = w ≡ Ok (Met t) → t ≡ tag_at s p

    stop : {n : ℕ} → Is (Err n)
    stop h = absurd (let z : ◌≡◌ {A = ℕ} 0 1 = cc in omega arith)

    padding : {q : ℕ} → Is (Ok (Padding q))
    padding h = absurd (let z : ◌≡◌ {A = ℕ} 0 1 = cc in omega arith)

-- what is known where a step leads on
pub on : (s : List ℕ) (e p : ℕ) {w : Result WalkStep ℕ} → step_at s e p ≡ w → GoodStep s e p w
on s e p q = subst (GoodStep s e p) q (step_good s e p)

-- What holds at a place where it holds at all later ones up to e, holds at every place: a walk's steps lead on.
pub from_later : (e : ℕ) (P : ℕ → Type 0) → ((p : ℕ) → ((q : ℕ) → p < q → q ≤ e → P q) → P p) → (p : ℕ) → P p
from_later e P step p = by_room e p (omega arith)
  where
    by_room : (k p : ℕ) → e ≤ p + k → P p
    by_room zero p h = step p (λ q l m. absurd (omega arith))
    by_room (suc k) p h = step p (λ q l m. by_room k q (omega arith))

-- What holds of a walk that stops at once, and of one that goes on where it holds of the rest, holds of the walk from every place.
module _ (s : List ℕ) (e : ℕ) (P : ℕ → Walk → Type 0)
    (at_stop : (p n : ℕ) → (n ≡ 13) ⊎ (n ≡ 25) → P p (stopped n))
    (at_padding : (p q : ℕ) → p < q → q ≤ e → P q (walk s e q) → P p (walk s e q))
    (at_tag : (p : ℕ) (t : Tag) → Good s e p t → P t.next (walk s e t.next) → P p (meets t (walk s e t.next))) where
  by_step :
      (p : ℕ) (w : Result WalkStep ℕ) →
      GoodStep s e p w →
      ((q : ℕ) → p < q → q ≤ e → P q (walk s e q)) →
      P p (on_step (walk s e) w)
  by_step p (Err n) g ih = at_stop p n g
  by_step p (Ok (Padding q)) g ih = at_padding p q g.0 g.1 (ih q g.0 g.1)
  by_step p (Ok (Met t)) g ih = at_tag p t g (ih t.next (omega arith) (omega arith))

  pub walk_ind : (p : ℕ) → P p (walk s e p)
  walk_ind =
      from_later e (λ (p : ℕ). P p (walk s e p)) (λ p ih. rw (walk_step s e p) (by_step p (step_at s e p) (step_good s e p) ih))

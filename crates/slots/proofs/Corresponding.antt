-- Well-formed flags and progress numbers correspond one to one, by one induction on the sectors. Assumes nothing.
use Prim.Native.Nat.{ℕ, zero, suc, ◌+◌, ◌-◌, ◌*◌, ◌/◌, ◌%◌, ◌≤◌, ◌<◌}
use mathlib.Core.Bool.{Bool, true, false, cond, ◌&&◌, ◌||◌}
use mathlib.Core.List.{List, [], ◌∷◌}
use mathlib.Core.Logic.{◌⊎◌, inl, inr}
use mathlib.Core.Path.{◌≡◌, refl, sym, ap, ◌∙◌}
use native.Mathlib.Decide.{dec_lt, ℕ_discrete}
use native.Mathlib.Omega.{arith}
use borrow.Author.Tests.{eqb-true, eq-eqb, ne_eqb, lt-ltb, le-ltb}
use lib.Dec.{eqb}
use lib.ListN.{length, set, replicate, length-replicate}
use Rattle.compare.specs.Compare.{all}
use Rattle.compare.proofs.Tests.{and_left, and_right, or_cases}
use Rattle.compare.proofs.Values.{all_replicate, all-only}
use Rattle.slots.specs.Correspondence.{flags_for, FlagsAt, Says, OneToOne}
use Rattle.slots.specs.Exchange.{next_flag}
use Rattle.slots.specs.Flags.{well_formed, lowest_unfinished, stage, progress, flag_of}

-- ---- the flags of a progress, one sector at a time

module _ (n p : ℕ) where
  pub first-sector : p < 3 → flags_for (suc n) p ≡ flag_of p ∷ replicate n 15
  unfolding flags_for
  first-sector h = rw (lt-ltb p 3 h)

  pub later_sector : 3 ≤ p → flags_for (suc n) p ≡ 0 ∷ flags_for n (p - 3)
  unfolding flags_for
  later_sector h = rw (le-ltb p 3 h)

-- what holds of 0, 1 and 2
by_stage : (P : ℕ → Type 0) → P 0 → P 1 → P 2 → (p : ℕ) → p < 3 → P p
by_stage P a b c zero h = a
by_stage P a b c (suc zero) h = b
by_stage P a b c (suc (suc zero)) h = c
by_stage P a b c (suc (suc (suc p))) h = absurd (omega arith)

-- ---- forth

module _ (n : ℕ) (p : ℕ) where
  starts : p < 3 → FlagsAt (suc n) p (flag_of p ∷ replicate n 15)
  unfolding flag_of well_formed progress stage
  starts h = by_stage (λ q. FlagsAt (suc n) q (flag_of q ∷ replicate n 15)) (at 0 refl refl) (at 1 refl refl) (at 2 refl refl) p h
    where
      at : (q : ℕ) → well_formed (flag_of q ∷ replicate n 15) ≡ all 15 (replicate n 15) → progress (flag_of q ∷ replicate n 15) ≡ q
          → FlagsAt (suc n) q (flag_of q ∷ replicate n 15)
      at q a b = record { count = ap suc (length-replicate n 15); formed = a ∙ all_replicate 15 n; reached = b }

  goes_on : (fs : List ℕ) → 3 ≤ p → FlagsAt n (p - 3) fs → FlagsAt (suc n) p (0 ∷ fs)
  unfolding well_formed progress
  goes_on fs h e = record { count = ap suc e.count; formed = e.formed; reached = omega (arith, e.reached) }

stands : (n p : ℕ) → p ≤ 3 * n → FlagsAt n p (flags_for n p)
unfolding flags_for well_formed progress
stands zero p h = record { count = refl; formed = refl; reached = omega arith }
stands (suc n) p h = go (dec_lt p 3) (stands n (p - 3))
  where
    go : Dec (p < 3) → (p - 3 ≤ 3 * n → FlagsAt n (p - 3) (flags_for n (p - 3))) → FlagsAt (suc n) p (flags_for (suc n) p)
    go (yes l) ih = rw (first-sector n p l) (starts n p l)
    go (no l) ih = rw (later_sector n p (omega arith)) (goes_on n p (flags_for n (p - 3)) (omega arith) (ih (omega arith)))

-- ---- back

-- the first sector is finished, or it is the current one and the rest is new
data Begins (n p x : ℕ) (xs : List ℕ) : Type 0 where
  finished : x ≡ 0 → 3 ≤ p → FlagsAt n (p - 3) xs → Begins n p x xs
  current : p < 3 → x ≡ flag_of p → xs ≡ replicate n 15 → Begins n p x xs

begins : (n p x : ℕ) (xs : List ℕ) → FlagsAt (suc n) p (x ∷ xs) → Begins n p x xs
unfolding well_formed progress stage flag_of
begins n p x xs e = go (eqb x 0) refl e.formed e.reached
  where
    count : length xs ≡ n
    count = let c = e.count in omega arith

    new : all 15 xs ≡ true → xs ≡ replicate n 15
    new a = all-only 15 xs a ∙ ap (λ (k : ℕ). replicate k 15) count

    is : (v : ℕ) → eqb x v ≡ true → (stage v < 3) × (v ≡ flag_of (stage v)) → stage x ≡ p → all 15 xs ≡ true → Begins n p x xs
    is v q d r a =
        let w : x ≡ v = eqb-true x v q in
        let s : stage v ≡ p = rw w at r in
        current (omega (arith, d.0, s)) (w ∙ d.1 ∙ ap flag_of s) (new a)

    one : (eqb x 7 ≡ true) ⊎ (eqb x 3 ≡ true) → stage x ≡ p → all 15 xs ≡ true → Begins n p x xs
    one (inl q) r a = is 7 q (omega arith, refl) r a
    one (inr q) r a = is 3 q (omega arith, refl) r a

    three : ((eqb x 7 || eqb x 3) ≡ true) ⊎ (eqb x 15 ≡ true) → stage x ≡ p → all 15 xs ≡ true → Begins n p x xs
    three (inl q) r a = one (or_cases (eqb x 7) (eqb x 3) q) r a
    three (inr q) r a = is 15 q (omega arith, refl) r a

    go : (b : Bool) → eqb x 0 ≡ b → cond b (well_formed xs) ((eqb x 7 || eqb x 3 || eqb x 15) && all 15 xs) ≡ true
        → cond b (3 + progress xs) (stage x) ≡ p → Begins n p x xs
    go true q f r = finished (eqb-true x 0 q) (omega arith) (record { count = count; formed = f; reached = omega arith })
    go false q f r =
        three (or_cases (eqb x 7 || eqb x 3) (eqb x 15) (and_left (eqb x 7 || eqb x 3 || eqb x 15) (all 15 xs) f)) r
        (and_right (eqb x 7 || eqb x 3 || eqb x 15) (all 15 xs) f)

eqb_later : (p n : ℕ) → 3 ≤ p → eqb (p - 3) (3 * n) ≡ eqb p (3 * suc n)
eqb_later p n h = go (ℕ_discrete p (3 * suc n))
  where
    go : Dec (p ≡ 3 * suc n) → eqb (p - 3) (3 * n) ≡ eqb p (3 * suc n)
    go (yes e) = eq-eqb (p - 3) (3 * n) (omega arith) ∙ sym (eq-eqb p (3 * suc n) e)
    go (no e) = ne_eqb (p - 3) (3 * n) (λ q. e (omega arith)) ∙ sym (ne_eqb p (3 * suc n) e)

says-finished : (n p : ℕ) (xs : List ℕ) → 3 ≤ p → Says n (p - 3) xs → Says (suc n) p (0 ∷ xs)
unfolding all lowest_unfinished flag_of
says-finished n p xs h s = record {
  bound = omega (arith, s.bound);
  only = ap (λ (l : List ℕ). 0 ∷ l) s.only ∙ sym (later_sector n p h);
  all_new = sym (ne_eqb p 0 (omega arith));
  all-updated = s.all-updated ∙ eqb_later p n h;
  current = λ l.
      let c = s.current (omega arith) in
      let d : p / 3 ≡ suc ((p - 3) / 3) = omega arith in
      let m : p % 3 ≡ (p - 3) % 3 = omega arith in
      (ap suc c.0 ∙ sym d, rw (d, m) c.1);
}

says-current : (n p : ℕ) → p < 3 → Says (suc n) p (flag_of p ∷ replicate n 15)
unfolding all lowest_unfinished flag_of
says-current n p h = by_stage (λ q. Says (suc n) q (flag_of q ∷ replicate n 15)) (at 0 (omega arith) (all_replicate 15 n) refl refl)
    (at 1 (omega arith) refl refl refl) (at 2 (omega arith) refl refl refl) p h
  where
    at : (q : ℕ) → q < 3 → all 15 (flag_of q ∷ replicate n 15) ≡ eqb q 0 → all 0 (flag_of q ∷ replicate n 15) ≡ false
        → lowest_unfinished (flag_of q ∷ replicate n 15) ≡ 0 → Says (suc n) q (flag_of q ∷ replicate n 15)
    at q l a b c = record {
      bound = omega arith;
      only = sym (first-sector n q l);
      all_new = a;
      all-updated = b ∙ sym (ne_eqb q (3 * suc n) (omega arith));
      current = λ r.
          let d : q / 3 ≡ 0 = omega arith in
          (c ∙ sym d, rw d);
    }

says : (n p : ℕ) (fs : List ℕ) → FlagsAt n p fs → Says n p fs
unfolding flags_for all progress
says zero p [] e =
    let r : p ≡ 0 = sym e.reached in
    record { bound = omega arith; only = refl; all_new = sym (eq-eqb p 0 r); all-updated = sym (eq-eqb p 0 r); current = λ h. absurd (omega arith) }
says zero p (x ∷ xs) e = let c = e.count in absurd (omega arith)
says (suc n) p [] e = let c = e.count in absurd (omega arith)
says (suc n) p (x ∷ xs) e = go (begins n p x xs e) (says n (p - 3) xs)
  where
    go : Begins n p x xs → (FlagsAt n (p - 3) xs → Says n (p - 3) xs) → Says (suc n) p (x ∷ xs)
    go (finished z h r) ih = rw z (says-finished n p xs h (ih r))
    go (current h z r) ih = rw (z, r) (says-current n p h)

pub one_to_one : OneToOne
one_to_one n = record { stands = stands n; says = says n }

-- ---- the next flag

-- new flags, and one flag more
pub flags-new : (n : ℕ) → flags_for n 0 ≡ replicate n 15
unfolding flags_for flag_of
flags-new zero = refl
flags-new (suc n) = refl

abbrev Next : ℕ → ℕ → Type 0
Next n p = set (flags_for n p) (p / 3) (next_flag (flag_of p)) ≡ flags_for n (p + 1)

next-first : (n p : ℕ) → p < 3 → Next (suc n) p
unfolding flags_for flag_of next_flag
next-first n p h = by_stage (λ q. Next (suc n) q) refl refl (ap (λ (l : List ℕ). 0 ∷ l) (sym (flags-new n))) p h

next_later : (n p : ℕ) → 3 ≤ p → Next n (p - 3) → Next (suc n) p
unfolding flag_of
next_later n p h e =
    let d : p / 3 ≡ suc ((p - 3) / 3) = omega arith in
    let m : p % 3 ≡ (p - 3) % 3 = omega arith in
    let q : p + 1 - 3 ≡ p - 3 + 1 = omega arith in
    rw (later_sector n p h, later_sector n (p + 1) (omega arith), d, m, q) (ap (λ (l : List ℕ). 0 ∷ l) e)

pub next-flags : (n p : ℕ) → p < 3 * n → Next n p
next-flags zero p h = absurd (omega arith)
next-flags (suc n) p h = go (dec_lt p 3) (next-flags n (p - 3))
  where
    go : Dec (p < 3) → (p - 3 < 3 * n → Next n (p - 3)) → Next (suc n) p
    go (yes l) ih = next-first n p l
    go (no l) ih = next_later n p (omega arith) (ih (omega arith))

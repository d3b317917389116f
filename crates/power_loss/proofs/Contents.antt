-- What the image sectors hold through a swap: at the progress p every sector but the current target holds what some sector held when
-- the list of power-ups began. Assumes nothing.
use Prim.Native.Nat.{ℕ, suc, ◌+◌, ◌*◌, ◌/◌, ◌%◌, ◌≤◌, ◌<◌}
use mathlib.Core.Bool.{true, cond}
use mathlib.Core.List.{List}
use mathlib.Core.Logic.{◌⊎◌, ◌≢◌}
use mathlib.Core.Path.{◌≡◌, refl, sym, ap, ◌∙◌}
use native.Mathlib.Decide.{dec_lt, ℕ_discrete}
use native.Mathlib.Omega.{arith}
use borrow.Author.Tests.{eq-eqb, ne_eqb, lt-ltb, le-ltb}
use lib.Dec.{ltb}
use Rattle.flash.specs.declared.geometry.Geometry.{Geometry}
use Rattle.slots.specs.Exchange.{source, target}
use Rattle.slots.specs.Flags.{flag_of}
use Rattle.slots.specs.Places.{Within, bytes_at, image_of}
use Rattle.slots.specs.declared.places.Place.TheVariants.{Sector, Swap}
use Rattle.slots.specs.declared.places.Place.{Place}
use Rattle.slots.specs.declared.places.Slot.TheVariants.{Boot, Update}
use Rattle.slots.specs.declared.places.Slot.{Slot}
use Rattle.slots.proofs.Exchanging.{source_at, target_at, by_copy, copy_apart}
use Rattle.loader.specs.Checks.{Checks}
use Rattle.loader.specs.States.{on_trial}
use Rattle.power_loss.specs.Demand.{Exchanged, Restored}
use Rattle.power_loss.proofs.Exchange.{never_same, target_aside}
use Rattle.power_loss.proofs.Invariant.{Setting}
use Rattle.power_loss.proofs.OneSector.{Change}

-- the place that the bytes of a sector came from, at the progress p
abbrev pub came_from : ℕ → Place → Place
came_from p (Sector Boot j) = Sector (cond (ltb (3 * j + 2) p) Update Boot) j
came_from p (Sector Update j) = Sector (cond (ltb (3 * j + 1) p) Boot Update) j
came_from p Swap = Sector Update (p / 3)

-- ---- the copies' places by their stage

module _ (p : ℕ) where
  first-copy : p % 3 ≡ 0 → (source_at p ≡ Sector Update (p / 3)) × (target_at p ≡ Swap)
  unfolding source target flag_of
  first-copy e = rw (eq-eqb (p % 3) 0 e) (refl, refl)

  second-copy : p % 3 ≡ 1 → (source_at p ≡ Sector Boot (p / 3)) × (target_at p ≡ Sector Update (p / 3))
  unfolding source target flag_of
  second-copy e = rw (ne_eqb (p % 3) 0 (omega arith), eq-eqb (p % 3) 1 e) (refl, refl)

  third_copy : p % 3 ≡ 2 → (source_at p ≡ Swap) × (target_at p ≡ Sector Boot (p / 3))
  unfolding source target flag_of
  third_copy e = rw (ne_eqb (p % 3) 0 (omega arith), ne_eqb (p % 3) 1 (omega arith)) (refl, refl)

module _ (p : ℕ) where
  -- the target takes what the source holds
  came_target : came_from (suc p) (target_at p) ≡ came_from p (source_at p)
  came_target = go (ℕ_discrete (p % 3) 0) (ℕ_discrete (p % 3) 1)
    where
      go : Dec (p % 3 ≡ 0) → Dec (p % 3 ≡ 1) → came_from (suc p) (target_at p) ≡ came_from p (source_at p)
      go (yes e) d =
          let i : suc p / 3 ≡ p / 3 = omega arith in
          rw ((first-copy p e).0, (first-copy p e).1, le-ltb (3 * (p / 3) + 1) p (omega arith), i)
      go (no e) (yes d) =
          rw ((second-copy p d).0, (second-copy p d).1, lt-ltb (3 * (p / 3) + 1) (suc p) (omega arith), le-ltb (3 * (p / 3) + 2) p (omega arith))
      go (no e) (no d) =
          let c = third_copy p (omega arith) in
          rw (c.0, c.1, lt-ltb (3 * (p / 3) + 2) (suc p) (omega arith))

  ltb_next : (x : ℕ) → x ≢ p → ltb x (suc p) ≡ ltb x p
  ltb_next x n = go (dec_lt x p)
    where
      go : Dec (x < p) → ltb x (suc p) ≡ ltb x p
      go (yes l) = lt-ltb x (suc p) (omega arith) ∙ sym (lt-ltb x p l)
      go (no l) = le-ltb x (suc p) (omega arith) ∙ sym (le-ltb x p (omega arith))

  -- every other sector keeps what it holds
  came_other : (q : Place) → target_at (suc p) ≢ q → target_at p ≢ q → came_from (suc p) q ≡ came_from p q
  came_other (Sector Boot j) a b =
      rw (ltb_next (3 * j + 2) (λ e. b ((third_copy p (omega arith)).1 ∙ ap (λ (i : ℕ). Sector Boot i) (omega arith))))
  came_other (Sector Update j) a b =
      rw (ltb_next (3 * j + 1) (λ e. b ((second-copy p (omega arith)).1 ∙ ap (λ (i : ℕ). Sector Update i) (omega arith))))
  came_other Swap a b = go (ℕ_discrete (p % 3) 2)
    where
      go : Dec (p % 3 ≡ 2) → Sector Update (suc p / 3) ≡ Sector Update (p / 3)
      go (yes e) = absurd (a (first-copy (suc p) (omega arith)).1)
      go (no e) = ap (λ (i : ℕ). Sector Update i) (omega arith)

-- ---- the setting

-- an image sector, or SWAP
abbrev pub Image : Geometry → Place → Type 0
Image g (Sector s i) = i < g.count
Image g Swap = Unit {0}

image_in : (g : Geometry) (q : Place) → Image g q → Within g q
image_in g (Sector s i) h = omega arith
image_in g Swap h = tt

trailer_aside : (g : Geometry) (s : Slot) (q : Place) → Image g q → Sector s g.count ≢ q
trailer_aside g s (Sector r i) h e = let j : g.count ≡ i = cc in omega arith
trailer_aside g s Swap h e = never_same (cc)

source-image : (g : Geometry) (p : ℕ) → p < 3 * g.count → Image g (source_at p)
source-image g p h = by_copy (λ a b. Image g a) (p / 3) (flag_of p) (omega arith) (omega arith) tt

same_place : (p q : Place) → Dec (p ≡ q)
same_place (Sector Boot i) (Sector Boot j) = go (ℕ_discrete i j)
  where
    go : Dec (i ≡ j) → Dec (Sector Boot i ≡ Sector Boot j)
    go (yes e) = yes (ap (λ (x : ℕ). Sector Boot x) e)
    go (no n) = no (λ e. n (cc))
same_place (Sector Update i) (Sector Update j) = go (ℕ_discrete i j)
  where
    go : Dec (i ≡ j) → Dec (Sector Update i ≡ Sector Update j)
    go (yes e) = yes (ap (λ (x : ℕ). Sector Update x) e)
    go (no n) = no (λ e. n (cc))
same_place (Sector Boot i) (Sector Update j) = no (λ e. never_same (cc))
same_place (Sector Update i) (Sector Boot j) = no (λ e. never_same (cc))
same_place (Sector s i) Swap = no (λ e. never_same (cc))
same_place Swap (Sector s j) = no (λ e. never_same (cc))
same_place Swap Swap = yes refl

-- a list of power-ups that began with f₀
module _ (checks : Checks) (g : Geometry) (f₀ : List ℕ) where
  -- and at its start BOOT is on trial, or UPDATE's image may replace BOOT's
  pub record Contents (p : ℕ) (f : List ℕ) : Type 0 where
    pub holds : (q : Place) → Image g q → target_at p ≢ q → bytes_at g f q ≡ bytes_at g f₀ (came_from p q)
    pub rule : p ≡ 0 → (on_trial g f ≡ true) ⊎ (checks.acceptance (image_of g f₀ Boot) (image_of g f₀ Update) ≡ 0)

  pub retargets : (p : ℕ) (f f' d : List ℕ) → p < 3 * g.count → Change g f f' (target_at p) d → Contents p f → Contents p f'
  retargets p f f' d h c x = record {
    holds = λ q i n. c.others q (image_in g q i) n ∙ x.holds q i n;
    rule = λ z. rw (c.others (Sector Boot g.count) (omega arith) (target_aside g p h Boot)) (x.rule z);
  }

  pub advances : (p : ℕ) (f f' d : List ℕ) → p < 3 * g.count → bytes_at g f (source_at p) ≡ bytes_at g f (target_at p)
      → Change g f f' (Sector Update g.count) d → Contents p f → Contents (suc p) f'
  advances p f f' d h e c x = record {
    holds = λ q i n. c.others q (image_in g q i) (trailer_aside g Update q i) ∙ go q i n (same_place (target_at p) q);
    rule = λ z. absurd (omega arith);
  }
    where
      go : (q : Place) → Image g q → target_at (suc p) ≢ q → Dec (target_at p ≡ q) → bytes_at g f q ≡ bytes_at g f₀ (came_from (suc p) q)
      go q i n (yes y) = rw (← y) (sym e ∙ x.holds (source_at p) (source-image g p h) (λ z. copy_apart (p / 3) (flag_of p) (sym z))
          ∙ ap (bytes_at g f₀) (sym (came_target p)))
      go q i n (no y) = x.holds q i y ∙ ap (bytes_at g f₀) (sym (came_other p q n y))

  pub starts : (f f' d : List ℕ) → Change g f f' (Sector Update g.count) d → Contents 0 f → Contents 0 f'
  starts f f' d c x = record {
    holds = λ q i n. c.others q (image_in g q i) (trailer_aside g Update q i) ∙ x.holds q i n;
    rule = λ z. rw (c.others (Sector Boot g.count) (omega arith) (λ e. never_same (cc))) (x.rule z);
  }

  pub finishes : (s : Slot) (f f' d : List ℕ) → 1 ≤ g.count → Change g f f' (Sector s g.count) d → Contents (3 * g.count) f
      → Contents (3 * g.count) f'
  finishes s f f' d h c x = record {
    holds = λ q i n. c.others q (image_in g q i) (trailer_aside g s q i) ∙ x.holds q i n;
    rule = λ z. absurd (omega arith);
  }

  -- o is the flash since which nothing outside the areas has changed
  abbrev pub following : List ℕ → Setting
  following o = record {
    g = g;
    origin = o;
    Held = Contents;
    Returns = Unit {0};
    retargets = retargets;
    advances = advances;
    starts = starts;
    ends = finishes;
  }

  -- at the start nothing is exchanged, at the end all is
  pub contents_start : (on_trial g f₀ ≡ true) ⊎ (checks.acceptance (image_of g f₀ Boot) (image_of g f₀ Update) ≡ 0) → Contents 0 f₀
  contents_start r = record { holds = λ q i n. go q n; rule = λ z. r }
    where
      go : (q : Place) → target_at 0 ≢ q → bytes_at g f₀ q ≡ bytes_at g f₀ (came_from 0 q)
      go (Sector Boot j) n = rw (le-ltb (3 * j + 2) 0 (omega arith))
      go (Sector Update j) n = rw (le-ltb (3 * j + 1) 0 (omega arith))
      go Swap n = absurd (n (first-copy 0 refl).1)

  -- with all flags F, or all 0, the next copy would go to SWAP
  to_swap : (p : ℕ) → p % 3 ≡ 0 → (s : Slot) (j : ℕ) → target_at p ≢ Sector s j
  to_swap p e s j q = let z : Swap ≡ Sector s j = sym (first-copy p e).1 ∙ q in never_same (cc)

  pub contents_new : (f : List ℕ) → Contents 0 f → Restored g f₀ f
  contents_new f x Boot j h = x.holds (Sector Boot j) h (to_swap 0 refl Boot j) ∙ rw (le-ltb (3 * j + 2) 0 (omega arith))
  contents_new f x Update j h = x.holds (Sector Update j) h (to_swap 0 refl Update j) ∙ rw (le-ltb (3 * j + 1) 0 (omega arith))

  pub contents_end : (f : List ℕ) → Contents (3 * g.count) f → Exchanged g f₀ f
  contents_end f x Boot j h =
      x.holds (Sector Boot j) h (to_swap (3 * g.count) (omega arith) Boot j) ∙ rw (lt-ltb (3 * j + 2) (3 * g.count) (omega arith))
  contents_end f x Update j h =
      x.holds (Sector Update j) h (to_swap (3 * g.count) (omega arith) Update j) ∙ rw (lt-ltb (3 * j + 1) (3 * g.count) (omega arith))

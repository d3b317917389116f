-- One sector changed by a step or by a cut on it, and what stays. Assumes nothing.
use Prim.Native.Nat.{ℕ, ◌+◌, ◌-◌, ◌≤◌, ◌<◌}
use mathlib.Core.Bool.{true}
use mathlib.Core.List.{List, [], ◌∷◌}
use mathlib.Core.Logic.{◌⊎◌, inl, inr, ◌≢◌}
use mathlib.Core.Path.{◌≡◌, refl, ◌∙◌, subst}
use native.Mathlib.Decide.{dec_lt}
use native.Mathlib.Omega.{arith}
use lib.Bits.{and_le_l}
use lib.ListN.{length, take, drop, get_or, get_or-replicate, get_or-eq_default}
use Rattle.flash.specs.Bytes.{blank, overlay, write}
use Rattle.flash.specs.Changes.{target_start, target_size, Lies, InAreas, Only}
use Rattle.flash.specs.Cuts.{Bytes, Torn}
use Rattle.flash.specs.Geometry.{geometry_check}
use Rattle.flash.specs.Steps.{closing, accepted, applied}
use Rattle.flash.specs.Valid.{Valid}
use Rattle.flash.specs.declared.geometry.Geometry.{Geometry}
use Rattle.flash.specs.declared.steps.Step.TheVariants.{Erase, Copy, Byte, Mark}
use Rattle.flash.specs.declared.steps.Step.{Step}
use Rattle.flash.proofs.Areas.{valid}
use Rattle.flash.proofs.Closing.{length-closing}
use Rattle.flash.proofs.Parts.{length_part, get_d_part}
use Rattle.flash.proofs.Shown.{step-passes, changes}
use Rattle.flash.proofs.Targets.{target-inside, target_fits, copy-fits}
use Rattle.flash.proofs.Writes.{length-blank, length-overlay, write-before, write_in, write-after, overlay-before, overlay_in, overlay-after}
use Rattle.slots.specs.OnePlace.{Stepped}
use Rattle.slots.specs.Places.{offset, Within, bytes_at}
use Rattle.slots.specs.declared.places.Place.{Place}
use Rattle.slots.proofs.Accepting.{accepts}
use Rattle.slots.proofs.Apart.{length_at, sectors}
use Rattle.power_loss.specs.Demand.{Kept}

-- ---- bytes stay bytes

module _ (f : List ℕ) (at : ℕ) (d : List ℕ) (h : at + length d ≤ length f) (b : Bytes f) where
  write_bytes : Bytes (write f at d)
  write_bytes i = go (dec_lt i at) (dec_lt i (at + length d))
    where
      go : Dec (i < at) → Dec (i < at + length d) → get_or (write f at d) i 0 < 256
      go (yes l) m = rw (write-before f at d (omega arith) i l) (b i)
      go (no l) (yes m) =
          let e : at + (i - at) ≡ i = omega arith in
          subst (λ (j : ℕ). get_or (write f at d) j 0 < 256) e
          (rw (write_in f at d (omega arith) (i - at) (omega arith))
          (omega (arith, b (at + (i - at)), and_le_l (get_or f (at + (i - at)) 0) (get_or d (i - at) 0))))
      go (no l) (no m) = rw (write-after f at d (omega arith) i (omega arith)) (b i)

  overlay_bytes : Bytes d → Bytes (overlay f at d)
  overlay_bytes db i = go (dec_lt i at) (dec_lt i (at + length d))
    where
      go : Dec (i < at) → Dec (i < at + length d) → get_or (overlay f at d) i 0 < 256
      go (yes l) m = rw (overlay-before f at d h i l) (b i)
      go (no l) (yes m) =
          let e : at + (i - at) ≡ i = omega arith in
          subst (λ (j : ℕ). get_or (overlay f at d) j 0 < 256) e (rw (overlay_in f at d h (i - at) (omega arith)) (db (i - at)))
      go (no l) (no m) = rw (overlay-after f at d h i (omega arith)) (b i)

blank-bytes : (z : ℕ) → Bytes (blank z)
unfolding blank
blank-bytes z i = go (dec_lt i z)
  where
    go : Dec (i < z) → get_or (blank z) i 0 < 256
    go (yes l) = rw (get_or-replicate {A = ℕ} z i 255 0 l) (omega arith)
    go (no l) = rw (get_or-eq_default (blank z) 0 {n = i} (omega (arith, length-blank z))) (omega arith)

-- ---- nothing outside the areas

pub kept_self : (g : Geometry) (f : List ℕ) → Kept g f f
kept_self g f = record { size = refl; outside = λ i n. refl }

pub kept_on : {g : Geometry} {o f f' : List ℕ} → Kept g o f → Kept g f f' → Kept g o f'
kept_on a b = record { size = b.size ∙ a.size; outside = λ i n. b.outside i n ∙ a.outside i n }

kept-only : (g : Geometry) (f f' : List ℕ) (at k : ℕ) → InAreas g at k → Only f f' at k → Kept g f f'
kept-only g f f' at k a o = record { size = o.size; outside = λ i n. o.others i (go i n (dec_lt i at) (dec_lt i (at + k))) }
  where
    inside : (i : ℕ) → at ≤ i → i < at + k → InAreas g at k → InAreas g i 1
    inside i l m (inl x) = inl (omega arith, omega arith)
    inside i l m (inr (inl x)) = inr (inl (omega arith, omega arith))
    inside i l m (inr (inr x)) = inr (inr (omega arith, omega arith))

    go : (i : ℕ) → (InAreas g i 1 → ⊥) → Dec (i < at) → Dec (i < at + k) → (i < at) ⊎ (at + k ≤ i)
    go i n (yes l) m = inl l
    go i n (no l) (no m) = inr (omega arith)
    go i n (no l) (yes m) = absurd (n (inside i (omega arith) m a))

-- ---- a flash, and one sector of it changed

-- bytes with an accepted geometry; since o nothing outside the areas has changed
pub record Base (g : Geometry) (o f : List ℕ) : Type 0 where
  pub ok : geometry_check g (length f) ≡ 0
  pub bytes : Bytes f
  pub kept : Kept g o f

-- f' is f with other bytes d in the sector p
pub record Change (g : Geometry) (f f' : List ℕ) (p : Place) (d : List ℕ) : Type 0 where
  pub holds : bytes_at g f' p ≡ d
  pub others : (q : Place) → Within g q → p ≢ q → bytes_at g f' q ≡ bytes_at g f q
  pub bytes : Bytes f'
  pub kept : Kept g f f'

pub changed : {g : Geometry} {o f f' : List ℕ} {p : Place} {d : List ℕ} → Base g o f → Change g f f' p d → Base g o f'
changed b c = record { ok = rw c.kept.size b.ok; bytes = c.bytes; kept = kept_on b.kept c.kept }

module _ {g : Geometry} {o f : List ℕ} (b : Base g o f) where
  pub base_valid : Valid g (length f)
  base_valid = valid g (length f) b.ok

  pub sector-size : (p : Place) → Within g p → length (bytes_at g f p) ≡ g.size
  sector-size p w = length_at g f base_valid p w

  pub sector-bytes : (p : Place) → Within g p → Bytes (bytes_at g f p)
  unfolding bytes_at
  sector-bytes p w i = go (dec_lt i g.size)
    where
      go : Dec (i < g.size) → get_or (bytes_at g f p) i 0 < 256
      go (yes l) = rw (get_d_part f (offset g p) g.size i l) (b.bytes (offset g p + i))
      go (no l) = rw (get_or-eq_default (bytes_at g f p) 0 {n = i} (omega (arith, sector-size p w))) (omega arith)

  step-bytes : (s : Step) → accepted g s ≡ true → Bytes (applied g f s)
  step-bytes (Erase at) a =
      overlay_bytes f at (blank g.size) (omega (arith, length-blank g.size, target_fits g (length f) base_valid (Erase at) a)) b.bytes
      (blank-bytes g.size)
  step-bytes (Copy from to) a =
      let h = copy-fits g (length f) base_valid (Copy from to) from to a refl in
      write_bytes f to (take g.size (drop from f)) (omega (arith, length_part f from g.size h.1, h.2)) b.bytes
  step-bytes (Byte at v) a = write_bytes f at (v ∷ []) (omega (arith, target_fits g (length f) base_valid (Byte at v) a)) b.bytes
  step-bytes (Mark at) a = write_bytes f at closing (omega (arith, length-closing, target_fits g (length f) base_valid (Mark at) a)) b.bytes

  module _ (p : Place) (w : Within g p) where
    within : (f' : List ℕ) (s : Step) → accepted g s ≡ true → Lies (target_start s) (target_size g s) (offset g p) g.size
        → Only f f' (target_start s) (target_size g s) → Bytes f' → Change g f f' p (bytes_at g f' p)
    within f' s a l only bs = record {
      holds = refl;
      others = λ q u n. (sectors g f base_valid).others p w f' (target_start s) (target_size g s) only l q u n;
      bytes = bs;
      kept = kept-only g f f' (target_start s) (target_size g s) (target-inside g (length f) base_valid s a) only;
    }

    holding : {f' d : List ℕ} → Change g f f' p (bytes_at g f' p) → bytes_at g f' p ≡ d → Change g f f' p d
    holding c e = record { holds = e; others = c.others; bytes = c.bytes; kept = c.kept }

    -- a whole step within the sector
    pub stepped : (s : Step) → accepted g s ≡ true → Lies (target_start s) (target_size g s) (offset g p) g.size
        → (d : List ℕ) → bytes_at g (applied g f s) p ≡ d → Change g f (applied g f s) p d
    stepped s a l d e =
        holding (within (applied g f s) s a l (changes.only g f s (step-passes g (length f) s b.ok a)).whole (step-bytes s a)) e

    pub on : Stepped g f p
    on = (sectors g f base_valid).stepped p w

    erasable : accepted g (Erase (offset g p)) ≡ true
    erasable = (accepts g (length f) base_valid).erase (offset g p) (p, (w, refl))

    -- an erase, and what a cut on it or on a copy leaves
    pub erased : Change g f (applied g f (Erase (offset g p))) p (blank g.size)
    erased = stepped (Erase (offset g p)) erasable (omega arith, omega arith) (blank g.size) on.erased

    pub torn : (f' : List ℕ) (t : Torn g f (offset g p) f') → Change g f f' p t.left
    torn f' t = record {
      holds = on.torn f' t;
      others = λ q u n. (sectors g f base_valid).others p w f' (offset g p) g.size only (omega arith, omega arith) q u n;
      bytes = rw t.is (overlay_bytes f (offset g p) t.left (omega (arith, t.size, fits)) b.bytes t.bytes);
      kept = kept-only g f f' (offset g p) g.size (target-inside g (length f) base_valid (Erase (offset g p)) erasable) only;
    }
      where
        fits : offset g p + g.size ≤ length f
        fits = target_fits g (length f) base_valid (Erase (offset g p)) erasable

        only : Only f f' (offset g p) g.size
        only = rw t.is (record {
          size = length-overlay f (offset g p) t.left (omega (arith, t.size, fits));
          others = λ i x. apart i x;
        })
          where
            apart : (i : ℕ) → (i < offset g p) ⊎ (offset g p + g.size ≤ i) → get_or (overlay f (offset g p) t.left) i 0 ≡ get_or f i 0
            apart i (inl l) = overlay-before f (offset g p) t.left (omega (arith, t.size, fits)) i l
            apart i (inr l) = overlay-after f (offset g p) t.left (omega (arith, t.size, fits)) i (omega (arith, t.size))

    pub unchanged : Change g f f p (bytes_at g f p)
    unchanged = record { holds = refl; others = λ q u n. refl; bytes = b.bytes; kept = kept_self g f }

-- The claims about an accepted step: only its target changes, and all but an erase only clear bits. Assumes nothing.
use Prim.Native.Nat.{ℕ, ◌+◌, ◌-◌, ◌/◌, ◌%◌, ◌^◌, ◌≤◌, ◌<◌}
use mathlib.Core.Bool.{Bool, true, false, cond}
use mathlib.Core.List.{List, [], ◌∷◌}
use mathlib.Core.Logic.{◌⊎◌, inl, inr}
use mathlib.Core.Path.{◌≡◌, refl, subst}
use native.Mathlib.Decide.{dec_lt}
use native.Mathlib.Nat.{le_of_eq}
use native.Mathlib.Omega.{arith}
use borrow.Author.Tests.{eqb-true}
use lib.Bits.{bit_and, and_shr, and_mod, and_le_l}
use lib.Dec.{eqb}
use lib.ListN.{length, take, drop, get_or}
use Rattle.flash.specs.Bytes.{blank, overlay, write}
use Rattle.flash.specs.Changes.{target_start, target_size, Only, bit, Clears, ClearsOnly, Changes}
use Rattle.flash.specs.Cuts.{Torn, Cut}
use Rattle.flash.specs.Geometry.{geometry_check}
use Rattle.flash.specs.Steps.{accepted, closing, applied, step_check, flash_after}
use Rattle.flash.specs.Valid.{Valid}
use Rattle.flash.specs.declared.geometry.Geometry.{Geometry}
use Rattle.flash.specs.declared.steps.Step.{Step}
use Rattle.flash.specs.declared.steps.Step.TheVariants.{Erase, Copy, Byte, Mark}
use Rattle.flash.proofs.Areas.{valid}
use Rattle.flash.proofs.Parts.{length_part}
use Rattle.flash.proofs.Targets.{target-inside, target_fits, copy-fits}
use Rattle.flash.proofs.Writes.{length-blank, length-write, length-overlay, write-before, write_in, write-after, overlay-before, overlay-after}

-- ---- accepted

pub record Carried (g : Geometry) (len : ℕ) (s : Step) : Type 0 where
  pub valid : Valid g len
  pub is-accepted : accepted g s ≡ true

pub carried_out : (g : Geometry) (len : ℕ) (s : Step) → step_check g len s ≡ 0 → Carried g len s
unfolding step_check
carried_out g len s e = go (eqb (geometry_check g len) 0) refl (accepted g s) refl e
  where
    go : (b : Bool) → eqb (geometry_check g len) 0 ≡ b → (a : Bool) → accepted g s ≡ a
        → cond b (cond a 0 24) (geometry_check g len) ≡ 0 → Carried g len s
    go true p true q r = record { valid = valid g len (eqb-true _ _ p); is-accepted = q }
    go true p false q r = absurd (omega arith)
    go false p a q r = absurd (let h : eqb (geometry_check g len) 0 ≡ true = rw r refl in let z : ◌≡◌ {A = ℕ} 0 1 = cc in omega arith)

pub step-passes : (g : Geometry) (len : ℕ) (s : Step) → geometry_check g len ≡ 0 → accepted g s ≡ true → step_check g len s ≡ 0
unfolding step_check
step-passes g len s e a = rw (e, a)

pub flash-after : (g : Geometry) (f : List ℕ) (s : Step) → step_check g (length f) s ≡ 0 → flash_after g f s ≡ applied g f s
unfolding flash_after
flash-after g f s e = rw e

-- ---- only the target

overlay-only : (f : List ℕ) (at : ℕ) (d : List ℕ) (k : ℕ) → length d ≡ k → at + k ≤ length f → Only f (overlay f at d) at k
overlay-only f at d k e h =
    let fits : at + length d ≤ length f = omega arith in
    record { size = length-overlay f at d fits; others = others fits }
  where
    others : at + length d ≤ length f → (i : ℕ) → (i < at) ⊎ (at + k ≤ i) → get_or (overlay f at d) i 0 ≡ get_or f i 0
    others fits i (inl b) = overlay-before f at d fits i b
    others fits i (inr b) = overlay-after f at d fits i (omega arith)

write-only : (f : List ℕ) (at : ℕ) (d : List ℕ) (k : ℕ) → length d ≡ k → at + k ≤ length f → Only f (write f at d) at k
write-only f at d k e h = record { size = length-write f at d; others = others }
  where
    others : (i : ℕ) → (i < at) ⊎ (at + k ≤ i) → get_or (write f at d) i 0 ≡ get_or f i 0
    others i (inl b) = write-before f at d (omega arith) i b
    others i (inr b) = write-after f at d (omega arith) i (omega arith)

unchanged : (f : List ℕ) (at k : ℕ) → Only f f at k
unchanged f at k = record { size = refl; others = λ i b. refl }

module _ (g : Geometry) (f : List ℕ) where
  whole : (s : Step) → Valid g (length f) → accepted g s ≡ true → Only f (applied g f s) (target_start s) (target_size g s)
  unfolding closing
  whole (Erase at) v e = overlay-only f at (blank g.size) g.size (length-blank g.size) (target_fits g (length f) v (Erase at) e)
  whole (Copy from to) v e =
      let h = copy-fits g (length f) v (Copy from to) from to e refl in
      write-only f to (take g.size (drop from f)) g.size (length_part f from g.size h.1) h.2
  whole (Byte at x) v e = write-only f at (x ∷ []) 1 refl (target_fits g (length f) v (Byte at x) e)
  whole (Mark at) v e = write-only f at closing 4 refl (target_fits g (length f) v (Mark at) e)

  torn : (at : ℕ) (f' : List ℕ) → at + g.size ≤ length f → Torn g f at f' → Only f f' at g.size
  torn at f' h t = rw t.is (overlay-only f at t.left g.size t.size h)

  cut : (s : Step) → Valid g (length f) → accepted g s ≡ true → (f' : List ℕ) → Cut g f s f' → Only f f' (target_start s) (target_size g s)
  cut (Erase at) v e f' c = torn at f' (target_fits g (length f) v (Erase at) e) c.0
  cut (Copy from to) v e f' c = torn to f' (target_fits g (length f) v (Copy from to) e) c
  cut (Byte at x) v e f' (inl c) = rw c (unchanged f at 1)
  cut (Byte at x) v e f' (inr c) = rw c (whole (Byte at x) v e)
  cut (Mark at) v e f' (inl c) = rw c (unchanged f at 4)
  cut (Mark at) v e f' (inr c) = rw c (whole (Mark at) v e)

-- ---- bits

and-bit : (k x y : ℕ) → bit k (bit_and x y) ≤ bit k x
and-bit k x y = rw (and_shr x y k, and_mod (x / 2 ^ k) (y / 2 ^ k) 1) (and_le_l (x / 2 ^ k % 2) (y / 2 ^ k % 2))

write-clears : (f : List ℕ) (at : ℕ) (d : List ℕ) → at + length d ≤ length f → Clears f (write f at d)
write-clears f at d h i k = go (dec_lt i at) (dec_lt i (at + length d))
  where
    go : Dec (i < at) → Dec (i < at + length d) → bit k (get_or (write f at d) i 0) ≤ bit k (get_or f i 0)
    go (yes b) c = rw (write-before f at d (omega arith) i b) (le_of_eq refl)
    go (no b) (no c) = rw (write-after f at d (omega arith) i (omega arith)) (le_of_eq refl)
    go (no b) (yes c) =
        let e : at + (i - at) ≡ i = omega arith in
        subst (λ (j : ℕ). bit k (get_or (write f at d) j 0) ≤ bit k (get_or f j 0)) e
        (rw (write_in f at d (omega arith) (i - at) (omega arith)) (and-bit k (get_or f (at + (i - at)) 0) (get_or d (i - at) 0)))

clear : (g : Geometry) (f : List ℕ) (s : Step) → Valid g (length f) → accepted g s ≡ true → ClearsOnly g f s
unfolding closing
clear g f (Erase at) v e = tt
clear g f (Copy from to) v e =
    let h = copy-fits g (length f) v (Copy from to) from to e refl in
    write-clears f to (take g.size (drop from f)) (omega (arith, length_part f from g.size h.1, h.2))
clear g f (Byte at x) v e = write-clears f at (x ∷ []) (target_fits g (length f) v (Byte at x) e)
clear g f (Mark at) v e = write-clears f at closing (target_fits g (length f) v (Mark at) e)

pub changes : Changes
changes = record {
  only = λ g f s e. let h = carried_out g (length f) s e in record {
    inside = target-inside g (length f) h.valid s h.is-accepted;
    whole = whole g f s h.valid h.is-accepted;
    cut = cut g f s h.valid h.is-accepted;
  };
  clears = λ g f s e. let h = carried_out g (length f) s e in clear g f s h.valid h.is-accepted;
}

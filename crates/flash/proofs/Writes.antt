-- Bytes erased and written: lengths, and single bytes. Assumes nothing.
use Prim.Native.Nat.{ℕ, zero, suc, ◌+◌, ◌-◌, ◌≤◌, ◌<◌}
use mathlib.Core.List.{List, [], ◌∷◌, ◌++◌}
use mathlib.Core.Path.{◌≡◌, refl, sym, ap, ◌∙◌, subst}
use native.Mathlib.Nat.{not-suc-le-zero, le_of_suc-le-suc}
use native.Mathlib.Omega.{arith}
use lib.Bits.{bit_and, and_zero_l}
use lib.ListN.{set, length, take, drop, get_or, length-append, length-take, length-drop, length-replicate, take-append-drop, get_or-append}
use lib.Seq.{drop-cons, set_split, length-take-le, get_or-append-add, take_at, drop_at, get_or-take, get_or-drop}
use Rattle.flash.specs.Bytes.{blank, overlay, ands, write}

-- ---- lengths

pub length-blank : (k : ℕ) → length (blank k) ≡ k
unfolding blank
length-blank k = length-replicate k 255

pub length-ands : (f d : List ℕ) → length (ands f d) ≡ length f
unfolding ands
length-ands f [] = refl
length-ands [] (y ∷ d) = refl
length-ands (x ∷ f) (y ∷ d) = ap suc (length-ands f d)

pub length-write : (f : List ℕ) (at : ℕ) (d : List ℕ) → length (write f at d) ≡ length f
unfolding write
length-write f at d = rw (
  length-append (take at f) (ands (drop at f) d),
  length-ands (drop at f) d,
  ← length-append (take at f) (drop at f),
  take-append-drop at f,
)

pub length-overlay : (f : List ℕ) (at : ℕ) (d : List ℕ) → at + length d ≤ length f → length (overlay f at d) ≡ length f
unfolding overlay
length-overlay f at d h = simp (length-append, length-take, length-drop) (omega arith)

module _ (f : List ℕ) (at : ℕ) (h : at ≤ length f) where
  seam : length (take at f) ≡ at
  seam = length-take-le at f h

  pub take-write : (d : List ℕ) → take at (write f at d) ≡ take at f
  unfolding write
  take-write d = take_at (take at f) (ands (drop at f) d) at seam

  pub drop-write : (d : List ℕ) → drop at (write f at d) ≡ ands (drop at f) d
  unfolding write
  drop-write d = drop_at (take at f) (ands (drop at f) d) at seam

-- ---- single bytes

pub get_or-ands_in : (f d : List ℕ) (i : ℕ) → i < length d → get_or (ands f d) i 0 ≡ bit_and (get_or f i 0) (get_or d i 0)
unfolding ands
get_or-ands_in f [] i h = absurd (not-suc-le-zero h)
get_or-ands_in [] (y ∷ d) i h = sym (and_zero_l (get_or (y ∷ d) i 0))
get_or-ands_in (x ∷ f) (y ∷ d) zero h = refl
get_or-ands_in (x ∷ f) (y ∷ d) (suc i) h = get_or-ands_in f d i (le_of_suc-le-suc h)

get_or-ands_out : (f d : List ℕ) (i : ℕ) → length d ≤ i → get_or (ands f d) i 0 ≡ get_or f i 0
unfolding ands
get_or-ands_out f [] i h = refl
get_or-ands_out [] (y ∷ d) i h = refl
get_or-ands_out (x ∷ f) (y ∷ d) zero h = absurd (not-suc-le-zero h)
get_or-ands_out (x ∷ f) (y ∷ d) (suc i) h = get_or-ands_out f d i (le_of_suc-le-suc h)

module _ (f : List ℕ) (at : ℕ) (d : List ℕ) (h : at ≤ length f) where
  pub write-before : (i : ℕ) → i < at → get_or (write f at d) i 0 ≡ get_or f i 0
  unfolding write
  write-before i k =
      get_or-append (take at f) (ands (drop at f) d) 0 i (omega (arith, seam f at h)) ∙ get_or-take at f i 0 k

  from_at : (i : ℕ) → get_or (write f at d) (at + i) 0 ≡ get_or (ands (drop at f) d) i 0
  from_at i = sym (get_or-drop at (write f at d) i 0) ∙ ap (λ (l : List ℕ). get_or l i 0) (drop-write f at h d)

  pub write_in : (i : ℕ) → i < length d → get_or (write f at d) (at + i) 0 ≡ bit_and (get_or f (at + i) 0) (get_or d i 0)
  write_in i k = from_at i ∙ get_or-ands_in (drop at f) d i k ∙ rw (get_or-drop at f i 0)

  pub write-after : (i : ℕ) → at + length d ≤ i → get_or (write f at d) i 0 ≡ get_or f i 0
  write-after i k =
      let e : at + (i - at) ≡ i = omega arith in
      subst (λ (j : ℕ). get_or (write f at d) j 0 ≡ get_or f j 0) e
      (from_at (i - at) ∙ get_or-ands_out (drop at f) d (i - at) (omega arith) ∙ get_or-drop at f (i - at) 0)

module _ (f : List ℕ) (at : ℕ) (d : List ℕ) (h : at + length d ≤ length f) where
  head : length (take at f ++ d) ≡ at + length d
  head = simp (length-append, length-take) (omega arith)

  pub overlay-before : (i : ℕ) → i < at → get_or (overlay f at d) i 0 ≡ get_or f i 0
  unfolding overlay
  overlay-before i k =
      get_or-append (take at f ++ d) (drop (at + length d) f) 0 i (omega (arith, head))
      ∙ get_or-append (take at f) d 0 i (omega (arith, length-take at f)) ∙ get_or-take at f i 0 k

  pub overlay_in : (i : ℕ) → i < length d → get_or (overlay f at d) (at + i) 0 ≡ get_or d i 0
  unfolding overlay
  overlay_in i k =
      get_or-append (take at f ++ d) (drop (at + length d) f) 0 (at + i) (omega (arith, head))
      ∙ subst (λ (j : ℕ). get_or (take at f ++ d) (j + i) 0 ≡ get_or d i 0) (length-take-le at f (omega arith)) (get_or-append-add (take at f) d i 0)

  pub overlay-after : (i : ℕ) → at + length d ≤ i → get_or (overlay f at d) i 0 ≡ get_or f i 0
  unfolding overlay
  overlay-after i k =
      let e : length (take at f ++ d) + (i - (at + length d)) ≡ i = omega (arith, head) in
      let e' : at + length d + (i - (at + length d)) ≡ i = omega arith in
      subst (λ (j : ℕ). get_or (take at f ++ d ++ drop (at + length d) f) j 0 ≡ get_or f i 0) e
      (get_or-append-add (take at f ++ d) (drop (at + length d) f) (i - (at + length d)) 0
      ∙ get_or-drop (at + length d) f (i - (at + length d)) 0 ∙ ap (λ (j : ℕ). get_or f j 0) e')

-- ---- one byte, and all bytes

pub write-one : (f : List ℕ) (k x : ℕ) → k < length f → write f k (x ∷ []) ≡ set f k (bit_and (get_or f k 0) x)
unfolding write ands
write-one f k x h = rw (drop-cons f k 0 h) (sym (set_split f k (bit_and (get_or f k 0) x) h))

pub write-all : (f d : List ℕ) → write f 0 d ≡ ands f d
unfolding write
write-all f d = refl

-- Parts of a flash, n bytes from a on: apart from a write, around it, and one write after the other. Assumes nothing.
use Prim.Native.Nat.{ℕ, ◌+◌, ◌-◌, ◌≤◌, ◌<◌}
use mathlib.Core.List.{List, [], ◌∷◌, ◌++◌, append_assoc}
use mathlib.Core.Logic.{inl, inr}
use mathlib.Core.Path.{◌≡◌, refl, sym, ap, ◌∙◌}
use native.Mathlib.Decide.{dec_lt}
use native.Mathlib.Omega.{arith}
use lib.Bits.{bit_and}
use lib.ListN.{length, take, drop, get_or, length-take, length-drop}
use lib.Seq.{get_or-take, get_or-drop, drop-drop, take-add, ext_get_or}
use Rattle.flash.specs.Bytes.{overlay, ands, write}
use Rattle.flash.specs.Valid.{Apart}
use Rattle.flash.proofs.Writes.{length-write, length-overlay, take-write, drop-write, write-before, write_in, write-after, overlay_in}

-- ---- parts: n bytes from a on

pub length_part : (f : List ℕ) (a n : ℕ) → a + n ≤ length f → length (take n (drop a f)) ≡ n
length_part f a n h = simp (length-take, length-drop) (omega arith)

pub get_d_part : (f : List ℕ) (a n i : ℕ) → i < n → get_or (take n (drop a f)) i 0 ≡ get_or f (a + i) 0
get_d_part f a n i h = get_or-take n (drop a f) i 0 h ∙ get_or-drop a f i 0

-- a part is known by its bytes
pub part_is : (f : List ℕ) (a n : ℕ) (l : List ℕ) → a + n ≤ length f → length l ≡ n
    → ((i : ℕ) → i < n → get_or f (a + i) 0 ≡ get_or l i 0) → take n (drop a f) ≡ l
part_is f a n l h q e =
    ext_get_or 0 (take n (drop a f)) l (length_part f a n h ∙ sym q)
    (λ i r. let k : i < n = omega (arith, length_part f a n h) in get_d_part f a n i k ∙ e i k)

-- a part apart from what is written is as it was
pub write-apart : (f : List ℕ) (at : ℕ) (d : List ℕ) (a n : ℕ) → at + length d ≤ length f → a + n ≤ length f
    → Apart a n at (length d) → take n (drop a (write f at d)) ≡ take n (drop a f)
write-apart f at d a n h k w =
    part_is (write f at d) a n (take n (drop a f)) (omega (arith, length-write f at d)) (length_part f a n k)
    (λ i r. go i r w ∙ sym (get_d_part f a n i r))
  where
    go : (i : ℕ) → i < n → Apart a n at (length d) → get_or (write f at d) (a + i) 0 ≡ get_or f (a + i) 0
    go i r (inl b) = write-before f at d (omega arith) (a + i) (omega arith)
    go i r (inr b) = write-after f at d (omega arith) (a + i) (omega arith)

-- a part that holds what is written
pub write-within : (f : List ℕ) (a n k : ℕ) (d : List ℕ) → a + n ≤ length f → k + length d ≤ n
    → take n (drop a (write f (a + k) d)) ≡ write (take n (drop a f)) k d
write-within f a n k d h r =
    part_is (write f (a + k) d) a n (write s k d) (omega (arith, length-write f (a + k) d)) (length-write s k d ∙ long)
    (λ i l. go i l (dec_lt i k) (dec_lt i (k + length d)))
  where
    s : List ℕ
    s = take n (drop a f)

    long : length s ≡ n
    long = length_part f a n h

    go : (i : ℕ) → i < n → Dec (i < k) → Dec (i < k + length d) → get_or (write f (a + k) d) (a + i) 0 ≡ get_or (write s k d) i 0
    go i l (yes b) c =
        write-before f (a + k) d (omega arith) (a + i) (omega arith)
        ∙ sym (write-before s k d (omega (arith, long)) i b ∙ get_d_part f a n i l)
    go i l (no b) (no c) =
        write-after f (a + k) d (omega arith) (a + i) (omega arith)
        ∙ sym (write-after s k d (omega (arith, long)) i (omega arith) ∙ get_d_part f a n i l)
    go i l (no b) (yes c) =
        let e : a + i ≡ a + k + (i - k) = omega arith in
        let e' : i ≡ k + (i - k) = omega arith in
        ap (λ (x : ℕ). get_or (write f (a + k) d) x 0) e
        ∙ write_in f (a + k) d (omega arith) (i - k) (omega arith)
        ∙ ap (λ (x : ℕ). bit_and x (get_or d (i - k) 0)) (ap (λ (x : ℕ). get_or f x 0) (sym e) ∙ sym (get_d_part f a n i l) ∙ ap (λ (x : ℕ). get_or s x 0) e')
        ∙ sym (ap (λ (x : ℕ). get_or (write s k d) x 0) e' ∙ write_in s k d (omega (arith, long)) (i - k) (omega arith))

-- a part that is laid over
pub overlay-whole : (f : List ℕ) (a n : ℕ) (d : List ℕ) → a + n ≤ length f → length d ≡ n → take n (drop a (overlay f a d)) ≡ d
overlay-whole f a n d h q =
    let fits : a + length d ≤ length f = omega arith in
    part_is (overlay f a d) a n d (omega (arith, length-overlay f a d fits)) q (λ i l. overlay_in f a d fits i (omega arith))

-- ---- one write after the other

ands_nil : (e : List ℕ) → ands [] e ≡ []
unfolding ands
ands_nil [] = refl
ands_nil (y ∷ e) = refl

ands-append : (q d e : List ℕ) → take (length d) (ands q d) ++ ands (drop (length d) (ands q d)) e ≡ ands q (d ++ e)
unfolding ands
ands-append q [] e = refl
ands-append [] (y ∷ d) e = ands_nil e
ands-append (x ∷ q) (y ∷ d) e = ap (λ (l : List ℕ). bit_and x y ∷ l) (ands-append q d e)

pub write-write : (f : List ℕ) (at : ℕ) (d e : List ℕ) → at ≤ length f
    → write (write f at d) (at + length d) e ≡ write f at (d ++ e)
unfolding write
write-write f at d e h = rw (
  take-add at (length d) (write f at d),
  ← drop-drop (length d) at (write f at d),
  take-write f at h d,
  drop-write f at h d,
  append_assoc,
  ands-append (drop at f) d e,
)

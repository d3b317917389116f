-- A flag written: the other half of its byte and every other flag stay, and the progress goes one further. Assumes
-- nothing.
use Prim.Native.Nat.{ℕ, ◌+◌, ◌-◌, ◌*◌, ◌/◌, ◌%◌, ◌≤◌, ◌<◌}
use mathlib.Core.Bool.{Bool, true, false, cond}
use mathlib.Core.List.{List, [], ◌∷◌}
use mathlib.Core.Logic.{◌≢◌}
use mathlib.Core.Path.{◌≡◌, refl, sym, ap, ◌∙◌}
use native.Mathlib.Decide.{ℕ_discrete}
use native.Mathlib.Nat.{div-add-mod'}
use native.Mathlib.Omega.{arith}
use borrow.Author.Tests.{eqb-true, eqb-false, ltb-true}
use Rattle.std.specs.Prelude.{Some, None}
use lib.Arith.{digits_div, digits_mod}
use lib.Bits.{bit_and, and_self, and_block, and_le_r}
use lib.Dec.{eqb, ltb}
use lib.ListN.{length, get_or, set, length-set}
use lib.Seq.{drop-set-lt, get_or-set_same, get_or-set_other, ext_get_or}
use Rattle.flash.specs.Bytes.{write}
use Rattle.flash.specs.Cuts.{sound}
use Rattle.flash.specs.Steps.{applied}
use Rattle.flash.specs.Valid.{Valid}
use Rattle.flash.specs.declared.geometry.Geometry.{Geometry}
use Rattle.flash.specs.declared.steps.Step.{Step}
use Rattle.flash.proofs.Areas.{valid}
use Rattle.flash.proofs.Closing.{sound-is}
use Rattle.flash.proofs.Writes.{write-one}
use Rattle.slots.specs.Correspondence.{FlagsAt}
use Rattle.slots.specs.Exchange.{next_flag, next_flag_of}
use Rattle.slots.specs.FlagWritten.{Flagged, FlagWritten, NextFlag}
use Rattle.slots.specs.Flags.{new, swapping, backup, half, with_half, flag_at, flag, flags, flag_of, flag_step, flag_step_of}
use Rattle.slots.specs.Places.{trailer_of}
use Rattle.slots.specs.Trailers.{state}
use Rattle.slots.specs.declared.places.Place.TheVariants.{Sector}
use Rattle.slots.specs.declared.places.Slot.TheVariants.{Update}
use Rattle.slots.proofs.Apart.{length_at, sectors}
use Rattle.slots.proofs.Corresponding.{one_to_one, next-flags}
use Rattle.slots.proofs.Reading.{length-flags, get_or-flags}

-- ---- one half of a byte

module _ (b v : ℕ) (hv : v < 16) where
  low_and : bit_and b (b / 16 * 16 + v) ≡ b / 16 * 16 + bit_and (b % 16) v
  low_and =
      ap (λ (y : ℕ). bit_and y (b / 16 * 16 + v)) (sym (div-add-mod' b 16))
      ∙ and_block 4 (b / 16) (b / 16) (b % 16) v (omega arith) hv ∙ rw (and_self (b / 16))

  high_and : bit_and b (v * 16 + b % 16) ≡ bit_and (b / 16) v * 16 + b % 16
  high_and =
      ap (λ (y : ℕ). bit_and y (v * 16 + b % 16)) (sym (div-add-mod' b 16))
      ∙ and_block 4 (b / 16) v (b % 16) (b % 16) (omega arith) (omega arith) ∙ rw (and_self (b % 16))

  module _ (i : ℕ) where
    abbrev both : ℕ
    both = bit_and b (with_half i v b)

    half-same : half i both ≡ bit_and (half i b) v
    unfolding half with_half
    half-same = go (eqb (i % 2) 0)
      where
        go : (e : Bool) → (let w = bit_and b (cond e (b / 16 * 16 + v) (v * 16 + b % 16)) in cond e (w % 16) (w / 16)) ≡ bit_and (cond e (b % 16) (b / 16)) v
        go true = rw low_and (digits_mod (b / 16) (omega (arith, and_le_r (b % 16) v)))
        go false = rw high_and (digits_div (bit_and (b / 16) v) (omega arith))

    half-other : (j : ℕ) → j % 2 ≢ i % 2 → half j both ≡ half j b
    unfolding half with_half
    half-other j n = go (eqb (i % 2) 0) refl (eqb (j % 2) 0) refl
      where
        go : (e : Bool) → eqb (i % 2) 0 ≡ e → (d : Bool) → eqb (j % 2) 0 ≡ d
            → (let w = bit_and b (cond e (b / 16 * 16 + v) (v * 16 + b % 16)) in cond d (w % 16) (w / 16)) ≡ cond d (b % 16) (b / 16)
        go true p false q = rw low_and (digits_div (b / 16) (omega (arith, and_le_r (b % 16) v)))
        go false p true q = rw high_and (digits_mod (bit_and (b / 16) v) (omega arith))
        go true p true q = absurd (n (eqb-true (j % 2) 0 q ∙ sym (eqb-true (i % 2) 0 p)))
        go false p false q = absurd (n (odd j q ∙ sym (odd i p)))
          where
            odd : (k : ℕ) → eqb (k % 2) 0 ≡ false → k % 2 ≡ 1
            odd k r = let n = eqb-false (k % 2) 0 r in omega arith

-- ---- one flag of a trailer

module _ (t : List ℕ) (i v : ℕ) (hz : 256 ≤ length t) (hi : i < 64) (hv : v < 16) where
  abbrev k : ℕ
  k = flag_at (length t) i

  abbrev old : ℕ
  old = get_or t k 0

  abbrev and-old : ℕ
  and-old = bit_and old (with_half i v old)

  in_trailer : k < length t
  unfolding flag_at
  in_trailer = omega arith

  -- the byte that holds sector j's flag
  here : flag (set t k and-old) i ≡ bit_and (flag t i) v
  unfolding flag
  here = rw (length-set t k and-old, get_or-set_same t k and-old 0 in_trailer) (half-same old v hv i)

  other : (j : ℕ) → j < 64 → j ≢ i → flag (set t k and-old) j ≡ flag t j
  unfolding flag flag_at
  other j hj n = go (ℕ_discrete (j / 2) (i / 2))
    where
      go : Dec (j / 2 ≡ i / 2) → half j (get_or (set t k and-old) (flag_at (length (set t k and-old)) j) 0) ≡ half j (get_or t (flag_at (length t) j) 0)
      go (yes e) =
          let q : flag_at (length t) j ≡ k = ap (λ (y : ℕ). length t - 6 - y) e in
          rw (length-set t k and-old, q, get_or-set_same t k and-old 0 in_trailer) (half-other old v hv i j (omega arith))
      go (no e) = rw (length-set t k and-old, get_or-set_other t k (flag_at (length t) j) and-old 0 (omega arith))

  same-state : state (set t k and-old) ≡ state t
  unfolding flag_at
  same-state = rw (length-set t k and-old, get_or-set_other t k (length t - 5) and-old 0 (omega arith))

  same-sound : sound (set t k and-old) ≡ sound t
  unfolding flag_at
  same-sound = rw (sound-is (set t k and-old), sound-is t, length-set t k and-old, drop-set-lt (length t - 4) t k and-old (omega arith))

  pub flagged : Flagged t (write t k (with_half i v old ∷ [])) i v
  flagged = rw (write-one t k (with_half i v old) in_trailer)
      (record { here = here; other = other; same-state = same-state; same-sound = same-sound })

-- ---- the progress

-- each flag is the next one's superset of bits
next-clears : (p : ℕ) → bit_and (flag_of p) (next_flag (flag_of p)) ≡ next_flag (flag_of p)
unfolding flag_of next_flag
next-clears p = go (eqb (p % 3) 0) (eqb (p % 3) 1)
  where
    go : (a b : Bool) → (let v : ℕ = cond a new (cond b swapping backup) in bit_and v (next_flag v) ≡ next_flag v)
    go true b = refl
    go false true = refl
    go false false = refl

next_small : (v : ℕ) → next_flag v < 16
unfolding next_flag
next_small v = go (eqb v new) (eqb v swapping)
  where
    go : (a b : Bool) → cond a 7 (cond b 3 0) < 16
    go true b = omega arith
    go false true = omega arith
    go false false = omega arith

module _ (n p : ℕ) (t t' : List ℕ) (h : p < 3 * n) (hn : n ≤ 64) (e : FlagsAt n p (flags n t)) (c : Flagged t t' (p / 3) (next_flag (flag_of p))) where
  abbrev i : ℕ
  i = p / 3

  abbrev next : ℕ
  next = next_flag (flag_of p)

  is-next : flag t' i ≡ next
  is-next =
      let s = (((one_to_one n).says p (flags n t) e).current h).1 in
      let f : flag t i ≡ flag_of p = sym (get_or-flags n t i (omega arith)) ∙ s in
      c.here ∙ rw f (next-clears p)

  one_more : flags n t' ≡ set (flags n t) i next
  one_more =
      ext_get_or 0 (flags n t') (set (flags n t) i next) (length-flags n t' ∙ sym (length-set (flags n t) i next ∙ length-flags n t))
      (λ j r. go j (omega (arith, length-flags n t')) (ℕ_discrete j i))
    where
      go : (j : ℕ) → j < n → Dec (j ≡ i) → get_or (flags n t') j 0 ≡ get_or (set (flags n t) i next) j 0
      go j r (yes q) = rw q (get_or-flags n t' i (omega arith) ∙ is-next
          ∙ sym (get_or-set_same (flags n t) i next 0 (omega (arith, length-flags n t))))
      go j r (no q) = get_or-flags n t' j r ∙ c.other j (omega arith) q
          ∙ sym (get_or-set_other (flags n t) i j next 0 q ∙ get_or-flags n t j r)

  pub further : FlagsAt n (p + 1) (flags n t')
  further =
      let s = ((one_to_one n).says p (flags n t) e).only in
      rw (one_more, s, next-flags n p h) ((one_to_one n).stands (p + 1) (omega arith))

-- ---- the step

module _ (g : Geometry) (f : List ℕ) (p : ℕ) where
  abbrev t : List ℕ
  t = trailer_of g f Update

  abbrev due : Step
  due = flag_step_of g f (p / 3) (next_flag (flag_of p))

  is-due : (s : Step) → next_flag_of g f p ≡ Some s → (p < 3 * g.count) × (s ≡ due)
  unfolding next_flag_of
  is-due s e = go (ltb p (3 * g.count)) refl e
    where
      go : (b : Bool) → ltb p (3 * g.count) ≡ b → cond b (Some due) None ≡ Some s → (p < 3 * g.count) × (s ≡ due)
      go true q r = (ltb-true p (3 * g.count) q, cc)
      go false q r = absurd (let z : ◌≡◌ {A = ℕ} 0 1 = cc in omega arith)

  written : Valid g (length f) → p < 3 * g.count → FlagWritten g f p due
  unfolding flag_step flag_step_of flag_at
  written v h =
      let l : length t ≡ g.size = length_at g f v (Sector Update g.count) (omega arith) in
      let k : ℕ = flag_at (length t) (p / 3) in
      let b = ((sectors g f v).stepped (Sector Update g.count) (omega arith)).one_byte k (with_half (p / 3) (next_flag (flag_of p)) (get_or t k 0))
      (omega (arith, v.shape.size-min)) in
      let c : Flagged t (trailer_of g (applied g f due) Update) (p / 3) (next_flag (flag_of p)) =
      rw b (flagged t (p / 3) (next_flag (flag_of p)) (omega (arith, v.shape.size-min)) (omega (arith, v.shape.count-max)) (next_small (flag_of p))) in
      record { keeps = c; further = λ e. further g.count p t (trailer_of g (applied g f due) Update) h v.shape.count-max e c }

pub next-flag-written : NextFlag
next-flag-written g f p s e q =
    let d = is-due g f p s q in
    rw d.1 (written g f p (valid g (length f) e) d.0)

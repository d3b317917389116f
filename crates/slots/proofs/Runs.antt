-- Where a run of flags ends, read two at once, and what it says of the flags. Assumes nothing.
use Prim.Native.Nat.{ℕ, zero, suc, ◌+◌, ◌-◌, ◌*◌, ◌/◌, ◌%◌, ◌≤◌, ◌<◌}
use mathlib.Core.Bool.{Bool, true, false, cond}
use mathlib.Core.List.{List, reverse}
use mathlib.Core.Logic.{◌≢◌}
use mathlib.Core.Path.{◌≡◌, refl, sym, ap, ◌∙◌}
use native.Mathlib.Decide.{dec_lt, ℕ_discrete}
use native.Mathlib.Numerals.{add-one}
use native.Mathlib.Omega.{arith}
use borrow.Author.Tests.{eqb-true, eq-eqb, ne_eqb}
use lib.Dec.{eqb}
use lib.ListN.{length, take, drop, get_or, length-drop}
use lib.Seq.{length-take-le, get_or-take, get_or-drop}
use Rattle.std.proofs.lemmas.List.{get_or-reverse}
use Rattle.std.proofs.lemmas.List.Sums.{prefix_len_passes, suffix_len-le-length}
use Rattle.std.specs.List.{suffix_len}
use Rattle.std.specs.Option.{MatchOption, unwrap_or}
use Rattle.std.specs.Prelude.{Option, Some, None, Ok}
use Rattle.compare.specs.Compare.{all}
use Rattle.compare.proofs.Values.{all_at, all_of}
use Rattle.slots.specs.FlagKinds.{RunEnd}
use Rattle.slots.specs.Flags.{new, half, flag_at, flag, flags, progress_of, progress_at}
use Rattle.slots.proofs.Reading.{Finished, length-flags, get_or-flags, finished_go, current_is, all_finished}

-- ---- two at once

module _ (t : List ℕ) (n v : ℕ) (hz : 256 ≤ length t) (hn : n ≤ 64) (hv : v < 16) where
  -- each flag of a byte that is v twice
  each-half : (k : ℕ) → get_or t (flag_at (length t) k) 0 ≡ 17 * v → flag t k ≡ v
  unfolding flag half
  each-half k e = rw e (go (eqb (k % 2) 0))
    where
      go : (b : Bool) → cond b (17 * v % 16) (17 * v / 16) ≡ v
      go true = omega arith
      go false = omega arith

  -- the bytes of pair p and those behind it lie from a on; c at their end are v twice
  module _ (p a m c : ℕ) (hp : p ≤ n / 2) (ea : a ≡ length t - 5 - n / 2) (em : m ≡ n / 2 - p)
      (ec : c ≡ suffix_len (λ b. eqb b (17 * v)) (take m (drop a t))) where
    abbrev part : List ℕ
    part = take m (drop a t)

    size : length part ≡ m
    size = length-take-le m (drop a t) (omega (arith, length-drop a t))

    pub pairs_in : c ≤ n / 2 - p
    pairs_in = omega (arith, size, suffix_len-le-length (λ b. eqb b (17 * v)) part)

    alike_pairs : (k : ℕ) → 2 * p ≤ k → k < 2 * (p + c) → flag t k ≡ v
    unfolding flag_at
    alike_pairs k l h = each-half k (sym place ∙ eqb-true _ (17 * v) (prefix_len_passes (λ b. eqb b (17 * v)) (reverse part) j 0 (omega arith)))
      where
        j : ℕ
        j = k / 2 - p

        place : get_or (reverse part) j 0 ≡ get_or t (length t - 6 - k / 2) 0
        place =
            get_or-reverse part j 0 (omega (arith, size, pairs_in))
            ∙ get_or-take m (drop a t) (length part - 1 - j) 0 (omega (arith, size, pairs_in)) ∙ get_or-drop a t (length part - 1 - j) 0
            ∙ ap (λ (x : ℕ). get_or t x 0) (omega (arith, size, pairs_in))

    pub alike_from : (from : ℕ) → p ≡ (from + 1) / 2 → flag t from ≡ v → (k : ℕ) → from ≤ k → k < 2 * (p + c) → flag t k ≡ v
    alike_from from e f k l h = go (dec_lt k (2 * p))
      where
        go : Dec (k < 2 * p) → flag t k ≡ v
        go (yes b) = let first : k ≡ from = omega arith in rw first f
        go (no b) = alike_pairs k (omega arith) h

-- what follows a run that goes on
pub run_on : (n : ℕ) (t : List ℕ) (v from s end : ℕ) → from ≤ s → ((k : ℕ) → from ≤ k → k < s → flag t k ≡ v) → RunEnd n t v s end → RunEnd n t v from end
run_on n t v from s end h before r = record { low = omega (arith, r.low); high = r.high; alike = λ k l m. go k l m (dec_lt k s); other = r.other }
  where
    go : (k : ℕ) → from ≤ k → k < end → Dec (k < s) → flag t k ≡ v
    go k l m (yes b) = before k l b
    go k l m (no b) = r.alike k (omega arith) m

-- ---- one by one

pub run_found : (n : ℕ) (t : List ℕ) (v from : ℕ) → from ≤ n → (r : Option ℕ)
    → MatchOption r ((k : ℕ) → from ≤ k → k < n → flag t k ≡ v) (λ i. (from ≤ i) × (i < n) × (flag t i ≢ v) × ((k : ℕ) → from ≤ k → k < i → flag t k ≡ v))
    → RunEnd n t v from (unwrap_or r n)
run_found n t v from low None h = record { low = low; high = omega arith; alike = h; other = λ e. absurd (omega arith) }
run_found n t v from low (Some i) h = record { low = h.0; high = omega (arith, h.1); alike = h.3; other = λ e. h.2 }

-- ---- what a run says

pub all_run : (n : ℕ) (t : List ℕ) (v from end : ℕ) → RunEnd n t v from end → eqb end n ≡ all v (drop from (flags n t))
all_run n t v from end r = go (ℕ_discrete end n)
  where
    rest : List ℕ
    rest = drop from (flags n t)

    at : (i : ℕ) → from + i < n → get_or rest i 0 ≡ flag t (from + i)
    at i h = get_or-drop from (flags n t) i 0 ∙ get_or-flags n t (from + i) h

    some_other : end < n → (b : Bool) → all v rest ≡ b → false ≡ b
    some_other h true e =
        let i : from + (end - from) ≡ end = omega (arith, r.low) in
        absurd (r.other h (rw i at (sym (at (end - from) (omega arith)) ∙ all_at v rest e (end - from) (omega (arith, length-drop from (flags n t), length-flags n t)))))
    some_other h false e = refl

    go : Dec (end ≡ n) → eqb end n ≡ all v rest
    go (yes e) = eq-eqb end n e ∙ sym (all_of v rest (λ i h.
        let k : from + i < n = omega (arith, length-drop from (flags n t), length-flags n t) in
        at i k ∙ r.alike (from + i) (omega arith) (omega arith)))
    go (no d) = ne_eqb end n d ∙ some_other (omega (arith, r.high)) (all v rest) refl

finished_run : (n : ℕ) (t : List ℕ) (end : ℕ) → RunEnd n t 0 0 end → Finished (flags n t) end
finished_run n t end r = go end (omega arith)
  where
    go : (i : ℕ) → i ≤ end → Finished (flags n t) i
    go zero h = record { formed = refl; reached = omega arith }
    go (suc i) h = rw add-one at (finished_go n i t (go i (omega arith)) (omega (arith, r.high)) refl (r.alike i (omega arith) (omega arith)))

module _ (n : ℕ) (t : List ℕ) (end : ℕ) (r : RunEnd n t 0 0 end) where
  pub progress_done : end ≡ n → progress_of (flags n t) ≡ Ok (3 * end)
  progress_done e = all_finished n end t (finished_run n t end r) (omega arith)

  -- by what stands where the current sector's flag is
  pub progress-current : (x : ℕ) → end < n → x ≡ flag t end → (x ≢ 0) × (progress_of (flags n t) ≡ progress_at end x (all new (drop (end + 1) (flags n t))))
  progress-current x h e =
      let z : x ≢ 0 = λ q. r.other h (sym e ∙ q) in
      (z, current_is n end t (finished_run n t end r) h e z)

-- The flags read one after the other, and the progress from them. Assumes nothing.
use Prim.Native.Nat.{ℕ, zero, suc, ◌+◌, ◌*◌, ◌≤◌, ◌<◌}
use mathlib.Core.Bool.{Bool, cond}
use mathlib.Core.List.{List, [], ◌∷◌}
use mathlib.Core.Logic.{◌≢◌}
use mathlib.Core.Path.{◌≡◌, refl, sym, ap}
use native.Mathlib.Nat.{add-zero}
use native.Mathlib.Numerals.{add-one}
use native.Mathlib.Omega.{arith}
use borrow.Author.Tests.{ne_eqb}
use lib.ListN.{length, drop, get_or, drop_of_length-le}
use lib.Seq.{drop-cons}
use Rattle.std.specs.Prelude.{Result, Ok, Err}
use Rattle.compare.specs.Compare.{all}
use Rattle.slots.specs.FlagKinds.{value}
use Rattle.slots.specs.Flags.{flag, tab, flags, well_formed, stage, progress, progress_of, progress_at, new}
use Rattle.slots.specs.declared.flags.Flag.{Flag}
use Rattle.slots.specs.declared.flags.Flag.TheVariants.{New, Swapping, Backup, Updated}

length-tab : (n : ℕ) (h : ℕ → ℕ) → length (tab n h) ≡ n
unfolding tab
length-tab zero h = refl
length-tab (suc n) h = ap suc (length-tab n (λ k. h (suc k)))

get_or-tab : (n : ℕ) (h : ℕ → ℕ) (i : ℕ) → i < n → get_or (tab n h) i 0 ≡ h i
unfolding tab
get_or-tab zero h i k = absurd (omega arith)
get_or-tab (suc n) h zero k = refl
get_or-tab (suc n) h (suc i) k = get_or-tab n (λ j. h (suc j)) i (omega arith)

module _ (n : ℕ) (t : List ℕ) where
  pub length-flags : length (flags n t) ≡ n
  unfolding flags
  length-flags = length-tab n (flag t)

  pub get_or-flags : (i : ℕ) → i < n → get_or (flags n t) i 0 ≡ flag t i
  unfolding flags
  get_or-flags i h = get_or-tab n (flag t) i h

  drop-flags : (i : ℕ) → i < n → drop i (flags n t) ≡ flag t i ∷ drop (i + 1) (flags n t)
  drop-flags i h = rw (drop-cons (flags n t) i 0 (rw length-flags h), get_or-flags i h, add-one)

  no-flags-left : (i : ℕ) → n ≤ i → drop i (flags n t) ≡ []
  no-flags-left i h = drop_of_length-le (flags n t) (rw length-flags h)

-- ---- the flags from the first on: those of so many finished sectors, then the rest

pub record Finished (fs : List ℕ) (i : ℕ) : Type 0 where
  pub formed : well_formed fs ≡ well_formed (drop i fs)
  pub reached : progress fs ≡ 3 * i + progress (drop i fs)

module _ (n i : ℕ) (t : List ℕ) (p : Finished (flags n t) i) where
  module _ (h : i < n) {x : ℕ} (e : x ≡ flag t i) where
    this : drop i (flags n t) ≡ x ∷ drop (i + 1) (flags n t)
    this = rw (drop-flags n t i h, e)

    pub finished_go : x ≡ 0 → Finished (flags n t) (i + 1)
    unfolding well_formed progress
    finished_go z = record {
      formed = rw (this, z) at p.formed;
      reached = let r = rw (this, z) at p.reached in omega arith;
    }

    -- where its flag isn't 0
    pub current_is : x ≢ 0 → progress_of (flags n t) ≡ progress_at i x (all new (drop (i + 1) (flags n t)))
    unfolding well_formed progress progress_of progress_at
    current_is z = let a = ne_eqb x 0 z in rw (rw (this, a) at p.formed, rw (this, a) at p.reached)

  pub all_finished : n ≤ i → progress_of (flags n t) ≡ Ok (3 * i)
  unfolding well_formed progress progress_of
  all_finished h = let e = no-flags-left n t i h in rw (rw e at p.formed, rw e at p.reached, add-zero)

-- ---- a flag as it was read

pub flag_counts : (f : Flag) (i : ℕ) (rest : Bool) → value f ≢ 0 → progress_at i (value f) rest ≡ cond {A = Result ℕ ℕ} rest (Ok (3 * i + stage (value f))) (Err 20)
unfolding progress_at
flag_counts New i rest z = refl
flag_counts Swapping i rest z = refl
flag_counts Backup i rest z = refl
flag_counts Updated i rest z = absurd (z refl)

-- what stands there is no flag
pub none_counts : (x i : ℕ) (rest : Bool) → ((f : Flag) → value f ≢ x) → progress_at i x rest ≡ Err 20
unfolding progress_at
none_counts x i rest n =
    let a : x ≢ 15 = λ e. n New (sym e) in
    let b : x ≢ 7 = λ e. n Swapping (sym e) in
    let c : x ≢ 3 = λ e. n Backup (sym e) in
    rw (ne_eqb x 15 a, ne_eqb x 7 b, ne_eqb x 3 c)

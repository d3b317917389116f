-- What the progress that was read says of the flags. Assumes nothing.
use Prim.Native.Nat.{ℕ}
use mathlib.Core.Bool.{Bool, true, false, cond}
use mathlib.Core.List.{List, [], ◌∷◌}
use mathlib.Core.Path.{◌≡◌, refl, sym, ◌∙◌}
use native.Mathlib.Omega.{arith}
use Rattle.std.specs.Prelude.{Result, Ok, Err}
use lib.Dec.{eqb}
use lib.ListN.{length}
use Rattle.compare.specs.Compare.{all}
use Rattle.compare.proofs.Tests.{never, and_left, and_right}
use Rattle.compare.proofs.Values.{all-only}
use Rattle.slots.specs.Correspondence.{FlagsAt, Says}
use Rattle.slots.specs.Flags.{new, updated, flags, well_formed, progress, progress_of}
use Rattle.slots.proofs.Corresponding.{flags-new, one_to_one}
use Rattle.slots.proofs.Reading.{length-flags}

-- all flags 0 are well formed
updated-formed : (fs : List ℕ) → all updated fs ≡ true → well_formed fs ≡ true
unfolding all well_formed
updated-formed [] e = refl
updated-formed (x ∷ xs) e = rw (and_left (eqb x 0) (all 0 xs) e) (updated-formed xs (and_right (eqb x 0) (all 0 xs) e))

module _ (fs : List ℕ) where
  pub flags_at : (p : ℕ) → progress_of fs ≡ Ok p → FlagsAt (length fs) p fs
  unfolding progress_of
  flags_at p = go (well_formed fs) refl
    where
      go : (b : Bool) → well_formed fs ≡ b → cond {A = Result ℕ ℕ} b (Ok (progress fs)) (Err 20) ≡ Ok p → FlagsAt (length fs) p fs
      go true w e = record { count = refl; formed = w; reached = cc }
      go false w e = absurd (let z : ◌≡◌ {A = ℕ} 0 1 = cc in omega arith)

  pub new_at : (p : ℕ) → progress_of fs ≡ Ok p → all new fs ≡ eqb p 0
  new_at p e = ((one_to_one (length fs)).says p fs (flags_at p e)).all_new

  pub ill_formed : (n : ℕ) → progress_of fs ≡ Err n → (well_formed fs ≡ false) × (n ≡ 20)
  unfolding progress_of
  ill_formed n = go (well_formed fs)
    where
      go : (b : Bool) → cond {A = Result ℕ ℕ} b (Ok (progress fs)) (Err 20) ≡ Err n → (b ≡ false) × (n ≡ 20)
      go true e = absurd (let z : ◌≡◌ {A = ℕ} 0 1 = cc in omega arith)
      go false e = (refl, cc)

  -- all flags F are too
  new-formed : all new fs ≡ true → well_formed fs ≡ true
  new-formed h =
      let e : fs ≡ _ = all-only new fs h ∙ sym (flags-new (length fs)) in
      rw e ((one_to_one (length fs)).stands 0 (omega arith)).formed

  -- so flags that are refused are neither
  formed-only : (b : Bool) → (b ≡ true → well_formed fs ≡ true) → (n : ℕ) → progress_of fs ≡ Err n → b ≡ false
  formed-only true w n e = never (sym (w refl) ∙ (ill_formed n e).0)
  formed-only false w n e = refl

  pub new-refused : (n : ℕ) → progress_of fs ≡ Err n → all new fs ≡ false
  new-refused = formed-only (all new fs) new-formed

  pub updated-refused : (n : ℕ) → progress_of fs ≡ Err n → all updated fs ≡ false
  updated-refused = formed-only (all updated fs) (updated-formed fs)

-- what the progress read in a trailer says of its flags
pub flags-says : (n : ℕ) (t : List ℕ) (p : ℕ) → progress_of (flags n t) ≡ Ok p → Says n p (flags n t)
flags-says n t p e =
    let h = flags_at (flags n t) p e in
    (one_to_one n).says p (flags n t) (record { count = length-flags n t; formed = h.formed; reached = h.reached })

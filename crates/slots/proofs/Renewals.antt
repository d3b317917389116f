-- A trailer as the code reads it, and its renewal by the tests. Assumes nothing.
use Prim.Native.Nat.{ℕ, ◌-◌, ◌≤◌}
use mathlib.Core.Bool.{Bool, true, false, ◌&&◌}
use mathlib.Core.List.{List, [], ◌∷◌}
use mathlib.Core.Path.{◌≡◌, refl, sym, ◌∙◌}
use native.Mathlib.Omega.{arith}
use lib.Dec.{eqb}
use lib.ListN.{length, take, drop, get_or}
use Rattle.std.specs.List.{ends_with}
use Rattle.compare.specs.Compare.{same, all}
use Rattle.compare.proofs.Sameness.{same_equal, same_self, same_pointwise}
use Rattle.compare.proofs.Tests.{never}
use Rattle.flash.specs.Cuts.{sound}
use Rattle.flash.specs.declared.geometry.Geometry.{Geometry}
use Rattle.flash.proofs.Closing.{closing-is, sound-is}
use Rattle.flash.proofs.Loops.{all_of_it}
use Rattle.slots.specs.Trailers.{flag_count, all_but_state}
use Rattle.slots.specs.declared.places.Slot.{Slot}
use Rattle.slots.specs.declared.places.Slot.TheVariants.{Boot, Update}

same_turned : (a b : List ℕ) → same a b ≡ same b a
same_turned a b = go (same a b) refl (same b a) refl
  where
    go : (x : Bool) → same a b ≡ x → (y : Bool) → same b a ≡ y → x ≡ y
    go true e true d = refl
    go true e false d = let q = same_equal a b e in never (sym (same_self a) ∙ rw (← q) at d)
    go false e true d = let q = same_equal b a d in never (sym (same_self b) ∙ rw (← q) at e)
    go false e false d = refl

pub sound_read : (t : List ℕ) (r : Bool) → r ≡ ends_with eqb t (0x42 ∷ 0x4F ∷ 0x4F ∷ 0x54 ∷ []) → r ≡ sound t
sound_read t r e = rw (sound-is t, closing-is) (e ∙ same_pointwise _ _ ∙ same_turned _ _)

module _ (t : List ℕ) (h : 256 ≤ length t) where
  five : length t - 4 - 1 ≡ length t - 5
  five = omega arith

  pub all_read : (v : ℕ) (r q : Bool) → r ≡ all 0xFF (take (length t - 4 - 1) t) → q ≡ all 0xFF (take (length t - (length t - 4)) (drop (length t - 4) t))
      → (r && eqb (get_or t (length t - 4 - 1) 0) v && q) ≡ all_but_state t v
  unfolding all_but_state
  all_read v r q e d = rw (e, d, all_of_it t (length t - 4) (omega arith), five)

pub flag-count-max : (g : Geometry) (s : Slot) → g.count ≤ 64 → flag_count g s ≤ 64
flag-count-max g Boot h = omega arith
flag-count-max g Update h = h

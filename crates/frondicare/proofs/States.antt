-- A slot's state as C gets it, by what is found: the geometry, the closing bytes, the state byte. Assumes nothing.
use Prim.Native.Nat.{ℕ}
use mathlib.Core.Bool.{Bool, true, false, cond, ◌&&◌}
use mathlib.Core.Path.{◌≡◌, refl, sym}
use native.Mathlib.Omega.{arith}
use borrow.Author.Tests.{eqb-true, eq-eqb}
use lib.Dec.{eqb}
use lib.ListN.{length}
use Rattle.flash.specs.Cuts.{sound}
use Rattle.flash.specs.Geometry.{geometry_check}
use Rattle.slots.specs.Answers.{sound_answer, state_answer}
use Rattle.slots.specs.Places.{trailer_of}
use Rattle.slots.specs.Trailers.{state, sound_with, state_of}
use Rattle.std.specs.Prelude.{Some, None, Ok, Err}
use Rattle.compare.proofs.Tests.{never}
use Rattle.frondicare.specs.States.{flat_state, StatesTold, StatesNumbered}

pub states_told : StatesTold
unfolding sound_answer state_answer sound_with state_of
states_told g f s v small = record { only = only (eqb n 0) (sound (trailer_of g f s)); always = always (eqb n 0) (sound (trailer_of g f s)) }
  where
    n : ℕ
    n = geometry_check g (length f)

    x : ℕ
    x = state (trailer_of g f s)

    only : (a b : Bool) → (flat_state (cond a (Ok (cond b (Some x) None)) (Err n))).state ≡ v → (a && (b && eqb x v)) ≡ true
    only true true e = eq-eqb x v e
    only true false e = absurd (omega arith)
    only false b e = absurd (omega arith)

    always : (a b : Bool) → (a && (b && eqb x v)) ≡ true → (flat_state (cond a (Ok (cond b (Some x) None)) (Err n))).state ≡ v
    always true true e = eqb-true x v e
    always true false e = never (sym e)
    always false b e = never (sym e)

pub states_numbered : StatesNumbered
unfolding state_answer state_of
states_numbered g f s = go (eqb n 0) refl (sound (trailer_of g f s))
  where
    n : ℕ
    n = geometry_check g (length f)

    x : ℕ
    x = state (trailer_of g f s)

    go : (a : Bool) → eqb n 0 ≡ a → (b : Bool) → (flat_state (cond a (Ok (cond b (Some x) None)) (Err n))).number ≡ n
    go true e true = sym (eqb-true n 0 e)
    go true e false = sym (eqb-true n 0 e)
    go false e b = refl

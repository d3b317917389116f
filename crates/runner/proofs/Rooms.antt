-- The room of the counters. Assumes nothing.
use Prim.Native.Nat.{ℕ, ◌-◌, ◌≤◌, ◌<◌}
use mathlib.Core.Bool.{Bool, true, false, ◌&&◌}
use mathlib.Core.Path.{◌≡◌, refl, sym, ◌∙◌}
use native.Mathlib.Omega.{arith}
use borrow.Author.Rules.{rules}
use borrow.Author.Tests.{leb-true, eq-eqb}
use lib.Dec.{eqb, leb}
use Rattle.compare.proofs.Tests.{never, and_left, and_right}
use Rattle.flash.specs.Geometry.{unless, geometry_check}
use Rattle.flash.specs.declared.geometry.Geometry.{Geometry}
use Rattle.flash.specs.declared.steps.Step.{Step}
use Rattle.flash.specs.declared.steps.Step.TheVariants.{Erase, Copy, Byte, Mark}
use Rattle.refusal.specs.Numbers.{number}
use Rattle.runner.specs.Runs.{run_check}
use Rattle.runner.specs.Counts.{with_step, roomy, counts_check, RoomFor}
use Rattle.runner.specs.declared.counts.StepCounts.{StepCounts}

abbrev most : ℕ
most = 4294963199

pub roomy_for : (c : StepCounts) (n : ℕ) → roomy c ≡ true → n ≤ 4096 → RoomFor c n
unfolding roomy
roomy_for c n h k =
    let e = leb c.erases most in
    let p = leb c.copies most in
    let b = leb c.bytes most in
    let three = and_left (e && p && b) (leb c.marks most) h in
    let two = and_left (e && p) b three in
    let he = leb-true c.erases most (and_left e p two) in
    let hp = leb-true c.copies most (and_right e p two) in
    let hb = leb-true c.bytes most (and_right (e && p) b three) in
    let hm = leb-true c.marks most (and_right (e && p && b) (leb c.marks most) h) in
    record { erases_in = omega arith; copies_in = omega arith; bytes_in = omega arith; marks_in = omega arith }

-- a step takes one from the room
pub room_less : (c : StepCounts) (n : ℕ) (s : Step) → 0 < n → RoomFor c n → RoomFor (with_step c s) (n - 1)
room_less c n (Erase at) h r = search rules
room_less c n (Copy from to) h r = search rules
room_less c n (Byte at v) h r = search rules
room_less c n (Mark at) h r = search rules

-- a record that is not refused has room for a step
pub room_to_add : (c : StepCounts) → 0 ≡ counts_check c → RoomFor c 1
unfolding counts_check
room_to_add c = go (roomy c) refl
  where
    go : (b : Bool) → roomy c ≡ b → 0 ≡ unless b 28 0 → RoomFor c 1
    go true p e = roomy_for c 1 p (omega arith)
    go false p e = absurd (omega arith)

-- a run that is not refused has room for its steps
pub run_room : (g : Geometry) (len number : ℕ) (c : StepCounts) → 0 ≡ run_check g len number c → RoomFor c number
unfolding run_check counts_check
run_room g len number c = go (eqb (geometry_check g len) 0) (leb number 4096) (roomy c) refl refl refl
  where
    go : (x y z : Bool) → eqb (geometry_check g len) 0 ≡ x → leb number 4096 ≡ y → roomy c ≡ z
        → 0 ≡ unless x (geometry_check g len) (unless y 29 (unless z 28 0)) → RoomFor c number
    go true true true p q r e = roomy_for c number r (leb-true number 4096 q)
    go true true false p q r e = absurd (omega arith)
    go true false true p q r e = absurd (omega arith)
    go true false false p q r e = absurd (omega arith)
    go false y z p q r e = never (sym (eq-eqb (geometry_check g len) 0 (sym e)) ∙ p)

-- A run between two steps: what it leaves from there on is what the whole run leaves, and the record has room for the
-- steps that are left. Assumes nothing.
use Prim.Native.Nat.{ℕ, ◌-◌, ◌<◌}
use mathlib.Core.Bool.{Bool, cond}
use mathlib.Core.List.{List}
use mathlib.Core.Path.{◌≡◌, refl, subst}
use lib.ListN.{length}
use Rattle.flash.specs.declared.geometry.Geometry.{Geometry}
use Rattle.flash.specs.declared.steps.Step.{Step}
use Rattle.loader.specs.Answers.{Answer}
use Rattle.loader.specs.Answers as A
use Rattle.loader.specs.Checks.{Checks, image_checks}
use Rattle.loader.specs.Decisions.{next_step}
use Rattle.runner.specs.Counts.{with_step, with_steps, RoomFor}
use Rattle.runner.specs.Runs.{Outcome, after_answer, turns, run_for, run_check, run_of, Leaves}
use Rattle.runner.specs.declared.counts.StepCounts.{StepCounts}
use Rattle.runner.proofs.Rooms.{room_less, run_room}
use Rattle.runner.proofs.Turns.{due, met_step, met_last, met_boot, met_refused}

-- the outcome r from the record c on leaves what the outcome o from c₀ on leaves
pub record Same (c₀ : StepCounts) (o : Outcome) (c : StepCounts) (r : Outcome) : Type 0 where
  pub answer : r.answer ≡ o.answer
  pub flash : r.flash ≡ o.flash
  pub counts : with_steps c r.steps ≡ with_steps c₀ o.steps

-- n steps are left, a and b are the signature checker's answers
pub record Running (checks : Checks) (g : Geometry) (c₀ : StepCounts) (o : Outcome) (n : ℕ) (a b : Bool) (f : List ℕ) (c : StepCounts) : Type 0 where
  pub same : Same c₀ o c (run_for checks g n a b f)
  pub room : RoomFor c n

module _ (g : Geometry) (c : StepCounts) (n : ℕ) (a b : Bool) (f : List ℕ) where
  pub starts : (m : ℕ) → m ≡ n → 0 ≡ run_check g (length f) n c
      → Running image_checks g c (run_of image_checks g n a b f c) m a b f c
  unfolding run_of
  starts m k e = rw (k, ← e) (record { same = record { answer = refl; flash = refl; counts = refl }; room = run_room g (length f) n c e })

module _ {checks : Checks} {g : Geometry} {c₀ c : StepCounts} {o : Outcome} {n : ℕ} {a b : Bool} {f : List ℕ}
    (run : Running checks g c₀ o n a b f c) {x : Answer} (e : x ≡ next_step checks g f a b) where
  -- with the number used up
  pub used_up : n < 1 → Leaves c₀ o x f c
  unfolding with_steps
  used_up h = let s = subst (Same c₀ o c) (due checks g n a b f e h) run.same in ((s.answer, s.flash), s.counts)

  module _ {f' : List ℕ} (pos : 0 < n) (p : f' ≡ after_answer g f x) where
    pub goes_on : {s : Step} {turned a' b' : Bool} {c' : StepCounts} (m : ℕ) → m ≡ n - 1 → x ≡ A.Step s → c' ≡ with_step c s → turned ≡ turns g f x
        → a' ≡ cond turned b a → b' ≡ cond turned a b → Running checks g c₀ o m a' b' f' c'
    unfolding with_steps
    goes_on {s} m k q i w u v =
        let t = subst (Same c₀ o c) (met_step checks g n a b f e pos p q w u v) run.same in
        rw (k, i) (record {
          same = record { answer = t.answer; flash = t.flash; counts = t.counts };
          room = room_less c n s pos run.room;
        })

    pub ends_last : {s : Step} {c' : StepCounts} → x ≡ A.LastStep s → c' ≡ with_step c s → Leaves c₀ o (A.Boot 0) f' c'
    unfolding with_steps
    ends_last q i = let t = subst (Same c₀ o c) (met_last checks g n a b f e pos p q) run.same in rw i ((t.answer, t.flash), t.counts)

    pub ends_boot : {why : ℕ} → x ≡ A.Boot why → Leaves c₀ o x f' c
    unfolding with_steps
    ends_boot q = let t = subst (Same c₀ o c) (met_boot checks g n a b f e pos p q) run.same in ((t.answer, t.flash), t.counts)

    pub ends_refused : {number : ℕ} → x ≡ A.Refused number → Leaves c₀ o x f' c
    unfolding with_steps
    ends_refused q = let t = subst (Same c₀ o c) (met_refused checks g n a b f e pos p q) run.same in ((t.answer, t.flash), t.counts)

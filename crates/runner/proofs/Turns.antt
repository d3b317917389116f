-- The turns of a run: what it leaves, by what is decided and done first. Assumes nothing.
use Prim.Native.Nat.{ℕ, zero, suc, ◌-◌, ◌<◌}
use mathlib.Core.Bool.{Bool, cond}
use mathlib.Core.List.{List}
use mathlib.Core.Path.{◌≡◌}
use native.Mathlib.Numerals.{sub-one}
use native.Mathlib.Omega.{arith}
use Rattle.flash.specs.declared.geometry.Geometry.{Geometry}
use Rattle.flash.specs.declared.steps.Step.{Step}
use Rattle.loader.specs.Checks.{Checks}
use Rattle.loader.specs.Decisions.{next_step}
use Rattle.loader.specs.Answers.{Answer}
use Rattle.loader.specs.Answers as A
use Rattle.runner.specs.Runs.{after_answer, turns, ends, did, meets, run_for}

module _ (checks : Checks) (g : Geometry) (n : ℕ) (a b : Bool) (f : List ℕ) {x : Answer} (e : x ≡ next_step checks g f a b) where
  pub due : n < 1 → run_for checks g n a b f ≡ ends x f
  unfolding run_for
  due h = let z : n ≡ 0 = omega arith in rw (z, e)

  module _ {f' : List ℕ} (pos : 0 < n) (p : f' ≡ after_answer g f x) where
    met : run_for checks g n a b f ≡ meets g (run_for checks g (n - 1)) a b f x
    unfolding run_for
    met = go n pos
      where
        go : (m : ℕ) → 0 < m → run_for checks g m a b f ≡ meets g (run_for checks g (m - 1)) a b f x
        go zero h = absurd (omega arith)
        go (suc m) h = rw (sub-one, e)

    pub met_last : {s : Step} → x ≡ A.LastStep s → run_for checks g n a b f ≡ did s (ends (A.Boot 0) f')
    unfolding meets
    met_last q = rw (met, p, q)

    pub met_boot : {why : ℕ} → x ≡ A.Boot why → run_for checks g n a b f ≡ ends x f'
    unfolding meets
    met_boot q = rw (met, p, q)

    pub met_refused : {number : ℕ} → x ≡ A.Refused number → run_for checks g n a b f ≡ ends x f'
    unfolding meets
    met_refused q = rw (met, p, q)

    pub met_step : {s : Step} {turned a' b' : Bool} → x ≡ A.Step s → turned ≡ turns g f x → a' ≡ cond turned b a → b' ≡ cond turned a b
        → run_for checks g n a b f ≡ did s (run_for checks g (n - 1) a' b' f')
    unfolding meets
    met_step q w u v = rw (met, u, v, w, p, q)

-- How far a run has come. Assumes nothing.
use Rattle.std.proofs.Common.{◌≡◌, ℕ, ◌+◌, ◌-◌, ◌<◌, ◌≤◌, Bool, cond, List, Result, Ok, Err, OnErr, refl, add-zero, arith}
use Rattle.flash.specs.declared.geometry.Geometry.{Geometry}
use Rattle.flash.specs.declared.steps.Step.{Step}
use Rattle.loader.specs.Checks.{image_checks}
use Rattle.loader.specs.Decisions.{next_step}
use Rattle.loader.specs.Answers.{Answer}
use Rattle.loader.specs.Answers as A
use Rattle.runner.specs.Runs.{Outcome, run_for, EndsWith, after_answer, turns}
use Rattle.runner.proofs.Turns.{due, met_step, met_last, met_boot, met_refused}

-- two runs end alike
abbrev pub Alike : Outcome → Outcome → Type 0
Alike r w = EndsWith w r.answer r.flash

-- By d steps a run has come from a₀, b₀ and f₀ to a, b and f: however many more there are, it ends as one from there.
pub record CameBy (g : Geometry) (d : ℕ) (a₀ b₀ : Bool) (f₀ : List ℕ) (a b : Bool) (f : List ℕ) : Type 0 where
  pub goes_on : (m : ℕ) → Alike (run_for image_checks g m a b f) (run_for image_checks g (d + m) a₀ b₀ f₀)

-- as a run of n steps in all
along : {g : Geometry} {d : ℕ} {a₀ b₀ a b : Bool} {f₀ f : List ℕ} → CameBy g d a₀ b₀ f₀ a b f → (n : ℕ) → d ≤ n
    → Alike (run_for image_checks g (n - d) a b f) (run_for image_checks g n a₀ b₀ f₀)
along {g} {d} came n h = let k : d + (n - d) ≡ n = omega arith in rw k at (came.goes_on (n - d))

module _ {g : Geometry} {d : ℕ} {a₀ b₀ a b : Bool} {f₀ f : List ℕ} {x : Answer} (came : CameBy g d a₀ b₀ f₀ a b f)
    (e : x ≡ next_step image_checks g f a b) where
  -- with the number used up
  pub used_up : (n : ℕ) → d ≡ n → EndsWith (run_for image_checks g n a₀ b₀ f₀) x f
  used_up n h = rw (due image_checks g (n - d) a b f e (omega arith)) at (along came n (omega arith))

  module _ {f' : List ℕ} (p : f' ≡ after_answer g f x) where
    -- a step more
    pub on : {s : Step} {turned a' b' : Bool} → x ≡ A.Step s → turned ≡ turns g f x → a' ≡ cond turned b a → b' ≡ cond turned a b
        → CameBy g (d + 1) a₀ b₀ f₀ a' b' f'
    on q w u v =
        record {
          goes_on = λ m.
              let k : d + 1 + m ≡ d + (m + 1) = omega arith in
              let l : (m + 1) - 1 ≡ m = omega arith in
              let r = met_step image_checks g (m + 1) a b f e (omega arith) p q w u v in
              let c = came.goes_on (m + 1) in
              rw k (rw (r, l) at c);
        }

    module _ (n : ℕ) (h : d < n) where
      pub last : {s : Step} → x ≡ A.LastStep s → EndsWith (run_for image_checks g n a₀ b₀ f₀) (A.Boot 0) f'
      last q = rw (met_last image_checks g (n - d) a b f e (omega arith) p q) at (along came n (omega arith))

      pub boots : {why : ℕ} → x ≡ A.Boot why → EndsWith (run_for image_checks g n a₀ b₀ f₀) x f'
      boots q = rw (met_boot image_checks g (n - d) a b f e (omega arith) p q) at (along came n (omega arith))

      pub refuses : {number : ℕ} → x ≡ A.Refused number → EndsWith (run_for image_checks g n a₀ b₀ f₀) x f'
      refuses q = rw (met_refused image_checks g (n - d) a b f e (omega arith) p q) at (along came n (omega arith))

-- what stands in the flash then
pub stands : {g : Geometry} {d : ℕ} {a₀ b₀ a b : Bool} {f₀ f : List ℕ} → CameBy g d a₀ b₀ f₀ a b f
    → f ≡ (run_for image_checks g d a₀ b₀ f₀).flash
stands {g} {d} {a₀} {b₀} {a} {b} {f₀} {f} came = (rw add-zero at (rw (due image_checks g 0 a b f refl (omega arith)) at (came.goes_on 0))).1

pub on_err : {T E P : Type 0} (r : Result T E) → P → OnErr r P
on_err (Ok x) p = tt
on_err (Err e) p = p

-- Counting steps: a weight says what a step counts for, so that one argument serves all steps and, say, the erases of one sector.
-- Assumes nothing.
use Prim.Native.Nat.{ℕ, suc, ◌+◌, ◌*◌, ◌≤◌}
use mathlib.Core.List.{List, [], ◌∷◌, ◌++◌}
use mathlib.Core.Path.{◌≡◌, refl}
use native.Mathlib.Omega.{arith}
use Rattle.flash.specs.declared.steps.Step.TheVariants.{Erase, Copy, Byte, Mark}
use Rattle.flash.specs.declared.steps.Step.{Step}
use Rattle.power_loss.specs.Histories.{Event, finished, cut_on, cut_between, finished_all, sum, begins, begun, is_cut, cuts}

-- what an erase of the sector at an offset counts for, and what any other step does
pub record Weight : Type 0 where
  pub erases : ℕ → ℕ
  pub writes : ℕ

abbrev pub ones : Weight
ones = record { erases = λ at. 1; writes = 1 }

-- the most that a trailer's renewal takes, or a copy with its flag
abbrev pub most : Weight → ℕ → ℕ
most w at = w.erases at + w.writes + w.writes

abbrev pub weigh : Weight → Step → ℕ
weigh w (Erase at) = w.erases at
weigh w (Copy from to) = w.writes
weigh w (Byte at v) = w.writes
weigh w (Mark at) = w.writes

-- what a cut on a step may add to the work left: a copy's target has to be erased again
abbrev pub harm : Weight → Step → ℕ
harm w (Erase at) = 0
harm w (Copy from to) = w.erases to
harm w (Byte at v) = 0
harm w (Mark at) = 0

-- the weight of the steps begun, and of the work that the cuts made necessary again
abbrev pub weighs : Weight → Event → ℕ
weighs w (finished s) = weigh w s
weighs w (cut_on s) = weigh w s
weighs w cut_between = 0

abbrev pub redoes : Weight → Event → ℕ
redoes w (finished s) = 0
redoes w (cut_on s) = weigh w s + harm w s
redoes w cut_between = 0

abbrev pub weighed : Weight → List Event → ℕ
weighed w h = sum (weighs w) h

abbrev pub redone : Weight → List Event → ℕ
redone w h = sum (redoes w) h

sum_join : (m : Event → ℕ) (h h' : List Event) → sum m (h ++ h') ≡ sum m h + sum m h'
unfolding sum
sum_join m [] h' = omega arith
sum_join m (e ∷ h) h' = omega (arith, sum_join m h h')

sum-le : (m m' : Event → ℕ) (k : ℕ) → ((e : Event) → m e ≤ k * m' e) → (h : List Event) → sum m h ≤ k * sum m' h
unfolding sum
sum-le m m' k le [] = omega arith
sum-le m m' k le (e ∷ h) = omega (arith, le e, sum-le m m' k le h)

-- ---- what events cost

-- of `all` that was to be done, and what the cuts cost on top, the events h leave `rest`
pub record Bill (h : List Event) (all rest : Weight → ℕ) : Type 0 where
  pub le : (w : Weight) → weighed w h + rest w ≤ all w + redone w h

pub no_events : {all : Weight → ℕ} → Bill [] all all
unfolding sum
no_events = record { le = λ w. omega arith }

pub join : {h h' : List Event} {all mid rest : Weight → ℕ} → Bill h all mid → Bill h' mid rest → Bill (h ++ h') all rest
join {h} {h'} x y = record { le = λ w. omega (arith, sum_join (weighs w) h h', sum_join (redoes w) h h', x.le w, y.le w) }

-- a power-up's: finished steps, then perhaps a cut between two steps or on one
module _ (l : List Step) {all rest : Weight → ℕ} where
  pub uncut_bill : ((w : Weight) → weighed w (finished_all l) + rest w ≤ all w) → Bill (finished_all l) all rest
  uncut_bill le = record { le = λ w. omega (arith, le w) }

  pub between_bill : ((w : Weight) → weighed w (finished_all l) + rest w ≤ all w) → Bill (finished_all l ++ cut_between ∷ []) all rest
  unfolding sum
  between_bill le = record { le = λ w. omega (arith, le w, sum_join (weighs w) (finished_all l) (cut_between ∷ [])) }

  pub cut_bill : (s : Step) → ((w : Weight) → weighed w (finished_all l) + rest w ≤ all w + harm w s) → Bill (finished_all l ++ cut_on s ∷ []) all rest
  unfolding sum
  cut_bill s le = record {
    le = λ w. omega (
      arith,
      le w,
      sum_join (weighs w) (finished_all l) (cut_on s ∷ []),
      sum_join (redoes w) (finished_all l) (cut_on s ∷ []),
    );
  }

-- ---- all ones

pub of_one : (s : Step) → (weigh ones s ≡ 1) × (harm ones s ≤ 1)
of_one (Erase at) = (refl, omega arith)
of_one (Copy from to) = (refl, omega arith)
of_one (Byte at v) = (refl, omega arith)
of_one (Mark at) = (refl, omega arith)

pub begun_weighed : (h : List Event) → begun h ≤ 1 * weighed ones h
begun_weighed = sum-le begins (weighs ones) 1 each
  where
    each : (e : Event) → begins e ≤ 1 * weighs ones e
    each (finished s) = omega (arith, (of_one s).0)
    each (cut_on s) = omega (arith, (of_one s).0)
    each cut_between = omega arith

pub redone_cuts : (h : List Event) → redone ones h ≤ 2 * cuts h
redone_cuts = sum-le (redoes ones) is_cut 2 each
  where
    each : (e : Event) → redoes ones e ≤ 2 * is_cut e
    each (finished s) = omega arith
    each (cut_on s) = omega (arith, (of_one s).0, (of_one s).1)
    each cut_between = omega arith

pub one_more : (s : Step) (l : List Step) → weighed ones (finished_all (s ∷ l)) ≡ suc (weighed ones (finished_all l))
unfolding sum finished_all
one_more s l = omega (arith, (of_one s).0)

-- Demand 3: what happens in a list of power-ups, in order (a cut is the paper's word for a power loss).
use Rattle.std.specs.Prelude.{ℕ, ◌+◌, List, [], ◌∷◌}
use Rattle.flash.specs.declared.steps.Step.{Step}

-- a step is finished, a cut falls on a step, a cut falls between two steps
pub data Event : Type 0 where
  finished : Step → Event
  cut_on : Step → Event
  cut_between : Event

-- the finished steps of a run
unfoldable pub finished_all : List Step → List Event
finished_all [] = []
finished_all (s ∷ l) = finished s ∷ finished_all l

-- a number for each event, summed up
unfoldable pub sum : (Event → ℕ) → List Event → ℕ
sum m [] = 0
sum m (e ∷ h) = m e + sum m h

-- the steps begun: those added to the counters and those that a cut fell on
abbrev pub begins : Event → ℕ
begins (finished s) = 1
begins (cut_on s) = 1
begins cut_between = 0

abbrev pub begun : List Event → ℕ
begun h = sum begins h

abbrev pub is_cut : Event → ℕ
is_cut (finished s) = 0
is_cut (cut_on s) = 1
is_cut cut_between = 1

abbrev pub cuts : List Event → ℕ
cuts h = sum is_cut h

-- A bound on the steps of a run, by the number of image sectors. That no run does more, that a run takes this number
-- and that with it it always ends, is claimed in power_loss (`RunEnds`).
use Rattle.std.specs.Prelude.{ℕ, ◌+◌, ◌*◌, cond}
use Rattle.flash.specs.Geometry.{counted}

-- a swap that is found begun, and the return after it
abbrev pub step_bound : ℕ → ℕ
step_bound n = 2 * (9 * n + 4)

-- the answer: none where no geometry has so many sectors
unfoldable pub most_steps_of : ℕ → ℕ
most_steps_of n = cond (counted n) (step_bound n) 0

use mathlib.Core.Path.{◌≡◌}
use mathlib.Core.List.{map, ◌++◌, ◌∷◌, []}
use mathlib.Core.Bool.{cond}
use lib.ListN.{drop}
use Rattle.refusal.specs.Numbers.{number_or_zero}
use Rattle.header.specs.Checks.{first_refusal}
use Rattle.header.specs.Seen.{first_seen}
use Rattle.header.specs.declared.checks.Required.{Required}
use Rattle.header.proofs.checks.Seen.check.Given as goal

abbrev pub invariant-loop-r : goal.invariant-loop-r
invariant-loop-r l =
    let s = l.self in
    first_refusal (number_or_zero l.first ∷ map (λ (r : Required). number_or_zero r.state) (drop l.r-index s.required) ++ cond s.uncovered 30 0 ∷ []) ≡ first_seen s

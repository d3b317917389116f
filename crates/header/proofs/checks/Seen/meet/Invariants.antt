use mathlib.Core.List.{◌++◌, map}
use mathlib.Core.Path.{◌≡◌}
use lib.ListN.{take, drop}
use Rattle.header.specs.Seen.{required_after}
use Rattle.header.specs.declared.checks.Required.{Required}
use Rattle.header.proofs.checks.Seen.meet.Given as goal

abbrev pub invariant-loop-r : goal.invariant-loop-r
invariant-loop-r l =
    let after = λ (r : Required). required_after r l.t in
    take l.r-index l.r-items ++ map after (drop l.r-index l.r-items) ≡ map after l.fn.self.required

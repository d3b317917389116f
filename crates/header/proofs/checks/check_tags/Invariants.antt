use mathlib.Core.List.{◌∷◌, []}
use mathlib.Core.Path.{◌≡◌}
use Rattle.header.specs.Checks.{first_refusal, walk_check, tags_check, coverage_check}
use Rattle.header.specs.Items.{items}
use Rattle.header.specs.Walk.{walk}
use Rattle.header.proofs.Items.{checks_left}
use Rattle.header.proofs.checks.check_tags.Given as goal

abbrev pub invariant-loop-t : goal.invariant-loop-t
invariant-loop-t l =
    let left = l.t-iterator in
    let w = walk l.header 256 8 in
    checks_left l.seen (items (walk left.header.now 256 left.p)) ≡ first_refusal (walk_check w.number ∷ tags_check w.tags ∷ coverage_check w.tags ∷ [])

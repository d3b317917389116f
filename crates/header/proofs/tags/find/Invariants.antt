use Prim.Native.Nat.{◌-◌}
use mathlib.Core.Path.{◌≡◌}
use Rattle.header.specs.Lookup.{first}
use Rattle.header.specs.Walk.{walk}
use Rattle.header.proofs.tags.find.Given as goal

abbrev pub invariant-loop-next : goal.invariant-loop-next
invariant-loop-next l = first l.wanted (walk l.header 256 l.p) ≡ first l.wanted (walk l.header 256 l.start)

abbrev pub decreases-loop-next : goal.decreases-loop-next
decreases-loop-next l = 256 - l.p

use mathlib.Core.Path.{◌≡◌}
use lib.ListN.{take}
use Rattle.flash.specs.Bytes.{write}
use Rattle.flash.proofs.bytes.write.Given as goal

abbrev pub invariant-loop-i : goal.invariant-loop-i
invariant-loop-i l = l.part ≡ write l.initial.part l.at (take l.i l.data)

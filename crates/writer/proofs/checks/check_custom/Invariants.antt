use Rattle.std.proofs.Common.{◌≡◌, ◌-◌, ◌≤◌, length}
use Rattle.writer.specs.Custom.{tags_of, well_formed}
use Rattle.writer.proofs.Run.{well_formed_from}
use Rattle.writer.proofs.checks.check_custom.Given as goal

abbrev pub invariant-loop-p : goal.invariant-loop-p
invariant-loop-p l = (l.p ≤ length l.run) × (well_formed_from l.run (length l.run) l.p ≡ well_formed (length l.run) 0 (tags_of l.run))

abbrev pub decreases-loop-p : goal.decreases-loop-p
decreases-loop-p l = length l.run - l.p

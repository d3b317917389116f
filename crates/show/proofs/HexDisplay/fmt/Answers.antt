use Rattle.std.proofs.Common.{arith, rules}
use Rattle.std.proofs.Output.{has_written_of_eq, has_written_append}
use Rattle.show.proofs.Digits.{hex-more}
use Rattle.show.proofs.HexDisplay.fmt.Goals as goal

pub loop-x-preserved : goal.loop-x-preserved
loop-x-preserved g c =
    λ plain. has_written_of_eq _ _ _ _ _ (hex-more _ _ (omega arith) (omega arith))
    (has_written_append _ _ _ _ _ _ (c.loop-x.invariant plain) (search rules))

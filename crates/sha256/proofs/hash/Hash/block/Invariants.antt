use Rattle.std.proofs.Common.{◌+◌, ◌*◌}
use Rattle.sha256.specs.Message.{words_at}
use Rattle.sha256.proofs.Rounds.{Done}
use Rattle.sha256.proofs.hash.Hash.block.Given as goal

abbrev pub invariant-loop-four : goal.invariant-loop-four
invariant-loop-four l = Done (words_at l.block 0 16) l.fn.self (4 * l.four) l.w l.v

abbrev pub invariant-loop-i : goal.invariant-loop-i
invariant-loop-i l = Done (words_at l.block 0 16) l.fn.self (4 * l.four + l.i) l.w l.v

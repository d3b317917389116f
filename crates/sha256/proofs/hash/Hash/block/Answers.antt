use Rattle.std.proofs.Common.{◌≡◌, ◌+◌, ◌*◌, add-zero, refl, arith}
use Rattle.sha256.proofs.Parsing.{length-words}
use Rattle.sha256.proofs.Rounds.{none, one_more, all}
use Rattle.sha256.proofs.hash.Hash.block.Goals as goal

pub loop-four-init : goal.loop-four-init
loop-four-init c = rw c.words_of-w.ensures (none _ c.args.self (length-words c.args.block.now 0 16))

pub loop-i-init : goal.loop-i-init
loop-i-init c = rw add-zero c.loop-four.invariant

pub loop-i-preserved : goal.loop-i-preserved
loop-i-preserved c = one_more _ (omega arith) c.loop-i.invariant refl c.turn-v.ensures

pub loop-four-preserved : goal.loop-four-preserved
loop-four-preserved c =
    let next : 4 * c.loop-four.four + c.loop-i.i ≡ 4 * (c.loop-four.four + 1) = omega arith in
    rw next at c.loop-i.invariant

pub returns : goal.returns
returns c = all (omega arith) c.loop-four.invariant c.plus.ensures

use Rattle.std.proofs.Common.{◌≡◌}
use Rattle.sha256.specs.Digest.{hashed}
use Rattle.sha256.proofs.hash.Hash.blocks.Given as goal

abbrev pub invariant-loop-block : goal.invariant-loop-block
invariant-loop-block l = l.h ≡ hashed l.fn.self l.s l.block-index

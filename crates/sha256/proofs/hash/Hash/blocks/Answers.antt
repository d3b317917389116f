use Rattle.std.proofs.Common.{◌≡◌, ◌*◌, ◌/◌, [], length, refl, add-one, arith}
use Rattle.std.specs.Simd.{first_chunks}
use Rattle.sha256.specs.Digest.{hashed}
use Rattle.sha256.proofs.Parsing.{block_of, chunk_at}
use Rattle.sha256.proofs.hash.Hash.blocks.Goals as goal

pub loop-block-init : goal.loop-block-init
unfolding hashed
loop-block-init c = refl

pub loop-block-preserved : goal.loop-block-preserved
unfolding hashed
loop-block-preserved c =
    let s = c.args.s.now in
    let i = c.loop-block.block-index in
    let front : c.as_chunks.result.0.now ≡ first_chunks 64 (length s / 64) s = c.as_chunks.ensures.front in
    rw add-one (cc (front, chunk_at 64 (length s / 64) i s [] (omega arith), block_of s (64 * i)))

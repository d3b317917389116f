use Rattle.std.proofs.Common.{ℕ, ◌*◌, ◌-◌, List, length, ap, ◌∙◌}
use Rattle.sha256.specs.Rounds.{compress}
use Rattle.sha256.proofs.Parsing.{same_block, block_of, block_in_first, block_in_second}
use Rattle.sha256.proofs.message.Rest.block.Goals as goal

pub returns-in-Some : goal.returns-in-Some
returns-in-Some c =
    let s = c.args.self.now in
    rw (← block_in_first s.first.now s.second.now s.n (64 * c.args.i) c.in-Some.ensures.0, ← block_of s.first.now (64 * c.args.i), ← c.in-Some.ensures.1) c.block.ensures

pub returns-in-Some-whole_block : goal.returns-in-Some-whole_block
returns-in-Some-whole_block c =
    let s = c.args.self.now in
    rw (← block_in_second s.first.now s.second.now s.n (64 * c.args.i) c.if-len-at.true c.in-Some-whole_block.ensures.0, ← block_of s.second.now (64 * c.args.i - length s.first.now), ← c.in-Some-whole_block.ensures.1) c.block-in-Some-whole_block.ensures

pub returns : goal.returns
returns c =
    c.block-2.ensures ∙ ap (λ (m : List ℕ). compress m c.args.hash) (same_block _ _ _ _ c.copy.ensures)

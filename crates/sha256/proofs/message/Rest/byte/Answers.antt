use Rattle.std.proofs.Common.{◌∙◌, arith}
use Rattle.sha256.proofs.Padding.{in_first, in_second, in_padding}
use Rattle.sha256.proofs.message.Rest.byte.Goals as goal

pub returns-then-i-at : goal.returns-then-i-at
returns-then-i-at c =
    let s = c.args.self.now in
    in_first s.first.now s.second.now s.n c.args.i (omega arith)

pub returns-then-i-end : goal.returns-then-i-end
returns-then-i-end c =
    let s = c.args.self.now in
    in_second s.first.now s.second.now s.n c.args.i (omega arith) (omega arith)

pub returns-else-i-end : goal.returns-else-i-end
returns-else-i-end c =
    let s = c.args.self.now in
    c.padding_byte.ensures ∙ in_padding s.first.now s.second.now s.n c.args.i (omega arith)

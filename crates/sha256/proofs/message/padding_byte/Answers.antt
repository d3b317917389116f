use Rattle.sha256.proofs.Padding.{mark, gap, count}
use Rattle.sha256.proofs.message.padding_byte.Goals as goal

pub returns-then-k-eq0 : goal.returns-then-k-eq0
returns-then-k-eq0 c = mark _ _ c.if-k-eq0.true

pub returns-then-k-z : goal.returns-then-k-z
returns-then-k-z c = gap _ _ c.if-k-eq0.false c.if-k-z.true

pub returns-else-k-z : goal.returns-else-k-z
returns-else-k-z c = rw c.to_be_bytes.ensures (count c.args.n c.args.k c.if-k-z.false)

use Rattle.records.proofs.Filled.{filled}
use Rattle.records.proofs.copy.Goals as goal

pub returns : goal.returns
returns c =
    rw (c.copy_from_slice.ensures.after, c.fill.ensures.after (λ y same. same))
    (filled _ _ _ _ c.min-n.ensures c.split_at_mut-front.ensures.back_len)

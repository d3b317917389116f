use Rattle.std.proofs.Common.{le-ltb, lt-ltb}
use Rattle.sha256.specs.Ring.{ring_word}
use Rattle.sha256.specs.Words.{σ₀, σ₁}
use Rattle.sha256.proofs.Sums.{sum4}
use Rattle.sha256.proofs.schedule.word.Goals as goal

pub returns-then-t-lt16 : goal.returns-then-t-lt16
unfolding ring_word
returns-then-t-lt16 c = rw (lt-ltb _ _ c.if-t-lt16.true)

pub returns : goal.returns
unfolding ring_word σ₀ σ₁
returns c = rw (le-ltb _ _ c.if-t-lt16.false, sum4, c.small_sigma.ensures, c.small_sigma-2.ensures)

use Rattle.sha256.specs.Rounds.{round, T₁, T₂}
use Rattle.sha256.specs.Words.{Σ₀, Σ₁}
use Rattle.sha256.proofs.Sums.{sum5}
use Rattle.sha256.proofs.hash.Hash.round.Goals as goal

pub returns : goal.returns
unfolding round T₁ T₂ Σ₀ Σ₁
returns c =
    let a = c.args in
    cc (sum5 a.self.h c.big_sigma.result c.ch.result a.k a.w)

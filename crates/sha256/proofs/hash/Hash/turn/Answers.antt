use Rattle.sha256.specs.Constants.{constants}
use Rattle.sha256.proofs.hash.Hash.turn.Goals as goal

pub returns : goal.returns
unfolding constants
returns c = (cc, cc)

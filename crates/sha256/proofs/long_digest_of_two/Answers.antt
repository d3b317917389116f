use Rattle.sha256.proofs.Answers.{from_nothing}
use Rattle.sha256.proofs.long_digest_of_two.Goals as goal

pub returns : goal.returns
returns c = rw (← from_nothing _ _, ← c.new.ensures) c.finish.ensures

use Rattle.std.proofs.Common.{append-nil}
use Rattle.sha256.proofs.digest.Goals as goal

pub returns : goal.returns
returns c = rw append-nil at c.digest_of_two.ensures

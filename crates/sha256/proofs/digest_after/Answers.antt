use Rattle.std.proofs.Common.{append-nil}
use Rattle.sha256.proofs.digest_after.Goals as goal

pub returns : goal.returns
returns c = rw append-nil at c.finish.ensures

use Rattle.std.proofs.Common.{refl, add-one}
use Rattle.sha256.specs.Digest.{hashed}
use Rattle.sha256.proofs.message.Rest.hashed.Goals as goal

pub loop-i-init : goal.loop-i-init
unfolding hashed
loop-i-init c = refl

pub loop-i-preserved : goal.loop-i-preserved
unfolding hashed
loop-i-preserved c = rw add-one (cc)

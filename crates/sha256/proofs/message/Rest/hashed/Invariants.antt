use Rattle.std.proofs.Common.{◌≡◌, ◌++◌}
use Rattle.sha256.specs.Digest.{hashed}
use Rattle.sha256.specs.Message.{pad_to}
use Rattle.sha256.proofs.message.Rest.hashed.Given as goal

abbrev pub invariant-loop-i : goal.invariant-loop-i
invariant-loop-i l = l.h ≡ hashed l.fn.hash (pad_to l.self.n (l.self.first.now ++ l.self.second.now)) l.i

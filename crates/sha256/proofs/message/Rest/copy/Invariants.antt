use Rattle.std.proofs.Common.{◌≡◌, ℕ, ◌+◌, ◌*◌, ◌<◌, ◌++◌, get_or}
use Rattle.sha256.specs.Message.{pad_to}
use Rattle.sha256.proofs.message.Rest.copy.Given as goal

abbrev pub invariant-loop-k : goal.invariant-loop-k
invariant-loop-k l = (j : ℕ) → j < l.k → get_or l.block j 0 ≡ get_or (pad_to l.self.n (l.self.first.now ++ l.self.second.now)) (64 * l.i + j) 0

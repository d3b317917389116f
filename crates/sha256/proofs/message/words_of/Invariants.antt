use Rattle.std.proofs.Common.{◌≡◌, ℕ, ◌*◌, ◌<◌, get_or}
use Rattle.sha256.specs.Message.{word_at}
use Rattle.sha256.proofs.message.words_of.Given as goal

abbrev pub invariant-loop-t : goal.invariant-loop-t
invariant-loop-t l = (k : ℕ) → k < l.t → get_or l.word-items k 0 ≡ word_at l.block (4 * k)

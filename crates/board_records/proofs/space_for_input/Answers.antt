use Rattle.std.proofs.Common.{ℕ}
use Rattle.std.proofs.lemmas.List.{length-replicate}
use Rattle.board_records.proofs.space_for_input.Goals as goal

pub returns : goal.returns
returns c = length-replicate {0} {A = ℕ} 524288 0

use Rattle.std.proofs.Common.{sym, ◌∙◌, arith}
use Rattle.std.proofs.lemmas.List.{take_all}
use Rattle.sha256.proofs.Parsing.{words_of}
use Rattle.sha256.proofs.message.words_of.Goals as goal

pub returns : goal.returns
returns c =
    let words = c.loop-t.word-items in
    sym (take_all 16 words (omega arith)) ∙ words_of words c.args.block.now 16 (λ t h. c.loop-t.invariant t (omega arith)) (omega arith)

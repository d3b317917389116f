use Rattle.std.proofs.Common.{◌&&◌, true, eqb, rules, ◌∙◌}
use Rattle.std.proofs.lemmas.Iterator.{YieldsList-from_slice}
use Rattle.std.proofs.lemmas.Iterator.Consumers.{fold_from_yields_List}
use Rattle.compare.proofs.Parts.{all_fold}
use Rattle.compare.proofs.is_all.Goals as goal

pub returns : goal.returns
returns c =
    fold_from_yields_List _ (λ ok b. ok && eqb b c.args.v) true c.fold.result c.fold.ensures.ran
    (YieldsList-from_slice c.args.block.now cc) (λ a x b q k. search rules)
    ∙ all_fold c.args.v c.args.block.now

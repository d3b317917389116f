use Rattle.std.proofs.Common.{rules, ◌∙◌, ap}
use Rattle.compare.specs.Compare.{all}
use Rattle.compare.proofs.Parts.{all_chunks}
use Rattle.compare.proofs.all.Goals as goal

pub returns : goal.returns
returns c = all_chunks _ c.args.v _ (λ x r q k. search rules) c.chunks.result _ _ c.all.ensures.ran ∙ ap (all c.args.v) c.chunks.ensures.rest

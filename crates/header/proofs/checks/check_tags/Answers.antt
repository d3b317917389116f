use mathlib.Core.Path.{◌∙◌}
use borrow.Author.Rules.{rules}
use Rattle.header.specs.Seen.{nothing_seen}
use Rattle.header.specs.Walk.{walk}
use Rattle.header.proofs.Items.{checks_are}
use Rattle.header.proofs.OneWalk.{all_checked}
use Rattle.header.proofs.Order.{ordered}
use Rattle.header.proofs.checks.check_tags.Goals as goal

pub loop-t-init : goal.loop-t-init
loop-t-init c =
    let h = c.args.header.now in
    let e = checks_are nothing_seen h 8 ∙ all_checked (walk h 256 8) (ordered h 256 8) in
    search rules

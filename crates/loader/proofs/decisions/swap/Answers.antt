use Rattle.std.proofs.Common.{sym}
use Rattle.loader.proofs.ByProgress.{at_progress}
use Rattle.header.proofs.Refusals.{refused}
use Rattle.loader.proofs.decisions.swap.Goals as goal

pub returns-in-Ok : goal.returns-in-Ok
returns-in-Ok c =
    let b = c.args.board.now in
    rw (at_progress _ _ _ b.accepted _ _ _ _ (sym c.in_ok-reached.ensures), ← c.in-Ok.ensures) c.exchange.ensures

pub returns-in-Err : goal.returns-in-Err
returns-in-Err c =
    let b = c.args.board.now in
    rw (at_progress _ _ _ b.accepted _ _ _ _ (sym c.in_ok-reached.ensures), ← c.in-Err.ensures, refused) c.boot_or.ensures

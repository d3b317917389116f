use Rattle.simulator.proofs.Shown.{CameBy}
use Rattle.simulator.proofs.show_run.Given as goal

abbrev pub invariant-loop : goal.invariant-loop
invariant-loop g l =
    let f = l.fn in
    CameBy f.g l.counter f.signed.boot f.signed.update f.flash l.signed.boot l.signed.update l.flash

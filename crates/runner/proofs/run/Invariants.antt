use Prim.Native.Nat.{◌-◌}
use Rattle.loader.specs.Checks.{image_checks}
use Rattle.runner.specs.Runs.{run_of}
use Rattle.runner.proofs.Running.{Running}
use Rattle.runner.proofs.run.Given as goal

abbrev pub invariant-loop : goal.invariant-loop
invariant-loop l =
    let f = l.fn in
    Running image_checks f.g f.counts (run_of image_checks f.g f.number f.signed.boot f.signed.update f.flash f.counts)
    (l.number - l.counter) l.signed.boot l.signed.update l.flash l.counts

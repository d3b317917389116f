use Prim.Native.Nat.{◌+◌}
use mathlib.Core.Path.{refl, ap, ◌∙◌}
use native.Mathlib.Omega.{arith}
use Rattle.std.specs.Prelude.{Ok}
use Rattle.loader.specs.Answers.{numbered_answer}
use Rattle.simulator.proofs.Shown.{on, last, boots, refuses, used_up, stands, on_err}
use Rattle.simulator.proofs.show_run.Goals as goal

pub returns-in_err-println-in-Ok-Step-clause-cut : goal.returns-in_err-println-in-Ok-Step-clause-cut
returns-in_err-println-in-Ok-Step-clause-cut g c =
    let e = c.advance-done.ensures in
    let arm = c.in-Ok-Step in
    let q = ap numbered_answer (arm.is ∙ ap Ok (rw arm.is at arm.field-0-is)) in
    let n = c.loop.counter + 1 in
    on_err c.from_residual.result (n, (omega arith, stands (on c.loop.invariant e.0 e.1.0 q e.1.1 refl refl)))

pub loop-preserved : goal.loop-preserved
loop-preserved g c =
    let e = c.advance-done.ensures in
    let arm = c.in-Ok-Step in
    let q = ap numbered_answer (arm.is ∙ ap Ok (rw arm.is at arm.field-0-is)) in
    rw c.turned-signed.ensures (on c.loop.invariant e.0 e.1.0 q e.1.1 refl refl)

pub returns-in_err-println-in-Ok-LastStep-clause-cut : goal.returns-in_err-println-in-Ok-LastStep-clause-cut
returns-in_err-println-in-Ok-LastStep-clause-cut g c =
    let e = c.advance-done.ensures in
    let arm = c.in-Ok-LastStep in
    let q = ap numbered_answer (arm.is ∙ ap Ok (rw arm.is at arm.field-0-is)) in
    let n = c.loop.counter + 1 in
    on_err c.from_residual-in_err-println-in-Ok-LastStep.result (n, (omega arith, (last c.loop.invariant e.0 e.1.0 n (omega arith) q).1))

pub returns-in-Ok-LastStep-clause-whole : goal.returns-in-Ok-LastStep-clause-whole
returns-in-Ok-LastStep-clause-whole g c =
    let e = c.advance-done.ensures in
    let arm = c.in-Ok-LastStep in
    let q = ap numbered_answer (arm.is ∙ ap Ok (rw arm.is at arm.field-0-is)) in
    last c.loop.invariant e.0 e.1.0 c.args.number (omega arith) q

pub returns-in-Ok-Boot-clause-whole : goal.returns-in-Ok-Boot-clause-whole
returns-in-Ok-Boot-clause-whole g c =
    let e = c.advance-done.ensures in
    let arm = c.in-Ok-Boot in
    let q = ap numbered_answer (arm.is ∙ ap Ok (rw arm.is at arm.field-0-is)) in
    boots c.loop.invariant e.0 e.1.0 c.args.number (omega arith) q

pub returns-in-Err-clause-whole : goal.returns-in-Err-clause-whole
returns-in-Err-clause-whole g c =
    let e = c.advance-done.ensures in
    refuses c.loop.invariant e.0 e.1.0 c.args.number (omega arith) (ap numbered_answer c.in-Err.is)

pub returns-clause-whole : goal.returns-clause-whole
returns-clause-whole g c = used_up c.loop.invariant c.next_step.ensures c.args.number (omega arith)

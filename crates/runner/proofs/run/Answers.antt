use mathlib.Core.Path.{refl, ap, ◌∙◌}
use native.Mathlib.Omega.{arith}
use borrow.Author.Rules.{rules}
use Rattle.std.specs.Prelude.{Ok}
use Rattle.loader.specs.Answers.{numbered_answer}
use Rattle.runner.proofs.Running.{starts, used_up, goes_on, ends_last, ends_boot, ends_refused}
use Rattle.runner.proofs.run.Goals as goal

pub loop-init : goal.loop-init
loop-init c =
    let a = c.args in starts a.g a.counts.now a.number a.signed.boot a.signed.update a.flash.now _ (omega arith) c.in_ok-check_run.ensures

pub returns-in_err-boot : goal.returns-in_err-boot
returns-in_err-boot c =
    let e = c.advance-done.ensures in
    let h = rw c.in_err-boot.was at (ends_refused c.loop.invariant e.0 (omega arith) e.1.0 (ap numbered_answer c.in_err-boot.was)) in
    search (rules, h.0.0, h.0.1, h.1)

pub loop-preserved : goal.loop-preserved
loop-preserved c =
    let e = c.advance-done.ensures in
    let q = ap numbered_answer (c.in_ok-boot.was ∙ ap Ok c.in-Step.is) in
    rw c.turned-signed.ensures
    (goes_on c.loop.invariant e.0 (omega arith) e.1.0 _ (omega arith) q c.count_step.ensures e.1.1 refl refl)

pub returns-in-LastStep : goal.returns-in-LastStep
returns-in-LastStep c =
    let e = c.advance-done.ensures in
    let q = ap numbered_answer (c.in_ok-boot.was ∙ ap Ok c.in-LastStep.is) in
    ends_last c.loop.invariant e.0 (omega arith) e.1.0 q c.count_step-in-LastStep.ensures

pub returns-in-Boot : goal.returns-in-Boot
returns-in-Boot c =
    let e = c.advance-done.ensures in
    let q = ap numbered_answer (c.in_ok-boot.was ∙ ap Ok c.in-Boot.is) in
    rw c.in_ok-boot.was at (ends_boot c.loop.invariant e.0 (omega arith) e.1.0 q)

pub returns : goal.returns
returns c = used_up c.loop.invariant c.next_step.ensures (omega arith)

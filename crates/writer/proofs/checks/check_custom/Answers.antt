use Rattle.std.proofs.Common.{◌≡◌, ℕ, Ok, length, ap, sym, ◌∙◌, arith, lt-ltb, rules}
use Rattle.refusal.specs.Numbers.{number, numbered}
use Rattle.header.specs.Walk.{step_at}
use Rattle.header.specs.declared.tags.WalkStep.TheVariants.{Padding}
use Rattle.header.proofs.Walk.{on}
use Rattle.writer.specs.Custom.{custom_check}
use Rattle.writer.proofs.Run.{well_formed_lem, ends_early, has_padding, has_named, one_further, met}
use Rattle.writer.proofs.checks.check_custom.Goals as goal

pub returns-then-end-gt-LONGEST_RUN : goal.returns-then-end-gt-LONGEST_RUN
unfolding custom_check
returns-then-end-gt-LONGEST_RUN c = simp (lt-ltb _ _ c.if-end-gt-LONGEST_RUN.true)

pub loop-p-smaller : goal.loop-p-smaller
loop-p-smaller c =
    omega (arith, on c.args.run.now (length c.args.run.now) c.loop-p.p (met c.walk_step.ensures c.in-Ok-Met.is c.in-Ok-Met.field-0-is))

pub loop-p-preserved : goal.loop-p-preserved
loop-p-preserved c =
    let step = met c.walk_step.ensures c.in-Ok-Met.is c.in-Ok-Met.field-0-is in
    (omega (arith, on c.args.run.now (length c.args.run.now) c.loop-p.p step), one_further _ c.loop-p.p c.if-end-gt-LONGEST_RUN.false c.loop-p.invariant.1 step (sym c.is_named.ensures ∙ c.if-not-is_named.true))

pub returns-in_default : goal.returns-in_default
returns-in_default c =
    has_named _ c.loop-p.p c.if-end-gt-LONGEST_RUN.false c.loop-p.invariant.1 (met c.walk_step.ensures c.in-Ok-Met.is c.in-Ok-Met.field-0-is) (sym c.is_named.ensures ∙ c.if-not-is_named.false)

pub returns-in_default-2 : goal.returns-in_default-2
returns-in_default-2 c =
    let run = c.args.run.now in
    let pad = λ (n : ℕ) (e : step_at run (length run) c.loop-p.p ≡ Ok (Padding n)).
    has_padding run c.loop-p.p c.if-end-gt-LONGEST_RUN.false c.loop-p.invariant.1 {n = n} c.loop-p-test.true e in
    search (rules, pad)

pub returns-in_default-3 : goal.returns-in_default-3
returns-in_default-3 c =
    ends_early _ c.loop-p.p c.if-end-gt-LONGEST_RUN.false c.loop-p.invariant.1 {n = number c.in_default.field-0} c.loop-p-test.true (sym c.walk_step.ensures ∙ ap numbered c.in_default.is)

pub returns : goal.returns
returns c =
    well_formed_lem _ c.loop-p.p c.if-end-gt-LONGEST_RUN.false c.loop-p.invariant.1 c.loop-p-test.false c.loop-p.invariant.0

use mathlib.Core.Path.{◌≡◌, sym, ◌∙◌}
use native.Mathlib.Omega.{arith}
use borrow.Author.Rules.{rules}
use Rattle.std.specs.Prelude.{Ok, Err}
use Rattle.refusal.specs.Numbers.{number}
use Rattle.header.specs.Walk.{step_at}
use Rattle.header.specs.declared.tags.WalkStep.TheVariants.{Padding, Met}
use Rattle.header.proofs.Lookups.{stops, pads, finds, passes}
use Rattle.header.proofs.Walk.{on}
use Rattle.header.proofs.tags.find.Goals as goal
use Rattle.header.proofs.tags.find.Goals.{In-Padding, In-Met}

pub returns-in_err-next : goal.returns-in_err-next
returns-in_err-next c =
    let s : step_at c.args.header.now 256 c.loop-next.p ≡ Err (number c.in_err-next.field-0.0) = search rules in
    let f = sym (stops _ _ _ c.args.wanted s) ∙ c.loop-next.invariant in
    search rules

padded : (c : In-Padding) → step_at c.args.header.now 256 c.loop-next.p ≡ Ok (Padding c.in-Padding.next)
padded c = search rules

met : (c : In-Met) → step_at c.args.header.now 256 c.loop-next.p ≡ Ok (Met c.in-Met.t)
met c = search rules

pub loop-next-smaller-in-Padding : goal.loop-next-smaller-in-Padding
loop-next-smaller-in-Padding c = omega (arith, on _ _ _ (padded c))

pub loop-next-preserved-in-Padding : goal.loop-next-preserved-in-Padding
loop-next-preserved-in-Padding c = sym (pads _ _ _ _ (padded c)) ∙ c.loop-next.invariant

pub returns-then-is_wanted : goal.returns-then-is_wanted
returns-then-is_wanted c =
    sym (finds _ _ _ _ (met (goal.at.returns-then-is_wanted c).In-Met) (sym c.is_wanted.ensures ∙ c.if-is_wanted.true)) ∙ c.loop-next.invariant

pub loop-next-smaller : goal.loop-next-smaller
loop-next-smaller c =
    omega (arith, on _ _ _ (met (goal.at.loop-next-smaller c).In-Met))

pub loop-next-preserved : goal.loop-next-preserved
loop-next-preserved c =
    sym (passes _ _ _ _ (met (goal.at.loop-next-preserved c).In-Met) (sym c.is_wanted.ensures ∙ c.if-is_wanted.false)) ∙ c.loop-next.invariant

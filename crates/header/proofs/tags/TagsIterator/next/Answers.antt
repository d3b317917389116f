use mathlib.Core.List.{◌∷◌}
use mathlib.Core.Path.{◌≡◌, sym, ap, ◌∙◌}
use borrow.Author.Rules.{rules}
use Rattle.std.specs.Prelude.{Ok, Err}
use Rattle.refusal.specs.Numbers.{numbered}
use Rattle.refusal.specs.declared.Refusal.TheVariants as R
use Rattle.header.specs.Items.{items}
use Rattle.header.specs.Walk.{walk}
use Rattle.header.proofs.Items.{items_met, items_absent, items_overrun}
use Rattle.header.proofs.tags.TagsIterator.next.Goals as goal
use Rattle.header.proofs.tags.TagsIterator.next.Goals.{In-Ok, After-eq}

met :
    (c : In-Ok) →
    let h = c.args.self.now.header.now in
    items (walk h 256 c.args.self.now.p) ≡ Ok c.in-Ok.t ∷ items (walk h 256 c.in-Ok.t.next)
met c = items_met _ _ (sym c.find.ensures ∙ ap numbered c.in-Ok.is)

overrun :
    (c : After-eq) →
    (c.in-Err.stop ≡ R.TagAbsent → ⊥) →
    let h = c.args.self.now.header.now in
    items (walk h 256 c.args.self.now.p) ≡ Err c.in-Err.stop ∷ items (walk h 256 256)
overrun c n = items_overrun _ _ c.in-Err.stop (sym c.find.ensures ∙ ap numbered c.in-Err.is) n

pub returns-in-Ok-clause-steps : goal.returns-in-Ok-clause-steps
returns-in-Ok-clause-steps c = met (goal.at.returns-in-Ok-clause-steps c).In-Ok

pub returns-in-Ok-clause-goes : goal.returns-in-Ok-clause-goes
returns-in-Ok-clause-goes c = let e = met (goal.at.returns-in-Ok-clause-goes c).In-Ok in search rules

pub returns-then-eq-clause-steps : goal.returns-then-eq-clause-steps
returns-then-eq-clause-steps c =
    let is : c.in-Err.stop ≡ R.TagAbsent = search rules in
    let e = items_absent _ _ (sym c.find.ensures ∙ ap numbered (c.in-Err.is ∙ ap Err is)) in
    (e, e)

pub returns-else-eq-clause-steps : goal.returns-else-eq-clause-steps
returns-else-eq-clause-steps c = overrun (goal.at.returns-else-eq-clause-steps c).After-eq (λ e. search rules)

pub returns-else-eq-clause-goes : goal.returns-else-eq-clause-goes
returns-else-eq-clause-goes c =
    let e = overrun (goal.at.returns-else-eq-clause-goes c).After-eq (λ e. search rules) in
    search rules

use mathlib.Core.Path.{sym, ap, ◌∙◌}
use native.Mathlib.Omega.{arith}
use Rattle.refusal.specs.Numbers.{numbered}
use Rattle.header.proofs.Lookups.{looked_up}
use Rattle.header.proofs.view.Goals as goal

pub overflow_add-result : goal.overflow_add-result
overflow_add-result c = omega (arith, looked_up _ _ (sym c.find_tag.ensures ∙ ap numbered c.in-Ok.is))

pub slice_bounds-result-end : goal.slice_bounds-result-end
slice_bounds-result-end c = omega (arith, looked_up _ _ (sym c.find_tag.ensures ∙ ap numbered c.in-Ok.is))

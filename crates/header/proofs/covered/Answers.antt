use Prim.Native.Nat.{◌-◌}
use mathlib.Core.Path.{sym, ap, ◌∙◌}
use native.Mathlib.Omega.{arith}
use lib.Seq.{length-take-le}
use Rattle.refusal.specs.Numbers.{numbered}
use Rattle.header.proofs.Lookups.{looked_up}
use Rattle.header.proofs.covered.Goals as goal

pub slice_bounds-result-count : goal.slice_bounds-result-count
slice_bounds-result-count c = omega (arith, looked_up _ _ (sym c.find_tag.ensures ∙ ap numbered c.in-Ok.is))

pub slice_bounds-result-length : goal.slice_bounds-result-length
slice_bounds-result-length c =
    let g = looked_up _ _ (sym c.find_tag.ensures ∙ ap numbered c.in-Ok.is) in
    let t = c.in-Ok.t in
    omega (arith, length-take-le (t.at - 4) c.args.header.now (omega arith))

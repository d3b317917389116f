use Prim.Native.Nat.{◌+◌, ◌*◌, ◌/◌, ◌≤◌}
use mathlib.Core.Path.{refl, sym, ◌∙◌}
use native.Mathlib.Omega.{arith}
use Rattle.slots.specs.FlagKinds.{value}
use Rattle.slots.proofs.Runs.{pairs_in, alike_from, run_on}
use Rattle.slots.proofs.trailers.Trailer.run_end_by_pairs.Goals as goal
use Rattle.slots.proofs.trailers.Trailer.run_end_by_pairs.Goals.{After-count_at_end}

room : (c : After-count_at_end) → c.div_ceil-pair.result + c.count_at_end.result ≤ c.args.self.now.flags / 2
room c =
    let t = c.args.self.now in
    let p = c.div_ceil-pair in
    omega (
      arith,
      pairs_in t.bytes.now t.flags c.value-v.result t.long t.few c.value-v.ensures.1 p.result _ _ c.count_at_end.result
          (omega (arith, p.ensures)) refl (omega arith) c.count_at_end.ensures,
    )

pub overflow_add-pair : goal.overflow_add-pair
overflow_add-pair c = omega (arith, room c)

pub overflow_mul-pair : goal.overflow_mul-pair
overflow_mul-pair c = omega (arith, room c)

pub run_end-requires : goal.run_end-requires
run_end-requires c = omega (arith, room c)

pub returns : goal.returns
returns c =
    let t = c.args.self.now in
    let p = c.div_ceil-pair in
    let low : c.args.from ≤ 2 * (p.result + c.count_at_end.result) = omega (arith, p.ensures) in
    run_on t.flags t.bytes.now (value c.args.flag) c.args.from _ _ low
    (rw c.value-v.ensures.0 at (alike_from t.bytes.now t.flags c.value-v.result t.long t.few c.value-v.ensures.1 p.result _ _ c.count_at_end.result
    (omega (arith, p.ensures)) refl (omega arith) c.count_at_end.ensures
    c.args.from (omega (arith, p.ensures)) (sym c.flag.ensures ∙ c.if-flag-v.false)))
    c.run_end.ensures

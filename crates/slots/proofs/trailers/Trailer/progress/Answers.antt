use mathlib.Core.Path.{◌∙◌}
use native.Mathlib.Omega.{arith}
use borrow.Author.Rules.{rules}
use Rattle.slots.proofs.Reading.{flag_counts, none_counts}
use Rattle.slots.proofs.Runs.{progress_done, progress-current}
use Rattle.slots.proofs.trailers.Trailer.progress.Goals as goal

pub returns-then-i-self : goal.returns-then-i-self
returns-then-i-self c =
    let t = c.args.self.now in rw (progress_done t.flags t.bytes.now _ c.run_end_by_pairs-i.ensures c.if-i-self.true)

pub returns-in_err-flag : goal.returns-in_err-flag
returns-in_err-flag c =
    let t = c.args.self.now in
    let i = c.run_end_by_pairs-i in
    let e = progress-current t.flags t.bytes.now i.result i.ensures c.flag.result (omega arith) c.flag.ensures in
    rw (e.1, none_counts c.flag.result _ _ c.in_err-flag.ensures.1) (search (rules, c.in_err-flag.ensures.0))

pub returns-then-is_new_from : goal.returns-then-is_new_from
returns-then-is_new_from c =
    let t = c.args.self.now in
    let i = c.run_end_by_pairs-i in
    let e = progress-current t.flags t.bytes.now i.result i.ensures _ (omega arith) (c.in_ok-flag.ensures ∙ c.flag.ensures) in
    rw (e.1, flag_counts c.in_ok-flag.flag _ _ e.0, ← c.is_new_from.ensures, c.if-is_new_from.true, c.stage.ensures.0)

pub returns : goal.returns
returns c =
    let t = c.args.self.now in
    let i = c.run_end_by_pairs-i in
    let e = progress-current t.flags t.bytes.now i.result i.ensures _ (omega arith) (c.in_ok-flag.ensures ∙ c.flag.ensures) in
    rw (e.1, flag_counts c.in_ok-flag.flag _ _ e.0, ← c.is_new_from.ensures, c.if-is_new_from.false)

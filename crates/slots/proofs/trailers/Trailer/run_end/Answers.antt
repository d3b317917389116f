use mathlib.Core.Logic.{◌≢◌}
use mathlib.Core.Path.{◌≡◌}
use borrow.Author.Rules.{rules}
use borrow.Author.Tests.{tests}
use Rattle.std.proofs.lemmas.Iterator.{first_from_Range}
use Rattle.slots.specs.FlagKinds.{value}
use Rattle.slots.specs.Flags.{flag}
use Rattle.slots.proofs.Runs.{run_found}
use Rattle.slots.proofs.trailers.Trailer.run_end.Goals as goal

pub returns : goal.returns
returns c =
    let t = c.args.self.now in
    rw c.unwrap_or.ensures (run_found t.flags t.bytes.now (value c.args.flag) c.args.from c.requires c.find.result
    (first_from_Range _ _ _ _ (λ i. flag t.bytes.now i ≢ value c.args.flag) (λ i. flag t.bytes.now i ≡ value c.args.flag) c.find.ensures.ran
    (λ x q k. search (rules, tests)) (λ x q k. search (rules, tests))))

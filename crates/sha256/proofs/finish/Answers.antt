use Rattle.std.proofs.Common.{rules}
use Rattle.sha256.proofs.Answers.{accepted, too_long}
use Rattle.sha256.proofs.finish.Goals as goal

pub returns-in_err-rest : goal.returns-in_err-rest
returns-in_err-rest c =
    let a = c.args in
    let e = too_long a.most a.hash a.k a.first.now a.second.now c.in_err-rest.ensures.1 in
    search (rules, e)

pub returns : goal.returns
returns c =
    let a = c.args in
    let e = c.in_ok-rest.ensures in
    cc (e.0, accepted a.most a.hash a.k a.first.now a.second.now (rw e.2 at e.3))

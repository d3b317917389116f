use mathlib.Core.Path.{◌∙◌, ap}
use lib.ListN.{replicate}
use lib.Seq.{length-take-le}
use Rattle.flash.proofs.Loops.{erased}
use Rattle.flash.proofs.bytes.erase.Goals as goal

pub returns : goal.returns
returns c =
    let a = c.args in
    let e = c.fill.ensures.after (λ y h. h) ∙ ap (λ n. replicate n 255) (length-take-le a.k a.part.now c.requires) in
    erased a.part.now c.fill.new.self a.k e

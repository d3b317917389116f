use Rattle.flash.proofs.Targets.{copy_fits}
use Rattle.flash.proofs.geometry.Layout.carry_out.Goals as goal

pub copy_sector-requires : goal.copy_sector-requires
copy_sector-requires c =
    let l = c.args.self in
    rw c.requires.0 (copy_fits l.shape.geometry l.len l.accepted _ _ (rw c.in-Copy.is at c.requires.1))

use native.Mathlib.Omega.{arith}
use Rattle.slots.specs.declared.places.Place.TheVariants.{Sector}
use Rattle.slots.proofs.Boards.{board_valid, sector_inside}
use Rattle.slots.proofs.board.Board.trailer.Goals as goal
use Rattle.slots.proofs.board.Board.trailer.Goals.{in-Boot, in-Update}

pub invariant_of-result : goal.invariant_of-result
invariant_of-result c =
    let b = c.args.self.now in
    let s = (board_valid b).shape in
    record {
      long = omega (arith, c.sector.ensures.size, s.size-min);
      inside = omega (arith, c.sector.ensures.size, c.offset.ensures, sector_inside b (Sector c.args.slot b.geometry.count) (omega arith));
      few = elim c.match-slot.branch [
        | in-Boot w ↦ omega (arith, w.flags-is)
        | in-Update w ↦ omega (arith, w.flags-is, s.count-max)
      ];
    }

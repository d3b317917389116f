-- A board's geometry is accepted; one that was not made has a geometry that is refused. Assumes nothing.
use Prim.Native.Nat.{ℕ, ◌+◌, ◌-◌, ◌≤◌}
use mathlib.Core.Bool.{false}
use mathlib.Core.Path.{◌≡◌, ◌∙◌}
use native.Mathlib.Omega.{arith}
use borrow.Author.Tests.{ne_eqb}
use lib.Dec.{eqb}
use lib.ListN.{length, take, drop}
use Rattle.flash.specs.Geometry.{image_size}
use Rattle.flash.specs.Valid.{Valid}
use Rattle.flash.proofs.Areas.{valid}
use Rattle.refusal.specs.Numbers.{number}
use Rattle.refusal.specs.declared.Refusal.{Refusal}
use Rattle.refusal.proofs.Told.{numbers_tell}
use Rattle.slots.specs.Places.{start, offset, Within, SectorIs, bytes_at}
use Rattle.slots.specs.declared.board.Board.{Board}
use Rattle.slots.specs.declared.places.Place.{Place}
use Rattle.slots.specs.declared.places.Slot.{Slot}
use Rattle.slots.proofs.Sectors.{slot_in, offset_in, part_of, sector-is}

module _ (b : Board) where
  pub board_valid : Valid b.geometry (length b.flash.now)
  board_valid = valid b.geometry (length b.flash.now) b.accepted

  pub sector_inside : (p : Place) → Within b.geometry p → offset b.geometry p + b.geometry.size ≤ length b.flash.now
  sector_inside = offset_in b.geometry (length b.flash.now) board_valid

  pub image_inside : (s : Slot) → start b.geometry s + image_size b.geometry ≤ length b.flash.now
  image_inside s = omega (arith, slot_in b.geometry (length b.flash.now) board_valid s)

  pub board_long : 256 ≤ b.geometry.size
  board_long = board_valid.shape.size-min

  pub sector_read : (p : Place) → Within b.geometry p → (from : ℕ) → from ≡ offset b.geometry p
      → SectorIs b.geometry (bytes_at b.geometry b.flash.now p) (take (from + b.geometry.size - from) (drop from b.flash.now))
  unfolding bytes_at
  sector_read p w from e =
      sector-is b.geometry b.flash.now p _ board_valid w (part_of b.flash.now from b.geometry.size ∙ rw e)

pub refused : (r : Refusal) {n : ℕ} → number r ≡ n → eqb n 0 ≡ false
refused r {n} e = ne_eqb n 0 (λ z. numbers_tell.never_zero r (e ∙ z))

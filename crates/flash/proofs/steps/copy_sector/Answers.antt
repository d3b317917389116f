use Prim.Native.Nat.{◌+◌, ◌≤◌}
use mathlib.Core.Path.{◌≡◌, refl, sym, ap, ◌∙◌}
use native.Mathlib.Omega.{arith}
use lib.ListN.{length, take-append-drop}
use Rattle.flash.specs.Bytes.{ands, write}
use Rattle.flash.proofs.Loops.{page_turn}
use Rattle.flash.proofs.Writes.{length-write}
use Rattle.flash.proofs.steps.copy_sector.Goals as goal

pub loop-k-init : goal.loop-k-init
unfolding ands write
loop-k-init c = record {
  whole = refl;
  within = omega arith;
  page = refl;
  size = refl;
  written = sym (take-append-drop c.args.to c.args.flash.now);
}

pub loop-k-preserved : goal.loop-k-preserved
loop-k-preserved c =
    let l = c.loop-k in
    let a = c.args in
    let more : l.k + 256 ≤ a.z = omega arith in
    let next = page_turn a.flash.now l.flash _ _ a.from a.to a.z l.k 256 c.requires.1 c.requires.2 c.requires.3 more
    l.invariant.size l.invariant.written c.copy_from_slice.ensures.after c.write.ensures in record {
      whole = omega arith;
      within = more;
      page = c.copy_from_slice.ensures.len ∙ l.invariant.page;
      size = ap length next ∙ length-write a.flash.now a.to _;
      written = next;
    }

pub returns : goal.returns
returns c =
    let e : c.loop-k.k ≡ c.args.z = omega arith in
    rw e at c.loop-k.invariant.written

pub returns-2 : goal.returns-2
returns-2 c =
    let l = c.loop-k in
    let a = c.args in
    let end : l.k + 256 ≡ a.z = omega arith in
    rw end at (page_turn a.flash.now l.flash _ _ a.from a.to a.z l.k 256 c.requires.1 c.requires.2 c.requires.3 (omega arith)
    l.invariant.size l.invariant.written c.copy_from_slice.ensures.after c.write.ensures)

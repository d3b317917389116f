use Prim.Native.Nat.{◌-◌, ◌%◌, ◌≤◌}
use mathlib.Core.Path.{◌≡◌}
use lib.ListN.{length, take, drop}
use Rattle.flash.specs.Bytes.{write}
use Rattle.flash.proofs.steps.copy_sector.Given as goal

abbrev pub invariant-loop-k : goal.invariant-loop-k
invariant-loop-k l = record {
  whole : l.k % 256 ≡ 0;
  within : l.k ≤ l.z;
  page : length l.page ≡ 256;
  size : length l.flash ≡ length l.initial.flash;
  written : l.flash ≡ write l.initial.flash l.to (take l.k (drop l.from l.initial.flash));
}

abbrev pub decreases-loop-k : goal.decreases-loop-k
decreases-loop-k l = l.z - l.k

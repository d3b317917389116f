use Rattle.std.proofs.Common.{◌≡◌, ◌-◌, ◌≤◌, None}
use Rattle.header.specs.Listing.{listing}
use Rattle.tags.specs.Listed.{end_of}
use Rattle.tags.proofs.print_tags.Given as goal

abbrev pub invariant-loop-t : goal.invariant-loop-t
invariant-loop-t g l = record {
  from : 8 ≤ l.p;
  same_end : (listing 63 l.header l.p None).number ≡ end_of l.header;
}

abbrev pub decreases-loop-t : goal.decreases-loop-t
decreases-loop-t g l = 256 - l.p

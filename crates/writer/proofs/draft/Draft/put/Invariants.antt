use Rattle.std.proofs.Common.{◌≡◌, ◌+◌, ◌++◌, length, take}
use Rattle.writer.proofs.draft.Draft.put.Given as goal

abbrev pub invariant-loop-i : goal.invariant-loop-i
invariant-loop-i l =
    record {
      same_reference : l.self.buffer.ghost_name ≡ l.initial.self.buffer.ghost_name;
      at : l.self.at ≡ l.initial.self.at;
      long : length l.self.buffer.now ≡ length l.initial.self.buffer.now;
      start : take (l.self.at + l.i) l.self.buffer.now ≡ take l.self.at l.initial.self.buffer.now ++ take l.i l.piece;
    }

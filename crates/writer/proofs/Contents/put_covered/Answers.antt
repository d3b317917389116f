use Rattle.std.proofs.Common.{arith}
use Rattle.writer.specs.Layout.{covered_part}
use Rattle.writer.proofs.Accepted.{accepted}
use Rattle.writer.proofs.Stores.{then_stored}
use Rattle.writer.proofs.Whole.{fixed_length}
use Rattle.writer.proofs.Contents.put_covered.Goals as goal

pub put_fixed-requires-clause-size : goal.put_fixed-requires-clause-size
put_fixed-requires-clause-size c = let a = accepted _ _ c.requires.accepted in omega (arith, a.firmware_ok.size)

pub put-requires : goal.put-requires
put-requires c =
    let s = c.args.self.now in
    let a = accepted _ _ c.requires.accepted in
    let fixed = c.put_fixed.ensures.bytes in
    omega (arith, a.custom_ok.size, fixed.long, fixed.next, fixed_length s.fields s.firmware.now s.custom.now s.hint.now)

pub put_tag-requires-clause-room : goal.put_tag-requires-clause-room
put_tag-requires-clause-room c =
    let s = c.args.self.now in
    let a = accepted _ _ c.requires.accepted in
    let fixed = c.put_fixed.ensures.bytes in
    let custom = c.put.ensures.bytes in
    omega (arith, a.custom_ok.size, fixed.long, fixed.next, custom.long, custom.next, fixed_length s.fields s.firmware.now s.custom.now s.hint.now)

pub returns-clause-bytes : goal.returns-clause-bytes
unfolding covered_part
returns-clause-bytes c = then_stored (then_stored c.put_fixed.ensures.bytes c.put.ensures.bytes) c.put_tag.ensures.bytes

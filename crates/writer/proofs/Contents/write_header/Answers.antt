use Rattle.std.proofs.Common.{◌+◌, ◌≤◌, length, sym, ◌∙◌, arith, rules}
use Rattle.refusal.proofs.Told.{numbers_tell}
use Rattle.writer.proofs.Accepted.{accepted, written}
use Rattle.writer.proofs.Stores.{then_stored, tag_length}
use Rattle.writer.proofs.Whole.{covered_length, kept, filled}
use Rattle.writer.proofs.Contents.write_header.Goals as goal
use Rattle.writer.proofs.Contents.write_header.Goals.{After-put_covered}

-- where the digest's tag goes, there is room for it and the signature's
room : (c : After-put_covered) → c.put_covered.new.draft.at + 104 ≤ length c.put_covered.new.draft.buffer.now
room c =
    let s = c.args.self.now in
    let covered = c.put_covered.ensures.bytes in
    let ok = written _ s.firmware.now s.custom.now (sym c.in_ok-check_write.ensures) in
    let size = accepted s.firmware.now s.custom.now ok.1 in
    omega (arith, size.custom_ok.size, covered.long, covered.next, ok.0, covered_length s.fields s.firmware.now s.custom.now s.hint.now c.put_covered.ensures.hint)

pub returns-in_err-check_write-clause-bytes : goal.returns-in_err-check_write-clause-bytes
returns-in_err-check_write-clause-bytes c =
    kept _ _ _ _ _ _ (λ e. numbers_tell.never_zero c.in_err-check_write.field-0.0 (c.in_err-check_write.ensures ∙ e))

pub put_covered-requires-clause-room : goal.put_covered-requires-clause-room
put_covered-requires-clause-room c =
    let s = c.args.self.now in
    (written _ s.firmware.now s.custom.now (sym c.in_ok-check_write.ensures)).0

pub put_covered-requires-clause-accepted : goal.put_covered-requires-clause-accepted
put_covered-requires-clause-accepted c =
    let s = c.args.self.now in
    (written _ s.firmware.now s.custom.now (sym c.in_ok-check_write.ensures)).1

pub digest-digest-requires-clause-accepted : goal.digest-digest-requires-clause-accepted
digest-digest-requires-clause-accepted c =
    let s = c.args.self.now in
    (written _ s.firmware.now s.custom.now (sym c.in_ok-check_write.ensures)).1

pub put_tag-requires-clause-room : goal.put_tag-requires-clause-room
put_tag-requires-clause-room c = omega (arith, room (goal.at.put_tag-requires-clause-room c).After-put_covered)

pub put_tag-requires-2-clause-room : goal.put_tag-requires-2-clause-room
put_tag-requires-2-clause-room c =
    omega (arith, room (goal.at.put_tag-requires-2-clause-room c).After-put_covered, c.put_tag.ensures.bytes.next, c.put_tag.ensures.bytes.long, tag_length 0x0003 c.digest-digest.result)

pub returns-clause-bytes : goal.returns-clause-bytes
returns-clause-bytes c =
    let s = c.args.self.now in
    let ok = written _ s.firmware.now s.custom.now (sym c.in_ok-check_write.ensures) in
    let size = accepted s.firmware.now s.custom.now ok.1 in
    let whole = then_stored (then_stored c.put_covered.ensures.bytes (rw c.digest-digest.ensures at c.put_tag.ensures.bytes)) c.put_tag-2.ensures.bytes in
    let all = filled s.fields s.firmware.now s.custom.now s.hint.now c.args.signature.now (sym c.in_ok-check_write.ensures) ok.0 size.custom_ok.size c.put_covered.ensures.hint c.told-signature whole c.pad.ensures.bytes in
    search (rules, all)

use Rattle.std.proofs.Common.{◌≡◌, length, ◌∙◌}
use Rattle.writer.specs.Layout.{le_bytes}
use Rattle.writer.proofs.Stores.{then_stored, two_bytes, four_bytes, eight_bytes}
use Rattle.writer.proofs.Contents.put_fixed.Goals as goal

pub returns-clause-bytes : goal.returns-clause-bytes
returns-clause-bytes c =
    let s = c.args.self.now in
    let size : c.to_le_bytes.result ≡ le_bytes 4 (length s.firmware.now) = c.to_le_bytes.ensures ∙ four_bytes (length s.firmware.now) in
    let version : c.to_le_bytes-2.result ≡ le_bytes 4 s.fields.version = c.to_le_bytes-2.ensures ∙ four_bytes s.fields.version in
    let timestamp : c.to_le_bytes-3.result ≡ le_bytes 8 s.fields.timestamp = c.to_le_bytes-3.ensures ∙ eight_bytes s.fields.timestamp in
    let kind : c.to_le_bytes-4.result ≡ le_bytes 2 s.fields.firmware_type = c.to_le_bytes-4.ensures ∙ two_bytes s.fields.firmware_type in
    let upto-size = then_stored (rw c.requires.start at c.put.ensures.bytes) (rw size at c.put-2.ensures.bytes) in
    let upto-version = then_stored upto-size (rw version at c.put_tag.ensures.bytes) in
    let upto-timestamp = then_stored upto-version (rw timestamp at c.put_tag-2.ensures.bytes) in
    then_stored upto-timestamp (rw kind at c.put_tag-3.ensures.bytes)

use Rattle.std.proofs.Common.{◌≡◌, length, ◌∙◌}
use Rattle.writer.specs.Layout.{le_bytes, tag_bytes}
use Rattle.writer.proofs.Stores.{then_stored, two_bytes}
use Rattle.writer.proofs.draft.Draft.put_tag.Goals as goal

pub returns-clause-bytes : goal.returns-clause-bytes
unfolding tag_bytes
returns-clause-bytes c =
    let kind : c.to_le_bytes.result ≡ le_bytes 2 c.args.kind = c.to_le_bytes.ensures ∙ two_bytes c.args.kind in
    let size : c.to_le_bytes-2.result ≡ le_bytes 2 (length c.args.content.now) = c.to_le_bytes-2.ensures ∙ two_bytes (length c.args.content.now) in
    then_stored (then_stored (rw kind at c.put.ensures.bytes) (rw size at c.put-2.ensures.bytes)) c.put-3.ensures.bytes

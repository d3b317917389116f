use Rattle.std.proofs.Common.{◌≡◌, Ok, refl, sym, ◌∙◌}
use Rattle.writer.specs.Layout.{digest_to_sign}
use Rattle.writer.proofs.Whole.{digest-is}
use Rattle.writer.proofs.Contents.digest.Goals as goal
use Rattle.writer.proofs.Contents.digest.Goals.{After-digest_of_two}

known : (c : After-digest_of_two) → let s = c.args.self.now in c.digest_of_two.result ≡ Ok (digest_to_sign s.fields s.firmware.now s.custom.now s.hint.now)
known c =
    let s = c.args.self.now in
    digest-is s.fields s.firmware.now s.custom.now s.hint.now c.digest_of_two.result c.requires.hint c.requires.accepted (rw c.requires.covered at c.digest_of_two.ensures)

pub unwrap-requires : goal.unwrap-requires
unwrap-requires c = rw (known c) refl

pub returns : goal.returns
returns c =
    let s = c.args.self.now in
    let same : Ok c.unwrap.result ≡ Ok (digest_to_sign s.fields s.firmware.now s.custom.now s.hint.now) = sym c.unwrap.ensures ∙ known (goal.at.returns c).After-digest_of_two in
    cc

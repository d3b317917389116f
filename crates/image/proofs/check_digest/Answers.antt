use mathlib.Core.Path.{◌≡◌, refl, sym, ◌∙◌}
use native.Mathlib.Omega.{arith}
use lib.ListN.{length-take}
use Rattle.std.specs.Prelude.{Ok}
use Rattle.header.specs.Lookup.{view_of}
use Rattle.header.proofs.Lookups.{covered-short}
use Rattle.header.proofs.Refusals.{firmware-fits}
use Rattle.compare.specs.Compare.{same}
use Rattle.image.specs.Verdict.{digest_of}
use Rattle.image.proofs.Digest.{firmware-is, has_digest, digest-is}
use Rattle.image.proofs.check_digest.Goals as goal
use Rattle.image.proofs.check_digest.Goals.{After-same}

pub slice_bounds-long_digest_of_two-end : goal.slice_bounds-long_digest_of_two-end
slice_bounds-long_digest_of_two-end c = omega (arith, firmware-fits c.args.image.now c.requires)

-- by lengths alone: it holds of a program that hashes other bytes too
pub unwrap-digest-requires : goal.unwrap-digest-requires
unwrap-digest-requires c =
    let short = rw (← c.covered.ensures) at (covered-short c.args.image.now) in
    rw (has_digest _ _ _ short (rw length-take (omega arith)) c.long_digest_of_two.ensures) refl

known : (c : After-same) → same (view_of c.args.image.now 0x0003) (digest_of c.args.image.now) ≡ c.same.result
known c =
    let f = firmware-is c.args.image.now _ c.number_at.ensures in
    let h = digest-is c.args.image.now _ _ _ (omega arith) c.covered.ensures f c.long_digest_of_two.ensures in
    let e : Ok c.unwrap-digest.result ≡ Ok (digest_of c.args.image.now) = sym c.unwrap-digest.ensures ∙ h in
    let d : c.unwrap-digest.result ≡ digest_of c.args.image.now = cc in
    rw (← d, ← c.view.ensures) (sym c.same.ensures)

pub returns-then-same : goal.returns-then-same
returns-then-same c = rw (known (goal.at.returns-then-same c).After-same, c.if-same.true)

pub returns-else-same : goal.returns-else-same
returns-else-same c = rw (known (goal.at.returns-else-same c).After-same, c.if-same.false)

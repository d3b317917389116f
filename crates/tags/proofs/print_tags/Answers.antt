use Rattle.std.proofs.Common.{None, sym, ap, ◌∙◌, arith}
use Rattle.header.specs.Listing.{listing}
use Rattle.header.specs.Walk.{Walk}
use Rattle.header.proofs.Listing.{tags-listed, list_step}
use Rattle.tags.proofs.print_tags.Goals as goal

pub loop-t-smaller : goal.loop-t-smaller
loop-t-smaller g c = let on = tags-listed.leads _ _ _ _ (sym c.in-Ok.ensures) in omega arith

pub loop-t-preserved : goal.loop-t-preserved
loop-t-preserved g c =
    let on = tags-listed.leads _ _ _ _ (sym c.in-Ok.ensures) in
    record {
      from = omega (arith, c.loop-t.invariant.from);
      same_end = sym (ap (λ (w : Walk). w.number) (list_step _ _ None _ c.loop-t.invariant.from (sym c.in-Ok.ensures)))
          ∙ c.loop-t.invariant.same_end;
    }

pub returns-in-Err : goal.returns-in-Err
unfolding listing
returns-in-Err g c = rw (sym c.in-Err.ensures) at c.loop-t.invariant.same_end

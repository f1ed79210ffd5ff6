use Rattle.std.proofs.Common.{arith}
use Rattle.purl_core.proofs.Cuts.{last_step}
use Rattle.purl_core.proofs.cutting.version_place.Goals as goal

pub returns-then-counts : goal.returns-then-counts
returns-then-counts c =
    let h = c.counts.ensures.0 c.if-counts.true in
    (omega arith, h.0, h.1, h.2, λ i above w e. c.places.invariant i (omega (arith, above)) w e (omega (arith, above)))

pub places-preserved : goal.places-preserved
places-preserved c =
    last_step c.args.text.now c.places.at (omega arith) (λ e s other. let t = c.counts.ensures.1 (e, s, other) in cc (t, c.if-counts.false)) c.places.invariant

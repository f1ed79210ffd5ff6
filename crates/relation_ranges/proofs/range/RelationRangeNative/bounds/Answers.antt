use Rattle.std.proofs.Common.{IfErr, subst}
use Rattle.vx_scheme.specs.Native.{Refused, by_domain}
use Rattle.relation_ranges.specs.Range.{Refuses}
use Rattle.relation_ranges.specs.Laws.NoEnd.{relation_no_end}
use Rattle.relation_ranges.proofs.range.RelationRangeNative.bounds.Goals as goal

pub returns-clause-no_end : goal.returns-clause-no_end
returns-clause-no_end g c kind at is =
    let r = g.R.Relations in
    let s = g.R.Scheme in
    let first_past = g.R.PlacedVersions.first_past in
    let domain = c.args.domain in
    let text = c.args.text.now in
    let refused = subst (λ result. IfErr result (Refused (Refuses r.bar g.R.Signs.ByteClass.holds r.HasSigns s.Spells first_past r.outcome domain text))) is c.bounds_of_terms.ensures.err in
    relation_no_end r.bar g.R.Signs.ByteClass.holds r.HasSigns s.Spells first_past s.order s.IsVersion (by_domain s.InAll s.IsRelease) r.outcome r.holds r.size r.Tells
    g.met.R.Scheme.texts.spelled_version g.met.R.Relations.some_told g.met.R.Relations.told_apart domain text kind at (refused (λ e. cc e))

use Rattle.std.proofs.Common.{subst}
use Rattle.vx_vers.specs.Again.{EachWritable}
use Rattle.vx_vers.proofs.Spelled.{printed_same}
use Rattle.vx_vers.proofs.writing.write.Goals as goal

pub returns-in-Ok-clause-spells : goal.returns-in-Ok-clause-spells
returns-in-Ok-clause-spells g c =
    let scheme = g.S.Scheme in
    let each = subst (EachWritable scheme.IsVersion scheme.IsWithin scheme.normal) c.as_slice.ensures.items c.in-Ok.ensures.versions in
    printed_same scheme.order g.met.S.Scheme.total scheme.IsVersion scheme.IsWithin scheme.Spells scheme.normal g.met.S.Scheme.texts scheme.name c.args.list.now each c.as_slice.ensures.sorted

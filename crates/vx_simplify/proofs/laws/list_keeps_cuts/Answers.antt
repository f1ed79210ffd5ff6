use Rattle.vx_simplify.proofs.ListedLaws.{list_keeps_cuts}
use Rattle.vx_simplify.proofs.laws.list_keeps_cuts.Goals as goal

pub returns-clause-starts : goal.returns-clause-starts
returns-clause-starts g c spans s some = (list_keeps_cuts g.met.S.Scheme.total spans s some).0

pub returns-clause-cuts : goal.returns-clause-cuts
returns-clause-cuts g c spans s some = (list_keeps_cuts g.met.S.Scheme.total spans s some).1

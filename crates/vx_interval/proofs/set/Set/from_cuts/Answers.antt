use Rattle.vx_interval.proofs.SpanLaws.{cuts_of_spans_of, spans_alike}
use Rattle.vx_interval.proofs.set.Set.from_cuts.Goals as goal

pub returns-clause-cuts : goal.returns-clause-cuts
returns-clause-cuts g c = cuts_of_spans_of c.args.starts_in c.args.cuts

pub returns-clause-at : goal.returns-clause-at
returns-clause-at g c below place = spans_alike g.S.Scheme.order place c.args.starts_in c.args.cuts c.requires

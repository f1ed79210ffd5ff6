use Rattle.vx_vers.proofs.PartLaws.{some_bytes}
use Rattle.vx_vers.proofs.reading.push_next.Goals as goal

pub push_part-requires-clause-some : goal.push_part-requires-clause-some
push_part-requires-clause-some g c = some_bytes c.args.part.now c.is_empty.result c.is_empty.ensures c.if-is_empty.false

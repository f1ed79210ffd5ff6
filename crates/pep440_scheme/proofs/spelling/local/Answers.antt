use Rattle.pep440_scheme.proofs.PartLaws.{local_utf8}
use Rattle.pep440_scheme.proofs.spelling.local.Goals as goal

pub unreachable-requires : goal.unreachable-requires
unreachable-requires c = c.in-Err.ensures.cases.0 (local_utf8 c.args.part.now c.requires)

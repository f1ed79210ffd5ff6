use Rattle.relation_ranges.specs.Laws.DebTable.{relation_says}
use Rattle.relation_ranges.proofs.deb.range.deb_relation_is_its_span.Goals as goal

pub returns : goal.returns
returns c = relation_says

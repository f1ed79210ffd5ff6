use Rattle.relation_ranges.specs.Laws.RpmTable.{relation_says}
use Rattle.relation_ranges.proofs.rpm.range.rpm_relation_is_its_span.Goals as goal

pub returns : goal.returns
returns c = relation_says

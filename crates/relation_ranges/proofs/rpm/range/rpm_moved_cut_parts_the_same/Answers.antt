use Rattle.relation_ranges.specs.Laws.RpmTable.{moved_parts}
use Rattle.relation_ranges.proofs.rpm.range.rpm_moved_cut_parts_the_same.Goals as goal

pub returns : goal.returns
returns c = moved_parts

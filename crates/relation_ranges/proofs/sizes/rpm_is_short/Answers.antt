use Rattle.relation_ranges.specs.Laws.Sizes.{rpm_short, rpm_one}
use Rattle.relation_ranges.proofs.sizes.rpm_is_short.Goals as goal

pub returns : goal.returns
returns c = record { short = rpm_short; one = rpm_one }

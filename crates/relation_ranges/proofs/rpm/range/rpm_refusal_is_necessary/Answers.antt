use Rattle.relation_ranges.specs.Laws.RpmApart.{rpm_apart, rpm_tells}
use Rattle.relation_ranges.proofs.rpm.range.rpm_refusal_is_necessary.Goals as goal

pub returns-clause-two : goal.returns-clause-two
returns-clause-two c = rpm_tells

pub returns-clause-apart : goal.returns-clause-apart
returns-clause-apart c = rpm_apart

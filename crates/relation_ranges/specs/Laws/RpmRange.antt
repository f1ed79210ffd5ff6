-- A text has one reading as RPM's relations, and one first refusal in a domain.
use Rattle.std.proofs.Common.{◌≡◌, ℕ, List, None}
use Rattle.vx_scheme.specs.declared.domain.Domain.{Domain}
use Rattle.vx_scheme.specs.declared.range_fault.RangeFault.{RangeFault}
use Rattle.vx_text.specs.Past.{first_past}
use Rattle.rpm_scheme.specs.Spelling.{Spells}
use Rattle.rpm_scheme.specs.Laws.Unique.{one_reading}
use Rattle.relation_ranges.specs.Laws.Range as relations
use Rattle.relation_ranges.specs.Laws.RpmTable.{one_operator}
use Rattle.relation_ranges.specs.Comparison.{is_sign}
use Rattle.relation_ranges.specs.Rpm.Reading.{HasSigns, RpmRelation, Reads}
use Rattle.relation_ranges.specs.Rpm.Spans.{outcome}
use Rattle.relation_ranges.specs.Rpm.Range.{Refuses}

pub one_reads : (text : List ℕ) (a b : List (List RpmRelation)) → Reads text a → Reads text b → a ≡ b
one_reads = relations.one_reads None is_sign HasSigns Spells first_past one_operator one_reading

pub one_refusal : (domain : Domain) (text : List ℕ) (a b : RangeFault) → Refuses domain text a → Refuses domain text b → a ≡ b
one_refusal = relations.one_refusal None is_sign HasSigns Spells first_past one_operator one_reading outcome

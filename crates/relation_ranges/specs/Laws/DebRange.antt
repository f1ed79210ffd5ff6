-- A text has one reading as Debian's relations, and one first refusal.
use Rattle.std.proofs.Common.{◌≡◌, ℕ, List, Some}
use Rattle.vx_scheme.specs.declared.domain.Domain.{Domain}
use Rattle.vx_scheme.specs.declared.range_fault.RangeFault.{RangeFault}
use Rattle.vx_text.specs.Past.{first_past}
use Rattle.deb_scheme.specs.Spelling.{Spells}
use Rattle.deb_scheme.specs.Laws.Unique.{one_reading}
use Rattle.relation_ranges.specs.Comparison.{is_sign}
use Rattle.relation_ranges.specs.Deb.Operators.{HasSigns, bar}
use Rattle.relation_ranges.specs.Deb.Reading.{DebRelation, Reads}
use Rattle.relation_ranges.specs.Deb.Refusals.{outcome}
use Rattle.relation_ranges.specs.Deb.Range.{Refuses}
use Rattle.relation_ranges.specs.Laws.Range as relations
use Rattle.relation_ranges.specs.Laws.DebTable.{one_operator}

pub one_reads : (text : List ℕ) (a b : List (List DebRelation)) → Reads text a → Reads text b → a ≡ b
one_reads = relations.one_reads (Some bar) is_sign HasSigns Spells first_past one_operator one_reading

pub one_refusal : (domain : Domain) (text : List ℕ) (a b : RangeFault) → Refuses domain text a → Refuses domain text b → a ≡ b
one_refusal = relations.one_refusal (Some bar) is_sign HasSigns Spells first_past one_operator one_reading outcome

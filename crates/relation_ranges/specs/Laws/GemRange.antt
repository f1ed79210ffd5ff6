-- A text has one reading as RubyGems' requirements, and one first refusal in a domain.
use Rattle.std.proofs.Common.{◌≡◌, ℕ, List, None}
use Rattle.vx_scheme.specs.declared.domain.Domain.{Domain}
use Rattle.vx_scheme.specs.declared.range_fault.RangeFault.{RangeFault}
use Rattle.vx_text.specs.Past.{first_past}
use Rattle.gem_scheme.specs.Spelling.{Spells}
use Rattle.gem_scheme.specs.Laws.Texts.{gem_texts}
use Rattle.relation_ranges.specs.Laws.Range as relations
use Rattle.relation_ranges.specs.Laws.GemTable.{one_operator}
use Rattle.relation_ranges.specs.Gem.Operators.{HasSigns, is_sign}
use Rattle.relation_ranges.specs.Gem.Reading.{GemRelation, Reads}
use Rattle.relation_ranges.specs.Gem.Spans.{outcome}
use Rattle.relation_ranges.specs.Gem.Range.{Refuses}

pub one_reads : (text : List ℕ) (a b : List (List GemRelation)) → Reads text a → Reads text b → a ≡ b
one_reads = relations.one_reads None is_sign HasSigns Spells first_past one_operator gem_texts.spells_one

pub one_refusal : (domain : Domain) (text : List ℕ) (a b : RangeFault) → Refuses domain text a → Refuses domain text b → a ≡ b
one_refusal = relations.one_refusal None is_sign HasSigns Spells first_past one_operator gem_texts.spells_one outcome

use Rattle.relation_ranges.specs.Laws.DebTable.{term_says}
use Rattle.relation_ranges.proofs.deb.range.deb_term_is_its_spans.Goals as goal

pub returns : goal.returns
returns c = term_says

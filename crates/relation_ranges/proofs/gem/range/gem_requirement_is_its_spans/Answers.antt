use Rattle.relation_ranges.specs.Laws.GemTable.{requirement_says}
use Rattle.relation_ranges.proofs.gem.range.gem_requirement_is_its_spans.Goals as goal

pub returns : goal.returns
returns c = requirement_says

use Rattle.std.proofs.Common.{◌∙◌}
use Rattle.relation_ranges.proofs.GemTexts.{short_gap}
use Rattle.relation_ranges.proofs.gem.back.first_gap.Goals as goal

pub returns : goal.returns
returns c = short_gap c.gaps.rest.now c.in_default.len_below ∙ c.gaps.invariant

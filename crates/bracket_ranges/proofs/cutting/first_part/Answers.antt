use Rattle.std.proofs.Common.{sym}
use Rattle.bracket_ranges.proofs.PartLaws.{first_part_is, whole_part_is}
use Rattle.bracket_ranges.proofs.cutting.first_part.Goals as goal

pub returns-in-empty-clause-parts : goal.returns-in-empty-clause-parts
returns-in-empty-clause-parts c = whole_part_is c.args.text.now c.past_run.result.now c.requires (sym c.past_run.ensures.past) c.in-empty.len_below

pub returns-in-len1-up-clause-parts : goal.returns-in-len1-up-clause-parts
returns-in-len1-up-clause-parts c = first_part_is c.args.text.now c.past_run.result.now c.requires (sym c.past_run.ensures.past)

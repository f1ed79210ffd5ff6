use Rattle.bracket_ranges.specs.Laws.Refusals.{one_reads, one_refusal}
use Rattle.bracket_ranges.proofs.laws.brackets_one_answer.Goals as goal

pub returns-clause-reads : goal.returns-clause-reads
returns-clause-reads g c = one_reads g.B.Brackets.lists g.B.Brackets.alone g.B.Scheme.Spells g.B.PlacedVersions.first_past g.met.B.Scheme.texts.spells_one g.met.B.Brackets.words

pub returns-clause-refused : goal.returns-clause-refused
returns-clause-refused g c = one_refusal g.B.Brackets.lists g.B.Brackets.alone g.B.Scheme.Spells g.B.PlacedVersions.first_past g.met.B.Scheme.texts.spells_one g.met.B.Brackets.words

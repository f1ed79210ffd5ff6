use Rattle.bracket_ranges.specs.Laws.Refusals.{blank_refused}
use Rattle.bracket_ranges.proofs.laws.blank_is_no_range.Goals as goal

pub returns : goal.returns
returns g c = blank_refused g.B.Brackets.lists g.B.Brackets.alone g.B.Scheme.Spells g.B.PlacedVersions.first_past g.met.B.Scheme.texts.spells_one g.met.B.Brackets.words

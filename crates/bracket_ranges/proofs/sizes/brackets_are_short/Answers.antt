use Rattle.bracket_ranges.specs.Laws.Sizes.{brackets_short, brackets_one}
use Rattle.bracket_ranges.proofs.sizes.brackets_are_short.Goals as goal

pub returns : goal.returns
returns g c = record {
  short = brackets_short g.B.Brackets.lists g.B.Brackets.alone g.B.Scheme.Spells g.B.PlacedVersions.first_past g.B.Scheme.order;
  one = brackets_one g.B.Brackets.lists g.B.Brackets.alone g.B.Scheme.Spells g.B.PlacedVersions.first_past g.met.B.Scheme.texts.spells_one g.met.B.Brackets.words;
}

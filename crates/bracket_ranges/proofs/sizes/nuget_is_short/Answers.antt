use Rattle.std.specs.Prelude.{false}
use Rattle.nuget_scheme.specs.Order.{order_of}
use Rattle.nuget_scheme.specs.Past.{past_numeral_of}
use Rattle.nuget_scheme.specs.Spelling.{Spells}
use Rattle.nuget_scheme.specs.Laws.Texts.{nuget_texts}
use Rattle.bracket_ranges.specs.Nuget.Alone.{alone}
use Rattle.bracket_ranges.specs.Laws.NugetTable.{spelled_word}
use Rattle.bracket_ranges.specs.Laws.Sizes.{brackets_short, brackets_one}
use Rattle.bracket_ranges.proofs.sizes.nuget_is_short.Goals as goal

pub returns : goal.returns
returns c = record {
  short = brackets_short false alone Spells past_numeral_of order_of;
  one = brackets_one false alone Spells past_numeral_of nuget_texts.spells_one spelled_word;
}

use Rattle.std.specs.Prelude.{true}
use Rattle.vx_text.specs.Past.{first_past}
use Rattle.maven_scheme.specs.Order.{order_of}
use Rattle.maven_scheme.specs.Spelling.{Spells}
use Rattle.maven_scheme.specs.Laws.Texts.{maven_texts}
use Rattle.bracket_ranges.specs.Maven.Alone.{alone}
use Rattle.bracket_ranges.specs.Laws.MavenTable.{spelled_word}
use Rattle.bracket_ranges.specs.Laws.Sizes.{brackets_short, brackets_one}
use Rattle.bracket_ranges.proofs.sizes.maven_is_short.Goals as goal

pub returns : goal.returns
returns c = record {
  short = brackets_short true alone Spells first_past order_of;
  one = brackets_one true alone Spells first_past maven_texts.spells_one spelled_word;
}

-- Maven's range language: what a text makes.
use Rattle.std.specs.Prelude.{ℕ, List, true}
use Rattle.vx_scheme.specs.declared.domain.Domain.{Domain}
use Rattle.vx_scheme.specs.declared.span.Span.{Span}
use Rattle.vx_text.specs.Past.{first_past}
use Rattle.maven_scheme.specs.Version.{Fields}
use Rattle.maven_scheme.specs.Order.{order_of}
use Rattle.maven_scheme.specs.Spelling.{Spells}
use Rattle.bracket_ranges.specs.Range as brackets
use Rattle.bracket_ranges.specs.Maven.Alone.{alone}

-- what the text makes, the same in each domain
abbrev pub Makes : Domain → List ℕ → List (List (List (Span Fields))) → Type 0
Makes = brackets.Makes true alone Spells first_past order_of

-- NuGet's range language: what a text makes.
use Rattle.std.specs.Prelude.{ℕ, List, false}
use Rattle.vx_scheme.specs.declared.domain.Domain.{Domain}
use Rattle.vx_scheme.specs.declared.span.Span.{Span}
use Rattle.nuget_scheme.specs.Version.{Fields}
use Rattle.nuget_scheme.specs.Order.{order_of}
use Rattle.nuget_scheme.specs.Past.{past_numeral_of}
use Rattle.nuget_scheme.specs.Spelling.{Spells}
use Rattle.bracket_ranges.specs.Range as brackets
use Rattle.bracket_ranges.specs.Nuget.Alone.{alone}

-- what the text makes, the same in each domain
abbrev pub Makes : Domain → List ℕ → List (List (List (Span Fields))) → Type 0
Makes = brackets.Makes false alone Spells past_numeral_of order_of

-- How many constructs a text of NuGet has: one, where it has a reading.
use Rattle.std.specs.Prelude.{ℕ, List, false}
use Rattle.nuget_scheme.specs.Spelling.{Spells}
use Rattle.bracket_ranges.specs.Sizes as brackets
use Rattle.bracket_ranges.specs.Nuget.Alone.{alone}

-- the text has n brackets, of which a version alone counts as one
abbrev pub HasConstructs : List ℕ → ℕ → Type 0
HasConstructs = brackets.HasConstructs false alone Spells

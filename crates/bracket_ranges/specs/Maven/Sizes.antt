-- How many constructs a text of Maven has.
use Rattle.std.specs.Prelude.{ℕ, List, true}
use Rattle.maven_scheme.specs.Spelling.{Spells}
use Rattle.bracket_ranges.specs.Sizes as brackets
use Rattle.bracket_ranges.specs.Maven.Alone.{alone}

-- the text has n brackets, of which a version alone counts as one
abbrev pub HasConstructs : List ℕ → ℕ → Type 0
HasConstructs = brackets.HasConstructs true alone Spells

-- How many requirements a text of RubyGems has.
use Rattle.std.specs.Prelude.{ℕ, List, None}
use Rattle.gem_scheme.specs.Spelling.{Spells}
use Rattle.relation_ranges.specs.Sizes as relations
use Rattle.relation_ranges.specs.Gem.Operators.{HasSigns, is_sign}

-- the text has n requirements
abbrev pub HasConstructs : List ℕ → ℕ → Type 0
HasConstructs = relations.HasConstructs None is_sign HasSigns Spells

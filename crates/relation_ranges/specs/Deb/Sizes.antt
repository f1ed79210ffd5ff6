-- How many relations a text of Debian has.
use Rattle.std.specs.Prelude.{ℕ, List, Some}
use Rattle.deb_scheme.specs.Spelling.{Spells}
use Rattle.relation_ranges.specs.Sizes as relations
use Rattle.relation_ranges.specs.Comparison.{is_sign}
use Rattle.relation_ranges.specs.Deb.Operators.{HasSigns, bar}

-- the text has n relations
abbrev pub HasConstructs : List ℕ → ℕ → Type 0
HasConstructs = relations.HasConstructs (Some bar) is_sign HasSigns Spells

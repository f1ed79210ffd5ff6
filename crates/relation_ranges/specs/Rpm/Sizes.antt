-- How many relations a text of RPM has.
use Rattle.std.specs.Prelude.{ℕ, List, None}
use Rattle.rpm_scheme.specs.Spelling.{Spells}
use Rattle.relation_ranges.specs.Sizes as relations
use Rattle.relation_ranges.specs.Comparison.{is_sign}
use Rattle.relation_ranges.specs.Rpm.Reading.{HasSigns}

-- the text has n relations
abbrev pub HasConstructs : List ℕ → ℕ → Type 0
HasConstructs = relations.HasConstructs None is_sign HasSigns Spells

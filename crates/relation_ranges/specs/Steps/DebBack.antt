-- The text of Debian's terms, term by term.
use Rattle.std.specs.Prelude.{ℕ, Bool, List}
use Rattle.deb_scheme.specs.Writing.{normal}
use Rattle.relation_ranges.specs.Deb.Operators.{signs_of}
use Rattle.relation_ranges.specs.Deb.Reading.{DebRelation}
use Rattle.relation_ranges.specs.Steps.Terms as terms

-- the terms behind others, or where none stand before them
abbrev pub appended : Bool → List (List DebRelation) → List ℕ
appended = terms.appended signs_of normal

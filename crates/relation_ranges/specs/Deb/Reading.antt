-- Debian's relations, Debian Policy, 7.1: an operator, blanks or none, and a version. The text is a comma list of terms, each of
-- relations with a bar between each two.
use Rattle.std.specs.Prelude.{ℕ, List, Some}
use Rattle.vx_range.specs.Lists.{Plain}
use Rattle.deb_scheme.specs.Version.{Fields}
use Rattle.deb_scheme.specs.Spelling.{Spells}
use Rattle.relation_ranges.specs.declared.relations.Relation.{Relation}
use Rattle.relation_ranges.specs.declared.comparison.Comparison.{Comparison}
use Rattle.relation_ranges.specs.Reading as relations
use Rattle.relation_ranges.specs.Deb.Operators.{HasSigns, bar}
use Rattle.relation_ranges.specs.Comparison.{is_sign}

-- a relation of Debian
abbrev pub DebRelation : Type 0
DebRelation = Relation Comparison Fields

-- the text is cut into these terms of pieces
abbrev pub IsCut : List ℕ → List (List Plain) → Type 0
IsCut = relations.IsCut (Some bar)

-- the piece is the relation, with numerals of any length
abbrev pub ReadsAs : Plain → DebRelation → Type 0
ReadsAs = relations.ReadsAs is_sign HasSigns Spells

-- The text reads as these terms of relations, with numerals of any length.
abbrev pub Reads : List ℕ → List (List DebRelation) → Type 0
Reads = relations.Reads (Some bar) is_sign HasSigns Spells

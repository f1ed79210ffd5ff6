-- RPM's relations, by the operators of its reference manual, "Dependencies": an operator, blanks or none, and a version. That a
-- text is a comma list of them is this project's own.
use Rattle.std.specs.Prelude.{ℕ, List, None}
use Rattle.vx_range.specs.Lists.{Plain}
use Rattle.rpm_scheme.specs.Version.{Fields}
use Rattle.rpm_scheme.specs.Spelling.{Spells}
use Rattle.relation_ranges.specs.declared.relations.Relation.{Relation}
use Rattle.relation_ranges.specs.declared.comparison.Comparison.{Comparison}
use Rattle.relation_ranges.specs.declared.comparison.Strict.TheVariants.{Single}
use Rattle.relation_ranges.specs.Comparison as comparison
use Rattle.relation_ranges.specs.Comparison.{is_sign}
use Rattle.relation_ranges.specs.Reading as relations

-- a relation of RPM
abbrev pub RpmRelation : Type 0
RpmRelation = Relation Comparison Fields

-- how an operator is written
abbrev pub signs_of : Comparison → List ℕ
signs_of = comparison.signs_of Single

-- the operator is written so
abbrev pub HasSigns : Comparison → List ℕ → Type 0
HasSigns = comparison.HasSigns Single

-- the text is cut into these pieces
abbrev pub IsCut : List ℕ → List (List Plain) → Type 0
IsCut = relations.IsCut None

-- the piece is the relation, with numerals of any length
abbrev pub ReadsAs : Plain → RpmRelation → Type 0
ReadsAs = relations.ReadsAs is_sign HasSigns Spells

-- The text reads as these terms of one relation each, with numerals of any length.
abbrev pub Reads : List ℕ → List (List RpmRelation) → Type 0
Reads = relations.Reads None is_sign HasSigns Spells

-- RubyGems' requirements (`Gem::Requirement::PATTERN`): an operator or none, blanks or none, and a version. That a text is a comma
-- list of them is this project's own.
use Rattle.std.specs.Prelude.{ℕ, List, None}
use Rattle.vx_range.specs.Lists.{Plain}
use Rattle.gem_scheme.specs.Version.{Fields}
use Rattle.gem_scheme.specs.Spelling.{Spells}
use Rattle.relation_ranges.specs.declared.relations.Relation.{Relation}
use Rattle.relation_ranges.specs.declared.gem.operators.Operator.{Operator}
use Rattle.relation_ranges.specs.Reading as relations
use Rattle.relation_ranges.specs.Gem.Operators.{HasSigns, is_sign}

-- a requirement of RubyGems
abbrev pub GemRelation : Type 0
GemRelation = Relation Operator Fields

-- the text is cut into these pieces
abbrev pub IsCut : List ℕ → List (List Plain) → Type 0
IsCut = relations.IsCut None

-- the piece is the requirement, with numerals of any length
abbrev pub ReadsAs : Plain → GemRelation → Type 0
ReadsAs = relations.ReadsAs is_sign HasSigns Spells

-- The text reads as these terms of one requirement each, with numerals of any length.
abbrev pub Reads : List ℕ → List (List GemRelation) → Type 0
Reads = relations.Reads None is_sign HasSigns Spells

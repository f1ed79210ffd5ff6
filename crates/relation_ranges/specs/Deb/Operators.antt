-- The operators of Debian's relations, after Debian Policy, 7.1: comparisons, `<<` and `>>` the strict ones.
use Rattle.std.specs.Prelude.{ℕ, List}
use Rattle.relation_ranges.specs.declared.comparison.Comparison.{Comparison}
use Rattle.relation_ranges.specs.declared.comparison.Strict.TheVariants.{Doubled}
use Rattle.relation_ranges.specs.Comparison as comparison

-- a bar parts the relations of one term
abbrev pub bar : ℕ
bar = 124

-- how an operator is written
abbrev pub signs_of : Comparison → List ℕ
signs_of = comparison.signs_of Doubled

-- the operator is written so
abbrev pub HasSigns : Comparison → List ℕ → Type 0
HasSigns = comparison.HasSigns Doubled

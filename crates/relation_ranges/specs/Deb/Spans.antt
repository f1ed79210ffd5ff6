-- The span of each operator of Debian Policy, 7.1, and its version, the same in each domain.
use Rattle.std.specs.Prelude.{ℕ, List}
use Rattle.vx_scheme.specs.declared.span.Span.{Span}
use Rattle.deb_scheme.specs.Version.{Fields}
use Rattle.relation_ranges.specs.declared.comparison.Comparison.{Comparison}
use Rattle.relation_ranges.specs.Comparison as comparison

-- the span of the comparison, by the order
abbrev pub spans_of : ℕ → Comparison → Fields → List (Span Fields)
spans_of = comparison.spans_of

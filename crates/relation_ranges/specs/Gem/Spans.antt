-- The spans of each operator of `Gem::Requirement` and its version, and what becomes of it in a domain: this project's own.
use Rattle.std.specs.Prelude.{◌+◌, ◌^◌, ℕ, nat_lt, if◌then◌else◌, List, ◌++◌}
use Rattle.vx_scheme.specs.declared.domain.Domain.{Domain}
use Rattle.vx_scheme.specs.declared.domain.Domain.TheVariants.{All, Releases}
use Rattle.vx_scheme.specs.declared.range_fault.EndKind.TheVariants as end_kind
use Rattle.vx_scheme.specs.declared.span.Span.{Span}
use Rattle.vx_range.specs.declared.making.Outcome.{Outcome}
use Rattle.vx_range.specs.declared.making.Outcome.TheVariants as made
use Rattle.vx_range.specs.Spans.{above, below, between}
use Rattle.gem_scheme.specs.Version.{Fields, bump_of, number_to_raise}
use Rattle.relation_ranges.specs.Comparison as comparison
use Rattle.relation_ranges.specs.declared.gem.operators.Operator.{Operator}
use Rattle.relation_ranges.specs.declared.gem.operators.Operator.TheVariants.{Compares, NotEqual, Twiddle}

-- the span of a comparison; `(-, V)` and `(V, -)` of `!=`; `[r, bump r)` of `~>`
abbrev pub spans_of : ℕ → Operator → Fields → List (Span Fields)
spans_of mark (Compares how) bound = comparison.spans_of mark how bound
spans_of mark NotEqual bound = below mark bound ++ above (mark + 1) bound
spans_of mark Twiddle bound = between mark bound (bump_of bound)

-- In the domain of all `~>` has no end, since no version is the lowest pre-release of the bumped one; among releases its
-- number has to be raised within the limit.
abbrev pub outcome : Domain → Operator → Fields → Outcome
outcome domain (Compares how) bound = made.Spans
outcome domain NotEqual bound = made.Spans
outcome All Twiddle bound = made.NoEnd end_kind.Twiddle
outcome Releases Twiddle bound = if nat_lt (number_to_raise bound + 1) (2 ^ 128) then made.Spans else made.TooHigh

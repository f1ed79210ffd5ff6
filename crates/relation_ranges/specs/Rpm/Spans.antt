-- The span of each operator of RPM and its version, and what becomes of it in a domain: this project's own.
use Rattle.std.specs.Prelude.{◌||◌, ℕ, Bool, true, false, if◌then◌else◌, List}
use Rattle.std.specs.Option.{is_some}
use Rattle.vx_scheme.specs.declared.domain.Domain.{Domain}
use Rattle.vx_scheme.specs.declared.domain.Domain.TheVariants.{All, Releases}
use Rattle.vx_scheme.specs.declared.range_fault.EndKind.TheVariants as end_kind
use Rattle.vx_scheme.specs.declared.span.Span.{Span}
use Rattle.vx_range.specs.declared.making.Outcome.{Outcome}
use Rattle.vx_range.specs.declared.making.Outcome.TheVariants as made
use Rattle.rpm_scheme.specs.Version.{Fields, without_release}
use Rattle.relation_ranges.specs.declared.comparison.Comparison.{Comparison}
use Rattle.relation_ranges.specs.declared.comparison.Comparison.TheVariants.{Less, LessOrEqual, Equal, GreaterOrEqual, Greater}
use Rattle.relation_ranges.specs.Comparison as comparison

abbrev pub has_release : Fields → Bool
has_release v = is_some v.release

-- the version that stands for another in a domain: among releases it is left without its release
abbrev pub named_in : Domain → Fields → Fields
named_in All v = v
named_in Releases v = if has_release v then without_release v else v

-- the span of the comparison, by the order, at that version
abbrev pub spans_of : Domain → ℕ → Comparison → Fields → List (Span Fields)
spans_of domain mark how bound = comparison.spans_of mark how (named_in domain bound)

-- A version without a release stands below the same one with any release: so among the versions with a release only `>=`
-- and `<` have an end there.
abbrev pub is_open : Comparison → Bool
is_open Less = true
is_open LessOrEqual = false
is_open Equal = false
is_open GreaterOrEqual = true
is_open Greater = false

abbrev pub outcome : Domain → Comparison → Fields → Outcome
outcome All how bound = if has_release bound || is_open how then made.Spans else made.NoEnd end_kind.NoRelease
outcome Releases how bound = made.Spans

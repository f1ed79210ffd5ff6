-- What is made and appended of a construct.
use Rattle.std.specs.Prelude.{◌≡◌, ◌+◌, ℕ, List, ◌++◌, true, false, length, Option}
use Rattle.vx_scheme.specs.declared.domain.Domain.{Domain}
use Rattle.vx_scheme.specs.declared.span.Span.{Span}
use Rattle.vx_scheme.specs.declared.step_fault.StepFault.{StepFault}
use Rattle.vx_scheme.specs.Cuts.{cuts_of}
use Rattle.vx_range.specs.declared.extent.Extent.{Extent}
use Rattle.vx_range.specs.declared.making.Outcome.{Outcome}
use Rattle.vx_range.specs.declared.making.Outcome.TheVariants.{Spans, NoEnd, TooHigh}
use Rattle.vx_range.specs.Extents.{extent_spans}
use Rattle.vx_range.specs.Steps.Raised.{IsRaised, IsTooLarge}
use Rattle.npm_scheme.specs.Version.{Fields}
use Rattle.npm_range.specs.declared.construct.Operator.{Operator}
use Rattle.npm_range.specs.declared.construct.Partial.{Partial}
use Rattle.npm_range.specs.Refusals.{raised_numeral, is_raisable}
use Rattle.npm_range.specs.Spans.{extent_by}

-- the extent of an operator's row, where its numeral can be raised
abbrev pub IsRow : Operator → Domain → Partial → Extent Fields → Type 0
IsRow operator domain partial = IsRaised (is_raisable (raised_numeral operator partial)) (extent_by operator domain partial)

-- that numeral cannot be raised, where that is the fault
abbrev pub IsRefused : Operator → Partial → StepFault → Type 0
IsRefused operator partial = IsTooLarge (is_raisable (raised_numeral operator partial))

-- the spans are appended, with marks that run on, where the numeral can be raised
abbrev pub IsPushed : Option ℕ → List (Span Fields) → ℕ → ℕ → List (Span Fields) → List (Span Fields) → Outcome → Type 0
IsPushed numeral spans mark next old new Spans = (is_raisable numeral ≡ true) × (new ≡ old ++ spans) × (next ≡ mark + length (cuts_of spans))
IsPushed numeral spans mark next old new (NoEnd kind) = ⊥
IsPushed numeral spans mark next old new TooHigh = is_raisable numeral ≡ false

-- those of an operator's row
abbrev pub IsPushedFor : Operator → Domain → Partial → ℕ → ℕ → List (Span Fields) → List (Span Fields) → Outcome → Type 0
IsPushedFor operator domain partial mark = IsPushed (raised_numeral operator partial) (extent_spans mark (extent_by operator domain partial)) mark

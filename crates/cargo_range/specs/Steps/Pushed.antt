-- What becomes of a comparator whose span is appended.
use Rattle.std.specs.Prelude.{◌≡◌, ◌+◌, ◌++◌, ℕ, true, List, length}
use Rattle.semver.specs.Parse.{Parts}
use Rattle.semver.specs.declared.Op.{Op}
use Rattle.vx_scheme.specs.declared.span.Span.{Span}
use Rattle.vx_scheme.specs.declared.step_fault.StepFault.{StepFault}
use Rattle.vx_scheme.specs.Cuts.{cuts_of}
use Rattle.vx_range.specs.declared.extent.Extent.{Extent}
use Rattle.vx_range.specs.Steps.Raised.{IsRaised, IsTooLarge}
use Rattle.cargo_range.specs.declared.construct.Construct.{Construct}
use Rattle.cargo_range.specs.declared.construct.Partial.{Partial}
use Rattle.cargo_range.specs.Refusals.{is_raisable, raised_number, can_raise}
use Rattle.cargo_range.specs.Spans.{extent_by, made_spans}

-- the extent of an operator's row, where its number can be raised
abbrev pub IsRow : Op → Partial → Extent Parts → Type 0
IsRow operator partial = IsRaised (is_raisable (raised_number operator partial)) (extent_by operator partial)

-- that number cannot be raised, where that is the fault
abbrev pub IsRefused : Op → Partial → StepFault → Type 0
IsRefused operator partial = IsTooLarge (is_raisable (raised_number operator partial))

-- the number can be raised, the spans are appended, and the marks run on
abbrev pub IsPushed : Construct → ℕ → ℕ → List (Span Parts) → List (Span Parts) → Type 0
IsPushed construct mark next old new =
    (can_raise construct ≡ true) × (new ≡ old ++ made_spans mark construct) × (next ≡ mark + length (cuts_of (made_spans mark construct)))

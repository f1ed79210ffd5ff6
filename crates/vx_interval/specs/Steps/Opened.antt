-- Spans that are handed out cut by cut.
use Rattle.std.specs.Prelude.{Bool, true, false, Option, Some, None, List, [], ◌∷◌}
use Rattle.vx_scheme.specs.declared.span.Cut.{Cut}
use Rattle.vx_scheme.specs.declared.span.Span.{Span}
use Rattle.vx_scheme.specs.Cuts.{spans_of}

-- the spans of the cuts that are left, where `inside` says that a span is open, which begins at `lower`
abbrev pub spans_from : {V : Type 0} → Bool → Option (Cut V) → List (Cut V) → List (Span V)
spans_from false lower cuts = spans_of false cuts
spans_from true lower [] = record { lower = lower; upper = None } ∷ []
spans_from true lower (c ∷ cuts) = record { lower = lower; upper = Some c } ∷ spans_of false cuts

-- The interval so far, and the spans that are left.
use Rattle.std.specs.Prelude.{List, if◌then◌else◌, Option, Some, None, Result, Ok, Err}
use Rattle.semver.specs.Parse.{Parts}
use Rattle.vx_scheme.specs.declared.back_fault.BackFault.{BackFault}
use Rattle.vx_scheme.specs.declared.span.Span.{Span}
use Rattle.vx_range.specs.Gaps.{gap_fault}
use Rattle.cargo_range.specs.Order.{precedence}
use Rattle.cargo_range.specs.Back.{is_proper, touch, join_spans, join_behind}

-- the interval so far with the next span, which it has to touch
abbrev pub join_next : Option (Span Parts) → Span Parts → Result (Span Parts) BackFault
join_next None span = Ok span
join_next (Some before) span =
    if touch before.upper span.lower
    then Ok (record { lower = before.lower; upper = span.upper })
    else Err (gap_fault precedence before.upper span.lower)

abbrev pub some_interval : Result (Span Parts) BackFault → Result (Option (Span Parts)) BackFault
some_interval (Ok span) = Ok (Some span)
some_interval (Err fault) = Err fault

-- the interval so far with the next span, unless that holds no release
abbrev pub extend : Option (Span Parts) → Span Parts → Result (Option (Span Parts)) BackFault
extend before span = if is_proper span then some_interval (join_next before span) else Ok before

-- the spans that the interval so far makes with those that are left
abbrev pub joined_from : Option (Span Parts) → List (Span Parts) → List (Span Parts)
joined_from None spans = join_spans spans
joined_from (Some before) spans = join_behind before spans

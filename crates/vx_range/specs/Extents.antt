-- What a row of a table makes of a construct: one span by its ends, or none; this project's own.
use Rattle.std.specs.Prelude.{◌&&◌, ℕ, Bool, true, false, List, []}
use Rattle.std.specs.Ordering.{is_eq, is_lt, is_le, is_gt, is_ge}
use Rattle.std.specs.declared.cmp.Ordering.{Ordering}
use Rattle.vx_scheme.specs.declared.span.Span.{Span}
use Rattle.vx_range.specs.declared.extent.Extent.{Extent}
use Rattle.vx_range.specs.declared.extent.Extent.TheVariants.{Nothing, Every, Point, From, Above, Below, UpTo, Between, Closed}
use Rattle.vx_range.specs.Spans.{every, point, from, above, below, up_to, between, closed}

-- its spans, whose first cut has this mark
abbrev pub extent_spans : {V : Type 0} → ℕ → Extent V → List (Span V)
extent_spans mark Nothing = []
extent_spans mark Every = every
extent_spans mark (Point version) = point mark version
extent_spans mark (From version) = from mark version
extent_spans mark (Above version) = above mark version
extent_spans mark (Below version) = below mark version
extent_spans mark (UpTo version) = up_to mark version
extent_spans mark (Between version end) = between mark version end
extent_spans mark (Closed version end) = closed mark version end

-- it holds the version, by the order
abbrev pub in_extent : {V : Type 0} → (V → V → Ordering) → Extent V → V → Bool
in_extent order Nothing v = false
in_extent order Every v = true
in_extent order (Point bound) v = is_eq (order v bound)
in_extent order (From bound) v = is_ge (order v bound)
in_extent order (Above bound) v = is_gt (order v bound)
in_extent order (Below bound) v = is_lt (order v bound)
in_extent order (UpTo bound) v = is_le (order v bound)
in_extent order (Between bound end) v = is_ge (order v bound) && is_lt (order v end)
in_extent order (Closed bound end) v = is_ge (order v bound) && is_le (order v end)

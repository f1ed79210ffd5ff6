-- Gaps between spans in order, and what a language of one interval refuses them for, which is this project's own.
use Rattle.std.specs.Prelude.{ℕ, Bool, false, if◌then◌else◌, Option, Some, None}
use Rattle.std.specs.declared.cmp.Ordering.{Ordering}
use Rattle.vx_scheme.specs.declared.back_fault.BackFault.{BackFault}
use Rattle.vx_scheme.specs.declared.back_fault.BackFault.TheVariants.{NotOneInterval, PointHole}
use Rattle.vx_scheme.specs.declared.span.Cut.{Cut}
use Rattle.vx_range.specs.Spans.{is_point}

-- the mark of a cut, 0 where there is none
abbrev pub mark_of : {V : Type 0} → Option (Cut V) → ℕ
mark_of None = 0
mark_of (Some cut) = cut.mark

-- a gap from before to after one order class
abbrev pub is_hole : {V : Type 0} → (V → V → Ordering) → Option (Cut V) → Option (Cut V) → Bool
is_hole order (Some upper) (Some lower) = is_point order upper lower
is_hole order (Some upper) None = false
is_hole order None lower = false

-- What a gap is refused for, which begins at the end of one span and ends where the next begins: a hole of one order class, or
-- any other gap. Its number is the mark of the cut that begins the next span, which spans in order have.
abbrev pub gap_fault : {V : Type 0} → (V → V → Ordering) → Option (Cut V) → Option (Cut V) → BackFault
gap_fault order upper lower = if is_hole order upper lower then PointHole (mark_of lower) else NotOneInterval (mark_of lower)

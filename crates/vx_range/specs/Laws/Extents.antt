-- What the spans of an extent hold, over any total order, and how many cuts they have.
use Rattle.std.proofs.Common.{◌≡◌, ◌≤◌, ℕ, length, refl, arith}
use Rattle.std.specs.Cmp.{IsTotalOrder}
use Rattle.std.specs.declared.cmp.Ordering.{Ordering}
use Rattle.vx_scheme.specs.Cuts.{cuts_of, in_spans}
use Rattle.vx_range.specs.declared.extent.Extent.{Extent}
use Rattle.vx_range.specs.declared.extent.Extent.TheVariants.{Nothing, Every, Point, From, Above, Below, UpTo, Between, Closed}
use Rattle.vx_range.specs.Extents.{extent_spans, in_extent}
use Rattle.vx_range.specs.Laws.Points as points

pub extent_says : {V : Type 0} (order : V → V → Ordering) → IsTotalOrder order → (mark : ℕ) (extent : Extent V) (v : V)
    → in_spans order (extent_spans mark extent) v ≡ in_extent order extent v
extent_says order laws mark Nothing v = refl
extent_says order laws mark Every v = refl
extent_says order laws mark (Point bound) v = points.point_says order laws mark bound v
extent_says order laws mark (From bound) v = points.from_says order laws mark bound v
extent_says order laws mark (Above bound) v = points.above_says order laws mark bound v
extent_says order laws mark (Below bound) v = points.below_says order laws mark bound v
extent_says order laws mark (UpTo bound) v = points.up_to_says order laws mark bound v
extent_says order laws mark (Between bound end) v = points.between_says order laws mark bound end v
extent_says order laws mark (Closed bound end) v = points.closed_says order laws mark bound end v

-- two cuts at most
pub extent_two : {V : Type 0} (mark : ℕ) (extent : Extent V) → length (cuts_of (extent_spans mark extent)) ≤ 2
extent_two mark Nothing = omega arith
extent_two mark Every = omega arith
extent_two mark (Point version) = omega arith
extent_two mark (From version) = omega arith
extent_two mark (Above version) = omega arith
extent_two mark (Below version) = omega arith
extent_two mark (UpTo version) = omega arith
extent_two mark (Between version end) = omega arith
extent_two mark (Closed version end) = omega arith

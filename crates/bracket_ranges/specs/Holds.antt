-- When a bracket holds of a version, over an order: the POM Reference, "Dependency Version Requirement Specification", and
-- NuGet's "Package versioning", "Version ranges".
use Rattle.std.specs.Prelude.{◌&&◌, Bool, true, if◌then◌else◌, Option, Some, None}
use Rattle.std.specs.Ordering.{is_eq, is_lt, is_le, is_gt, is_ge}
use Rattle.std.specs.declared.cmp.Ordering.{Ordering}
use Rattle.bracket_ranges.specs.declared.bracket.Bound.{Bound}
use Rattle.bracket_ranges.specs.declared.bracket.Bracket.{Bracket}
use Rattle.bracket_ranges.specs.declared.bracket.Bracket.TheVariants.{Exact, Between}

module _ {V : Type 0} (order : V → V → Ordering) where
  -- the version is at least at the lower bound, or above it where the sign is round; a missing bound asks nothing
  abbrev pub is_over : Option (Bound V) → V → Bool
  is_over None v = true
  is_over (Some bound) v = if bound.included then is_ge (order v bound.version) else is_gt (order v bound.version)

  -- the version is at most at the upper bound, or below it where the sign is round
  abbrev pub is_under : Option (Bound V) → V → Bool
  is_under None v = true
  is_under (Some bound) v = if bound.included then is_le (order v bound.version) else is_lt (order v bound.version)

  abbrev pub holds : Bracket V → V → Bool
  holds (Exact version) v = is_eq (order v version)
  holds (Between lower upper) v = is_over lower v && is_under upper v

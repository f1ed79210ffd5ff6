-- When a requirement of RubyGems holds of a version, after `Gem::Requirement`.
use Rattle.std.specs.Prelude.{◌&&◌, not, Bool}
use Rattle.std.specs.Ordering.{is_eq, is_ge, is_lt}
use Rattle.gem_scheme.specs.Version.{Fields, bump_of, release_of}
use Rattle.gem_scheme.specs.Order.{order_of}
use Rattle.relation_ranges.specs.Comparison.{is_so}
use Rattle.relation_ranges.specs.declared.gem.operators.Operator.{Operator}
use Rattle.relation_ranges.specs.declared.gem.operators.Operator.TheVariants.{Compares, NotEqual, Twiddle}

-- The operator with its version holds of another. `~> r` holds of v where v is at least r and v's release is below r's bump.
abbrev pub holds : Operator → Fields → Fields → Bool
holds (Compares how) bound v = is_so how (order_of v bound)
holds NotEqual bound v = not (is_eq (order_of v bound))
holds Twiddle bound v = is_ge (order_of v bound) && is_lt (order_of (release_of v) (bump_of bound))

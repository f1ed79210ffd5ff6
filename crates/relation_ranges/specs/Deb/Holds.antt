-- When a relation of Debian holds of a version: Debian Policy, 7.1, by which `<<`, `<=`, `=`, `>=` and `>>` stand for strictly
-- earlier, earlier or equal, exactly equal, later or equal, and strictly later.
use Rattle.std.specs.Prelude.{Bool}
use Rattle.deb_scheme.specs.Version.{Fields}
use Rattle.deb_scheme.specs.Order.{order_of}
use Rattle.relation_ranges.specs.declared.comparison.Comparison.{Comparison}
use Rattle.relation_ranges.specs.Comparison.{is_so}

-- the operator with its version holds of another
abbrev pub holds : Comparison → Fields → Fields → Bool
holds how bound v = is_so how (order_of v bound)

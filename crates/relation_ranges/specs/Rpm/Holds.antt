-- When a relation of RPM holds of a version. The operators and the order are rpm's; that one version passes the test, where rpm
-- compares the ranges of two dependencies, is this project's own reading of it: a release counts only where both have one.
use Rattle.std.specs.Prelude.{Bool, List, [], ◌∷◌, Option, Some, None}
use Rattle.std.specs.Ordering.{ordering_then}
use Rattle.std.specs.declared.cmp.Ordering.{Ordering}
use Rattle.std.specs.declared.cmp.Ordering.TheVariants as ordering
use Rattle.vx_spec.specs.Rows.{rows_cmp}
use Rattle.vx_order.specs.declared.letter.Letter.{Letter}
use Rattle.vx_order.specs.Letters.{letters_cmp}
use Rattle.rpm_scheme.specs.Version.{Fields, count_letter, end_rank}
use Rattle.relation_ranges.specs.declared.comparison.Comparison.{Comparison}
use Rattle.relation_ranges.specs.Comparison.{is_so}

-- the epoch and the version, without the release
abbrev pub front_key : Fields → List (List Letter)
front_key v = (count_letter v.epoch ∷ []) ∷ v.version ∷ []

abbrev pub front_order : Fields → Fields → Ordering
front_order a b = rows_cmp (letters_cmp end_rank) [] (front_key a) (front_key b)

-- two releases; where either is left out they count as equal
abbrev pub release_order : Option (List Letter) → Option (List Letter) → Ordering
release_order (Some a) (Some b) = letters_cmp end_rank a b
release_order (Some a) None = ordering.Equal
release_order None b = ordering.Equal

-- how a version compares with that of a relation: by epoch and version, then by the releases where both have one
abbrev pub test_order : Fields → Fields → Ordering
test_order v bound = ordering_then (front_order v bound) (release_order v.release bound.release)

-- the operator with its version holds of another
abbrev pub holds : Comparison → Fields → Fields → Bool
holds how bound v = is_so how (test_order v bound)

-- VERS, "Checking if a version is contained within a range": membership as the specification walks through a valid
-- list. A version that is order-equal to one under `=`, `<=` or `>=` is in, and one that is order-equal to one under
-- `!=` is out. On the `<`, `<=`, `>` and `>=` that are left it is in where it lies below a first `<` or `<=`, above a
-- last `>` or `>=`, or between a `>` or `>=` and the directly following `<` or `<=`. Otherwise it is out. A single one
-- of them is both first and last. A list of `!=` alone holds every other version, and the empty list every version.
use Rattle.std.specs.Prelude.{Bool, true, false, ◌&&◌, ◌||◌, not, List, [], ◌∷◌}
use Rattle.std.specs.List.{list_any}
use Rattle.std.specs.declared.cmp.Ordering.{Ordering}
use Rattle.std.specs.Ordering.{is_lt, is_gt, is_eq}
use Rattle.vx_vers.specs.declared.constraints.Comparator.{Comparator}
use Rattle.vx_vers.specs.declared.constraints.Comparator.TheVariants.{Equal as EqualTo, NotEqual as NotEqualTo, Less as LessThan, LessEqual as AtMost, Greater as GreaterThan, GreaterEqual as AtLeast}
use Rattle.vx_vers.specs.declared.constraints.Constraint.{Constraint}
use Rattle.vx_vers.specs.Meaning.{kind, is_under_not_equal, is_all_holes}
use Rattle.vx_vers.specs.Validity.{is_opening, is_closing, ranges_of}

-- the comparator holds of its own version: `=`, `<=` and `>=`
abbrev pub includes : Comparator → Bool
includes EqualTo = true
includes NotEqualTo = false
includes LessThan = false
includes AtMost = true
includes GreaterThan = false
includes AtLeast = true

module _ {V : Type 0} (order : V → V → Ordering) (v : V) where
  -- the version is order-equal to one under `=`, `<=` or `>=`
  abbrev pub is_included : List (Constraint V) → Bool
  is_included list = list_any (λ c. includes c.comparator && is_eq (order c.version v)) list

  -- above the version of a `>` or `>=`
  abbrev pub is_above_opening : Constraint V → Bool
  is_above_opening c = is_opening (kind c) && is_lt (order c.version v)

  -- below the version of a `<` or `<=`
  abbrev pub is_below_closing : Constraint V → Bool
  is_below_closing c = is_closing (kind c) && is_gt (order c.version v)

  -- below a first `<` or `<=`
  abbrev pub is_below_first : List (Constraint V) → Bool
  is_below_first [] = false
  is_below_first (c ∷ ranges) = is_below_closing c

  -- above a last `>` or `>=`
  abbrev pub is_above_last : List (Constraint V) → Bool
  is_above_last [] = false
  is_above_last (c ∷ []) = is_above_opening c
  is_above_last (c ∷ d ∷ ranges) = is_above_last (d ∷ ranges)

  -- between a `>` or `>=` and the directly following `<` or `<=`
  abbrev pub is_between_two : List (Constraint V) → Bool
  is_between_two [] = false
  is_between_two (c ∷ []) = false
  is_between_two (c ∷ d ∷ ranges) = (is_above_opening c && is_below_closing d) || is_between_two (d ∷ ranges)

  abbrev pub walk_ranges : List (Constraint V) → Bool
  walk_ranges ranges = (is_below_first ranges || is_above_last ranges) || is_between_two ranges

  -- the version is in
  abbrev pub walk : List (Constraint V) → Bool
  walk list = is_included list || (not (is_under_not_equal order v list) && (is_all_holes order v list || walk_ranges (ranges_of kind list)))

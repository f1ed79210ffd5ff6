-- VERS, "Checking if a version is contained within a range", for every sorted list.
--
-- What a sorted list of constraints means, over any order of versions. Each `>`, `>=`, `<` and `<=` is a cut of the
-- line of versions: `>=` and `<` stand before their version, `>` and `<=` behind it; `>` and `>=` open, `<` and `<=`
-- close. A version is in where it is order-equal to one under `=`. It is also in where it is order-equal to none under
-- `!=`, and the last cut below it opens or the first cut above it closes. Where a list has nothing but `!=`, or nothing
-- at all, every version under no `!=` is in.
use Rattle.std.specs.Prelude.{Bool, true, false, ◌&&◌, ◌||◌, not, List, [], ◌∷◌, filter}
use Rattle.std.specs.List.{list_any, list_all}
use Rattle.std.specs.declared.cmp.Ordering.{Ordering}
use Rattle.std.specs.declared.cmp.Ordering.TheVariants.{Less, Equal, Greater}
use Rattle.std.specs.Ordering.{is_lt, is_gt, is_eq}
use Rattle.vx_vers.specs.declared.constraints.Comparator.{Comparator}
use Rattle.vx_vers.specs.declared.constraints.Comparator.TheVariants.{Equal as EqualTo, NotEqual as NotEqualTo, Less as LessThan, LessEqual as AtMost, Greater as GreaterThan, GreaterEqual as AtLeast}
use Rattle.vx_vers.specs.declared.constraints.Constraint.{Constraint}

-- `=` is a point, `!=` a hole, `>` and `>=` open, `<` and `<=` close
pub data Kind : Type 0 where
  point : Kind
  hole : Kind
  opening : Kind
  closing : Kind

abbrev pub kind_of_comparator : Comparator → Kind
kind_of_comparator EqualTo = point
kind_of_comparator NotEqualTo = hole
kind_of_comparator LessThan = closing
kind_of_comparator AtMost = closing
kind_of_comparator GreaterThan = opening
kind_of_comparator AtLeast = opening

abbrev pub kind : {V : Type 0} → Constraint V → Kind
kind c = kind_of_comparator c.comparator

abbrev pub is_point : Kind → Bool
is_point point = true
is_point _ = false

abbrev pub is_hole : Kind → Bool
is_hole hole = true
is_hole _ = false

-- whether the last cut so far opens, after one constraint more
abbrev pub opens_next : Bool → Kind → Bool
opens_next before point = before
opens_next before hole = before
opens_next before opening = true
opens_next before closing = false

-- whether the last cut of the list opens; `before` where it has none
abbrev pub opens_last : {C : Type 0} → (C → Kind) → Bool → List C → Bool
opens_last kind before [] = before
opens_last kind before (c ∷ list) = opens_last kind (opens_next before (kind c)) list

-- whether the first cut closes, with one constraint more in front
abbrev pub closes_here : Kind → Bool → Bool
closes_here point behind = behind
closes_here hole behind = behind
closes_here opening behind = false
closes_here closing behind = true

-- whether the first cut of the list closes; `behind` where it has none
abbrev pub closes_first : {C : Type 0} → (C → Kind) → List C → Bool → Bool
closes_first kind [] behind = behind
closes_first kind (c ∷ list) behind = closes_here (kind c) (closes_first kind list behind)

-- how the cut of a constraint stands to a version, by how the constraint's own version compares with it: `Less` where
-- the cut is below the version, `Greater` where it is above; a point or a hole at the version is `Equal`
abbrev pub side_at : Comparator → Ordering → Ordering
side_at k Less = Less
side_at k Greater = Greater
side_at EqualTo Equal = Equal
side_at NotEqualTo Equal = Equal
side_at LessThan Equal = Less
side_at AtLeast Equal = Less
side_at AtMost Equal = Greater
side_at GreaterThan Equal = Greater

module _ {V : Type 0} (order : V → V → Ordering) (v : V) where
  abbrev pub side : Constraint V → Ordering
  side c = side_at c.comparator (order c.version v)

  -- the version is order-equal to one under `=`
  abbrev pub is_under_equal : List (Constraint V) → Bool
  is_under_equal list = list_any (λ c. is_point (kind c) && is_eq (order c.version v)) list

  -- the version is order-equal to one under `!=`
  abbrev pub is_under_not_equal : List (Constraint V) → Bool
  is_under_not_equal list = list_any (λ c. is_hole (kind c) && is_eq (order c.version v)) list

  -- the last cut below the version opens
  abbrev pub opens_below : List (Constraint V) → Bool
  opens_below list = opens_last kind false (filter (λ c. is_lt (side c)) list)

  -- the first cut above the version closes
  abbrev pub closes_above : List (Constraint V) → Bool
  closes_above list = closes_first kind (filter (λ c. is_gt (side c)) list) false

  -- there is nothing but `!=`
  abbrev pub is_all_holes : List (Constraint V) → Bool
  is_all_holes list = list_all (λ c. is_hole (kind c)) list

  -- the version is in
  abbrev pub meaning : List (Constraint V) → Bool
  meaning list = is_under_equal list || (not (is_under_not_equal list) && (opens_below list || closes_above list || is_all_holes list))

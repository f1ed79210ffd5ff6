-- What is left to say of a list once its first constraints are passed.
use Rattle.std.specs.Prelude.{Bool, true, false, ◌&&◌, ◌||◌, not, List, filter}
use Rattle.std.specs.List.{list_all}
use Rattle.std.specs.declared.cmp.Ordering.{Ordering}
use Rattle.std.specs.Ordering.{is_lt}
use Rattle.vx_vers.specs.declared.constraints.Comparator.{Comparator}
use Rattle.vx_vers.specs.declared.constraints.Comparator.TheVariants.{Equal as EqualTo, NotEqual as NotEqualTo, Less as LessThan, LessEqual as AtMost, Greater as GreaterThan, GreaterEqual as AtLeast}
use Rattle.vx_vers.specs.declared.constraints.Constraint.{Constraint}
use Rattle.vx_vers.specs.Meaning.{kind, is_hole, opens_last, closes_first, side, is_under_equal, is_under_not_equal, closes_above, is_all_holes}

-- The versions directly below the constraints that are left are in. `opens` says whether the last cut in front of them
-- opens, and `holes` whether nothing but `!=` stands there.
abbrev pub holds_below : {V : Type 0} → Bool → Bool → List (Constraint V) → Bool
holds_below opens holes list = (opens || closes_first kind list false) || (holes && list_all (λ c. is_hole (kind c)) list)

-- The version of a constraint is in, by its comparator, with what stands behind it.
abbrev pub holds_own : {V : Type 0} → Bool → Comparator → List (Constraint V) → Bool
holds_own opens EqualTo behind = true
holds_own opens NotEqualTo behind = false
holds_own opens LessThan behind = holds_below false false behind
holds_own opens AtMost behind = true
holds_own opens GreaterThan behind = opens
holds_own opens AtLeast behind = true

module _ {V : Type 0} (order : V → V → Ordering) (v : V) where
  -- the version is in, by the constraints that are left and what was passed
  abbrev pub meaning_from : Bool → Bool → List (Constraint V) → Bool
  meaning_from opens holes list = is_under_equal order v list || (not (is_under_not_equal order v list) && ((opens_last kind opens (filter (λ c. is_lt (side order v c)) list) || closes_above order v list) || (holes && is_all_holes order v list)))

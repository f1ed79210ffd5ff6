-- VERS, "Version constraints simplification": a simplified list, one test for each constraint, by the range constraints
-- (`<`, `<=`, `>`, `>=`) of the list as it was given. An `=` is dropped where the last range constraint before it is
-- `>` or `>=`, or the first one behind it is `<` or `<=`. A `>` or `>=` is dropped where the last one before it is `>`
-- or `>=`. A `<` or `<=` is dropped where the first one behind it is `<` or `<=`. All others stay, each `!=` among
-- them.
use Rattle.std.specs.Prelude.{Bool, false, ◌||◌, cond, List, [], ◌∷◌, ◌++◌}
use Rattle.vx_vers.specs.Meaning.{Kind, point, hole, opening, closing, opens_last, closes_first}

-- the test, where `opens` says whether the last range constraint before opens, and `closes` whether the first one
-- behind closes
abbrev pub is_dropped : Bool → Kind → Bool → Bool
is_dropped opens point closes = opens || closes
is_dropped opens hole closes = false
is_dropped opens opening closes = opens
is_dropped opens closing closes = closes

module _ {C : Type 0} (kind : C → Kind) where
  -- what stays of constraints that stand behind others
  abbrev pub stays_behind : List C → List C → List C
  stays_behind before [] = []
  stays_behind before (c ∷ behind) =
      let rest = stays_behind (before ++ c ∷ []) behind in
      cond (is_dropped (opens_last kind false before) (kind c) (closes_first kind behind false)) rest (c ∷ rest)

  abbrev pub simplified : List C → List C
  simplified list = stays_behind [] list

-- the first list is the second one with some items left out
pub data IsSubList {C : Type 0} : List C → List C → Type 0 where
  at_end : IsSubList [] []
  left_out : (c : C) (kept list : List C) → IsSubList kept list → IsSubList kept (c ∷ list)
  kept_on : (c : C) (kept list : List C) → IsSubList kept list → IsSubList (c ∷ kept) (c ∷ list)

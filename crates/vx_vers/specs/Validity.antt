-- VERS, "Normalized, canonical representation and validation": when a list of constraints is valid, over any items that
-- have a kind. First, with the `!=` left out, an `=` is followed only by `=`, `>`, `>=` or nothing. Second, with `=`
-- and `!=` left out, the comparators alternate between greater (`>`, `>=`) and lesser (`<`, `<=`).
use Rattle.std.specs.Prelude.{Bool, true, false, ◌&&◌, ◌||◌, not, List, [], ◌∷◌, filter}
use Rattle.vx_vers.specs.Meaning.{Kind, point, hole, opening, closing, is_hole}

-- `>` or `>=`
abbrev pub is_opening : Kind → Bool
is_opening opening = true
is_opening _ = false

-- `<` or `<=`
abbrev pub is_closing : Kind → Bool
is_closing closing = true
is_closing _ = false

-- any of the four
abbrev pub is_range : Kind → Bool
is_range k = is_opening k || is_closing k

module _ {C : Type 0} (kind : C → Kind) where
  -- the list without `!=`
  abbrev pub without_holes : List C → List C
  without_holes list = filter (λ c. not (is_hole (kind c))) list

  -- the `<`, `<=`, `>` and `>=` of the list
  abbrev pub ranges_of : List C → List C
  ranges_of list = filter (λ c. is_range (kind c)) list

  -- the list may stand behind one of the kind by the first rule: behind a point it does not begin with a closing one
  abbrev pub is_followed : Kind → List C → Bool
  is_followed point [] = true
  is_followed point (d ∷ list) = not (is_closing (kind d))
  is_followed hole list = true
  is_followed opening list = true
  is_followed closing list = true

  -- the first rule, of a list without `!=`
  abbrev pub points_are_followed : List C → Bool
  points_are_followed [] = true
  points_are_followed (c ∷ list) = is_followed (kind c) list && points_are_followed list

  -- the list may stand behind one of the kind by the second rule: behind an opening one it begins with a closing one,
  -- if at all, and behind a closing one with an opening one
  abbrev pub is_answered : Kind → List C → Bool
  is_answered point list = true
  is_answered hole list = true
  is_answered opening [] = true
  is_answered opening (d ∷ list) = is_closing (kind d)
  is_answered closing [] = true
  is_answered closing (d ∷ list) = is_opening (kind d)

  -- the second rule, of a list of `<`, `<=`, `>` and `>=`
  abbrev pub alternates : List C → Bool
  alternates [] = true
  alternates (c ∷ list) = is_answered (kind c) list && alternates list

  -- both rules
  abbrev pub is_valid : List C → Bool
  is_valid list = points_are_followed (without_holes list) && alternates (ranges_of list)

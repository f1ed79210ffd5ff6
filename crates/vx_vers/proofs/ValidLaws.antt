-- One constraint more of a list that is judged from the left.
use Rattle.std.proofs.Common.{◌≡◌, Bool, true, false, ◌&&◌, not, cond, Option, Some, None, List, [], ◌∷◌, refl}
use Rattle.std.proofs.lemmas.Bool.{and_right}
use Rattle.vx_vers.specs.Meaning.{Kind, point, hole, opening, closing}
use Rattle.vx_vers.specs.Validity.{without_holes, ranges_of, is_followed, points_are_followed, is_answered, alternates}

-- the last constraint that is no `!=`, as far as the first rule asks
abbrev pub point_or_hole : Bool → Kind
point_or_hole true = point
point_or_hole false = hole

-- the last constraint of a range
abbrev pub range_or_hole : Option Bool → Kind
range_or_hole None = hole
range_or_hole (Some true) = opening
range_or_hole (Some false) = closing

abbrev pub opens_by : Option Bool → Bool
opens_by None = false
opens_by (Some b) = b

abbrev pub closes_by : Option Bool → Bool
closes_by None = false
closes_by (Some b) = not b

module _ {C : Type 0} (kind : C → Kind) where
  -- the constraints that are left may stand behind those that were passed, and are valid
  abbrev pub valid_from : Bool → Option Bool → List C → Bool
  valid_from after_point opens list =
      (is_followed kind (point_or_hole after_point) (without_holes kind list) && points_are_followed kind (without_holes kind list))
      && (is_answered kind (range_or_hole opens) (ranges_of kind list) && alternates kind (ranges_of kind list))

  pub at_hole : (a : Bool) (o : Option Bool) (c : C) (list : List C) → kind c ≡ hole → valid_from a o (c ∷ list) ≡ valid_from a o list
  at_hole a o c list e = rw e refl

  pub at_point : (a : Bool) (o : Option Bool) (c : C) (list : List C) → kind c ≡ point → valid_from a o (c ∷ list) ≡ valid_from true o list
  at_point true o c list e = rw e (rw e refl)
  at_point false o c list e = rw e (rw e refl)

  pub at_opening : (a : Bool) (o : Option Bool) (c : C) (list : List C) → kind c ≡ opening → valid_from a o (c ∷ list) ≡ cond (opens_by o) false (valid_from false (Some true) list)
  at_opening true None c list e = rw e (rw e refl)
  at_opening true (Some true) c list e = rw e (rw e (and_right (points_are_followed kind (without_holes kind list)) false refl))
  at_opening true (Some false) c list e = rw e (rw e refl)
  at_opening false None c list e = rw e (rw e refl)
  at_opening false (Some true) c list e = rw e (rw e (and_right (points_are_followed kind (without_holes kind list)) false refl))
  at_opening false (Some false) c list e = rw e (rw e refl)

  pub at_closing : (a : Bool) (o : Option Bool) (c : C) (list : List C) → kind c ≡ closing → valid_from a o (c ∷ list) ≡ cond a false (cond (closes_by o) false (valid_from false (Some false) list))
  at_closing true o c list e = rw e (rw e refl)
  at_closing false None c list e = rw e (rw e refl)
  at_closing false (Some true) c list e = rw e (rw e refl)
  at_closing false (Some false) c list e = rw e (rw e (and_right (points_are_followed kind (without_holes kind list)) false refl))

  pub at_end : (a : Bool) (o : Option Bool) → valid_from a o [] ≡ true
  at_end true None = refl
  at_end true (Some true) = refl
  at_end true (Some false) = refl
  at_end false None = refl
  at_end false (Some true) = refl
  at_end false (Some false) = refl

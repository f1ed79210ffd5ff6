-- A list from which nothing would be dropped is valid.
use Rattle.std.proofs.Common.{◌≡◌, Bool, true, false, not, cond, List, [], ◌∷◌, refl}
use Rattle.std.proofs.lemmas.Bool.{or_parts, and_from}
use Rattle.vx_vers.specs.Meaning.{Kind, point, hole, opening, closing, opens_next, closes_here, closes_first, is_hole}
use Rattle.vx_vers.specs.Validity.{is_range, without_holes, ranges_of, is_followed, points_are_followed, is_answered, alternates, is_valid}
use Rattle.vx_simplify.specs.Simplified.{is_dropped, simplified}
use Rattle.vx_simplify.proofs.Dropping.{IsClean, simplified_is_clean}

module _ {C : Type 0} (kind : C → Kind) where
  -- what follows a point
  follows_step : (n : Bool) (c : C) (list : List C) (x : Kind) → kind c ≡ x → (closes_first kind list n ≡ false → is_followed kind point (without_holes kind list) ≡ true) → closes_here x (closes_first kind list n) ≡ false → is_followed kind point (cond (not (is_hole x)) (c ∷ without_holes kind list) (without_holes kind list)) ≡ true
  follows_step n c list point e i h = rw e refl
  follows_step n c list hole e i h = i h
  follows_step n c list opening e i h = rw e refl
  follows_step n c list closing e i h = cc

  follows : (n : Bool) (list : List C) → closes_first kind list n ≡ false → is_followed kind point (without_holes kind list) ≡ true
  follows n [] h = refl
  follows n (c ∷ list) h = follows_step n c list (kind c) refl (follows n list) h

  points_step : (p n : Bool) (c : C) (list : List C) (x : Kind) → kind c ≡ x → is_dropped p x (closes_first kind list n) ≡ false → points_are_followed kind (without_holes kind list) ≡ true → points_are_followed kind (cond (not (is_hole x)) (c ∷ without_holes kind list) (without_holes kind list)) ≡ true
  points_step p n c list point e d i = rw e (and_from _ _ (follows n list (or_parts p (closes_first kind list n) d).1) i)
  points_step p n c list hole e d i = i
  points_step p n c list opening e d i = rw e i
  points_step p n c list closing e d i = rw e i

  points : (p n : Bool) (list : List C) → IsClean kind p n list → points_are_followed kind (without_holes kind list) ≡ true
  points p n [] h = refl
  points p n (c ∷ list) h = points_step p n c list (kind c) refl h.0 (points (opens_next p (kind c)) n list h.1)

  -- behind an opening the next range constraint closes
  closes_next_step : (n : Bool) (c : C) (list : List C) (x : Kind) → kind c ≡ x → (IsClean kind true n list → is_answered kind opening (ranges_of kind list) ≡ true) → is_dropped true x (closes_first kind list n) ≡ false → IsClean kind (opens_next true x) n list → is_answered kind opening (cond (is_range x) (c ∷ ranges_of kind list) (ranges_of kind list)) ≡ true
  closes_next_step n c list point e i d h = i h
  closes_next_step n c list hole e i d h = i h
  closes_next_step n c list opening e i d h = cc
  closes_next_step n c list closing e i d h = rw e refl

  closes_next : (n : Bool) (list : List C) → IsClean kind true n list → is_answered kind opening (ranges_of kind list) ≡ true
  closes_next n [] h = refl
  closes_next n (c ∷ list) h = closes_next_step n c list (kind c) refl (closes_next n list) h.0 h.1

  -- and behind a closing it opens
  opens_then_step : (n : Bool) (c : C) (list : List C) (x : Kind) → kind c ≡ x → (closes_first kind list n ≡ false → is_answered kind closing (ranges_of kind list) ≡ true) → closes_here x (closes_first kind list n) ≡ false → is_answered kind closing (cond (is_range x) (c ∷ ranges_of kind list) (ranges_of kind list)) ≡ true
  opens_then_step n c list point e i h = i h
  opens_then_step n c list hole e i h = i h
  opens_then_step n c list opening e i h = rw e refl
  opens_then_step n c list closing e i h = cc

  opens_then : (n : Bool) (list : List C) → closes_first kind list n ≡ false → is_answered kind closing (ranges_of kind list) ≡ true
  opens_then n [] h = refl
  opens_then n (c ∷ list) h = opens_then_step n c list (kind c) refl (opens_then n list) h

  alternate_step : (p n : Bool) (c : C) (list : List C) (x : Kind) → kind c ≡ x → is_dropped p x (closes_first kind list n) ≡ false → IsClean kind (opens_next p x) n list → alternates kind (ranges_of kind list) ≡ true → alternates kind (cond (is_range x) (c ∷ ranges_of kind list) (ranges_of kind list)) ≡ true
  alternate_step p n c list point e d h i = i
  alternate_step p n c list hole e d h i = i
  alternate_step p n c list opening e d h i = rw e (and_from _ _ (closes_next n list h) i)
  alternate_step p n c list closing e d h i = rw e (and_from _ _ (opens_then n list d) i)

  ranges_alternate : (p n : Bool) (list : List C) → IsClean kind p n list → alternates kind (ranges_of kind list) ≡ true
  ranges_alternate p n [] h = refl
  ranges_alternate p n (c ∷ list) h = alternate_step p n c list (kind c) refl h.0 h.1 (ranges_alternate (opens_next p (kind c)) n list h.1)

  pub clean_is_valid : (list : List C) → IsClean kind false false list → is_valid kind list ≡ true
  clean_is_valid list h = and_from _ _ (points false false list h) (ranges_alternate false false list h)

  pub simplified_is_valid : (list : List C) → is_valid kind (simplified kind list) ≡ true
  simplified_is_valid list = clean_is_valid (simplified kind list) (simplified_is_clean kind list)

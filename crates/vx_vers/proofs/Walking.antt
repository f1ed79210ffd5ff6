-- On valid lists the walk is the meaning.
use Rattle.std.proofs.Common.{◌≡◌, Bool, true, false, ◌&&◌, ◌||◌, cond, List, [], ◌∷◌, ◌++◌, ◌⊎◌, filter, refl, sym, ap, ◌∙◌, inl, inr}
use Rattle.std.specs.declared.cmp.Ordering.{Ordering}
use Rattle.std.specs.declared.cmp.Ordering.TheVariants.{Less, Equal, Greater}
use Rattle.std.specs.Ordering.{is_lt, is_gt, is_eq}
use Rattle.std.specs.Cmp.{IsTotalOrder}
use Rattle.std.specs.List.{list_all, AllByRecursion}
use Rattle.std.proofs.lemmas.Bool.{cond_both, cases_Bool, and_right, and_parts, and_from, or_right, or_left, or_parts}
use Rattle.std.proofs.lemmas.List.Folds.{list_any-append}
use Rattle.std.proofs.lemmas.List.Elements.{filter-append}
use Rattle.vx_vers.specs.declared.constraints.Comparator.{Comparator}
use Rattle.vx_vers.specs.declared.constraints.Comparator.TheVariants.{Equal as EqualTo, NotEqual as NotEqualTo, Less as LessThan, LessEqual as AtMost, Greater as GreaterThan, GreaterEqual as AtLeast}
use Rattle.vx_vers.specs.declared.constraints.Constraint.{Constraint}
use Rattle.vx_vers.specs.Meaning.{Kind, point, hole, opening, closing, kind_of_comparator, kind, opens_next, opens_last, closes_here, closes_first, is_point, is_hole, side_at, side, is_under_equal, is_under_not_equal, closes_above, meaning}
use Rattle.vx_vers.specs.Sorted.{IsSorted}
use Rattle.vx_vers.specs.Validity.{is_range, is_opening, is_closing, ranges_of, is_answered, alternates, is_valid}
use Rattle.vx_vers.specs.Walk.{includes, is_included, is_above_last, is_between_two, walk_ranges, walk}
use Rattle.vx_vers.proofs.Sides.{AllAt, lower_not_equal, upper_not_equal, upper_opens, meaning_between, meaning_at_hole, Around, between, at_one, around, above, above_step, level_is}

range_opens : (k : Kind) (p : Bool) → is_range k ≡ true → opens_next p k ≡ is_opening k
range_opens point p h = cc
range_opens hole p h = cc
range_opens opening p h = refl
range_opens closing p h = refl

range_closes : (k : Kind) (m : Bool) → is_range k ≡ true → closes_here k m ≡ is_closing k
range_closes point p h = cc
range_closes hole p h = cc
range_closes opening p h = refl
range_closes closing p h = refl

module _ {V : Type 0} (R : V → V → Ordering) (v : V) where
  -- a range constraint whose version is at most v, and is below it where it opens
  record IsLow (c : Constraint V) : Type 0 where
    range : is_range (kind c) ≡ true
    not_above : is_gt (R c.version v) ≡ false
    opens : (is_opening (kind c) && is_lt (R c.version v)) ≡ is_opening (kind c)

  record IsHigh (c : Constraint V) : Type 0 where
    range : is_range (kind c) ≡ true
    not_below : is_lt (R c.version v) ≡ false
    closes : (is_closing (kind c) && is_gt (R c.version v)) ≡ is_closing (kind c)

  high_last : (ys : List (Constraint V)) → AllByRecursion IsHigh ys → is_above_last R v ys ≡ false
  high_last [] h = refl
  high_last (d ∷ []) h = and_right (is_opening (kind d)) _ h.0.not_below
  high_last (d ∷ e ∷ ys) h = high_last (e ∷ ys) h.1

  high_between : (ys : List (Constraint V)) → AllByRecursion IsHigh ys → is_between_two R v ys ≡ false
  high_between [] h = refl
  high_between (d ∷ []) h = refl
  high_between (d ∷ e ∷ ys) h = rw (and_right (is_opening (kind d)) _ h.0.not_below) (high_between (e ∷ ys) h.1)

  low_first : (c : Constraint V) → IsLow c → (is_closing (kind c) && is_gt (R c.version v)) ≡ false
  low_first c h = and_right (is_closing (kind c)) _ h.not_above

  or_false : (b : Bool) → (b || false) ≡ b
  or_false true = refl
  or_false false = refl

  not_both : (l : Kind) → is_opening l ≡ true → false ≡ is_closing l
  not_both point e = cc
  not_both hole e = cc
  not_both opening e = refl
  not_both closing e = cc

  -- around v, an opening in front and a closing behind come together
  meet : (k l : Kind) → is_range k ≡ true → is_range l ≡ true → (d : Constraint V) (ys : List (Constraint V)) → kind d ≡ l → is_answered kind k (d ∷ ys) ≡ true → (is_opening k && is_closing l) ≡ (is_opening k || is_closing l)
  meet point l h g d ys e a = cc
  meet hole l h g d ys e a = cc
  meet opening l h g d ys e a = rw e at a
  meet closing l h g d ys e a = not_both l (rw e at a)

  parts : (xs ys : List (Constraint V)) → AllByRecursion IsLow xs → AllByRecursion IsHigh ys → alternates kind (xs ++ ys) ≡ true → walk_ranges R v (xs ++ ys) ≡ (opens_last kind false xs || closes_first kind ys false)
  parts [] [] h g a = refl
  parts [] (d ∷ ys) h g a = rw (g.0.closes, high_last (d ∷ ys) g, high_between (d ∷ ys) g, range_closes (kind d) (closes_first kind ys false) g.0.range, or_false (is_closing (kind d)), or_false (is_closing (kind d))) refl
  parts (c ∷ []) [] h g a = rw (low_first c h.0, h.0.opens, range_opens (kind c) false h.0.range, or_false (is_opening (kind c))) refl
  parts (c ∷ []) (d ∷ ys) h g a = rw (low_first c h.0, high_last (d ∷ ys) g, h.0.opens, g.0.closes, high_between (d ∷ ys) g, range_opens (kind c) false h.0.range, range_closes (kind d) (closes_first kind ys false) g.0.range, or_false (is_opening (kind c) && is_closing (kind d))) (meet (kind c) (kind d) h.0.range g.0.range d ys refl (and_parts _ _ a).0)
  parts (c ∷ c' ∷ xs) ys h g a =
      let ih = parts (c' ∷ xs) ys h.1 g (and_parts _ _ a).1 in
      let lt = is_lt (R c.version v) in
      rw (low_first c h.0, low_first c' h.1.0, and_right (is_opening (kind c) && lt) false refl, range_opens (kind c') (opens_next false (kind c)) h.1.0.range)
      (rw (low_first c' h.1.0, range_opens (kind c') false h.1.0.range) at ih)

and_true : (b : Bool) → (b && true) ≡ b
and_true true = refl
and_true false = refl

or_swap : (a b : Bool) → (a || b) ≡ (b || a)
or_swap true true = refl
or_swap true false = refl
or_swap false true = refl
or_swap false false = refl

-- what a cut below v says of its version, where the constraint does not hold of v by name
low_at : (k : Comparator) (r : Ordering) → side_at k r ≡ Less → (includes k && is_eq r) ≡ false → (is_gt r ≡ false) × ((is_opening (kind_of_comparator k) && is_lt r) ≡ is_opening (kind_of_comparator k))
low_at k Less s n = (refl, and_true (is_opening (kind_of_comparator k)))
low_at k Greater s n = cc
low_at EqualTo Equal s n = cc
low_at NotEqualTo Equal s n = cc
low_at LessThan Equal s n = (refl, refl)
low_at AtMost Equal s n = cc
low_at GreaterThan Equal s n = cc
low_at AtLeast Equal s n = cc

high_at : (k : Comparator) (r : Ordering) → side_at k r ≡ Greater → (includes k && is_eq r) ≡ false → (is_lt r ≡ false) × ((is_closing (kind_of_comparator k) && is_gt r) ≡ is_closing (kind_of_comparator k))
high_at k Less s n = cc
high_at k Greater s n = (refl, and_true (is_closing (kind_of_comparator k)))
high_at EqualTo Equal s n = cc
high_at NotEqualTo Equal s n = cc
high_at LessThan Equal s n = cc
high_at AtMost Equal s n = cc
high_at GreaterThan Equal s n = (refl, refl)
high_at AtLeast Equal s n = cc

module _ {C : Type 0} (kind : C → Kind) where
  opens_range : (p : Bool) (c : C) (list : List C) (x : Kind) → kind c ≡ x → opens_last kind (opens_next p x) (ranges_of kind list) ≡ opens_last kind (opens_next p x) list → opens_last kind p (cond (is_range x) (c ∷ ranges_of kind list) (ranges_of kind list)) ≡ opens_last kind (opens_next p x) list
  opens_range p c list point e i = i
  opens_range p c list hole e i = i
  opens_range p c list opening e i = rw (e, opens_last) i
  opens_range p c list closing e i = rw (e, opens_last) i

  opens_last-ranges : (p : Bool) (list : List C) → opens_last kind p (ranges_of kind list) ≡ opens_last kind p list
  opens_last-ranges p [] = refl
  opens_last-ranges p (c ∷ list) = opens_range p c list (kind c) refl (opens_last-ranges (opens_next p (kind c)) list)

  closes_range : (n : Bool) (c : C) (list : List C) (x : Kind) → kind c ≡ x → closes_first kind (ranges_of kind list) n ≡ closes_first kind list n → closes_first kind (cond (is_range x) (c ∷ ranges_of kind list) (ranges_of kind list)) n ≡ closes_here x (closes_first kind list n)
  closes_range n c list point e i = i
  closes_range n c list hole e i = i
  closes_range n c list opening e i = rw (e, closes_first) refl
  closes_range n c list closing e i = rw (e, closes_first) refl

  closes_first-ranges : (n : Bool) (list : List C) → closes_first kind (ranges_of kind list) n ≡ closes_first kind list n
  closes_first-ranges n [] = refl
  closes_first-ranges n (c ∷ list) = closes_range n c list (kind c) refl (closes_first-ranges n list)

module _ {V : Type 0} (R : V → V → Ordering) (v : V) where
  low_ranges : (xs : List (Constraint V)) → AllAt R v Less xs → is_included R v xs ≡ false → AllByRecursion (IsLow R v) (ranges_of kind xs)
  low_ranges [] h n = tt
  low_ranges (c ∷ xs) h n =
      let m = or_parts _ _ n in
      let i : AllByRecursion (IsLow R v) (ranges_of kind xs) = low_ranges xs h.1 m.1 in
      let q = low_at c.comparator (R c.version v) h.0 m.0 in
      cond_both (is_range (kind c)) (c ∷ ranges_of kind xs) (ranges_of kind xs) (λ w. AllByRecursion (IsLow R v) w) (λ t. (record { range = t; not_above = q.0; opens = q.1 }, i)) (λ f. i)

  high_ranges : (ys : List (Constraint V)) → AllAt R v Greater ys → is_included R v ys ≡ false → AllByRecursion (IsHigh R v) (ranges_of kind ys)
  high_ranges [] h n = tt
  high_ranges (c ∷ ys) h n =
      let m = or_parts _ _ n in
      let i : AllByRecursion (IsHigh R v) (ranges_of kind ys) = high_ranges ys h.1 m.1 in
      let q = high_at c.comparator (R c.version v) h.0 m.0 in
      cond_both (is_range (kind c)) (c ∷ ranges_of kind ys) (ranges_of kind ys) (λ w. AllByRecursion (IsHigh R v) w) (λ t. (record { range = t; not_below = q.0; closes = q.1 }, i)) (λ f. i)

  walk_between : (xs ys : List (Constraint V)) → AllAt R v Less xs → AllAt R v Greater ys → is_included R v (xs ++ ys) ≡ false → alternates kind (ranges_of kind (xs ++ ys)) ≡ true → walk R v (xs ++ ys) ≡ meaning R v (xs ++ ys)
  walk_between xs ys h g n a =
      let m = or_parts _ _ (sym (list_any-append _ xs ys) ∙ n) in
      let p = parts R v (ranges_of kind xs) (ranges_of kind ys) (low_ranges xs h m.0) (high_ranges ys g m.1) (rw (← filter-append (λ c. is_range (kind c)) xs ys) a) in
      let w : walk R v (xs ++ ys) ≡ (list_all (λ c. is_hole (kind c)) (xs ++ ys) || (opens_last kind false xs || closes_first kind ys false)) =
      rw (n, lower_not_equal R v xs ys h, upper_not_equal R v ys g, filter-append (λ c. is_range (kind c)) xs ys, p, opens_last-ranges kind false xs, closes_first-ranges kind false ys) refl in
      w ∙ or_swap (list_all (λ c. is_hole (kind c)) (xs ++ ys)) _ ∙ sym (meaning_between R v xs ys h g)

-- what holds of v by name is a point at v, or opens below it or closes above it
data Named : Comparator → Type 0 where
  is_equal : Named EqualTo
  is_at_least : Named AtLeast
  is_at_most : Named AtMost

named : (k : Comparator) → includes k ≡ true → Named k
named EqualTo e = is_equal
named NotEqualTo e = cc
named LessThan e = cc
named AtMost e = is_at_most
named GreaterThan e = cc
named AtLeast e = is_at_least

point_includes : (k : Comparator) → kind_of_comparator k ≡ point → includes k ≡ true
point_includes EqualTo e = refl
point_includes NotEqualTo e = cc
point_includes LessThan e = cc
point_includes AtMost e = cc
point_includes GreaterThan e = cc
point_includes AtLeast e = cc

module _ {V : Type 0} {R : V → V → Ordering} (o : IsTotalOrder R) (v : V) where
  upper_not_included : (ys : List (Constraint V)) → AllByRecursion (λ c. R c.version v ≡ Greater) ys → is_included R v ys ≡ false
  upper_not_included [] h = refl
  upper_not_included (c ∷ ys) h = rw h.0 (rw (and_right (includes c.comparator) false refl) (upper_not_included ys h.1))

  abbrev IsInside : Bool → List (Constraint V) → Type 0
  IsInside p list = (is_under_equal R v list ≡ true) ⊎ ((is_under_not_equal R v list ≡ false) × ((opens_last kind p (filter (λ c. is_lt (side R v c)) list) || closes_above R v list) ≡ true))

  behind_lower : (p : Bool) (c : Constraint V) (list : List (Constraint V)) → R c.version v ≡ Less → IsInside (opens_next p (kind c)) list → IsInside p (c ∷ list)
  behind_lower p c list f (inl i) = inl (rw (and_right (is_point (kind c)) (is_eq (R c.version v)) (ap is_eq f)) i)
  behind_lower p c list f (inr i) =
      let s : side R v c ≡ Less = ap (side_at c.comparator) f in
      inr (rw (and_right (is_hole (kind c)) (is_eq (R c.version v)) (ap is_eq f)) i.0, rw s i.1)

  at_v : (p : Bool) (c : Constraint V) (list : List (Constraint V)) (k : Comparator) → c.comparator ≡ k → R c.version v ≡ Equal → AllAt R v Greater list → Named k → IsInside p (c ∷ list)
  at_v p c list k e f g is_equal = inl (rw (e, f) refl)
  at_v p c list k e f g is_at_least =
      let s : side R v c ≡ Less = rw (e, f) refl in
      let t : opens_last kind (opens_next p (kind c)) (filter (λ c. is_lt (side R v c)) list) ≡ true = rw e (upper_opens R v true list g) in
      let u : opens_last kind p (filter (λ c. is_lt (side R v c)) (c ∷ list)) ≡ true = rw s t in
      inr (rw e (upper_not_equal R v list g), or_left _ _ u)
  at_v p c list k e f g is_at_most =
      let s : side R v c ≡ Greater = rw (e, f) refl in
      let t : closes_here (kind c) (closes_above R v list) ≡ true = rw e refl in
      let u : closes_above R v (c ∷ list) ≡ true = rw s t in
      inr (rw e (upper_not_equal R v list g), or_right _ _ u)

  versions_above : (c : V) (list : List (Constraint V)) → is_lt (R c v) ≡ false → AllByRecursion (λ d. R c d.version ≡ Less) list → AllByRecursion (λ d. R d.version v ≡ Greater) list
  versions_above c [] n h = tt
  versions_above c (d ∷ list) n h = (above_step o v c d.version (R c v) refl n h.0, versions_above c list n h.1)

  included_step : (p : Bool) (c : Constraint V) (list : List (Constraint V)) (r : Ordering) → R c.version v ≡ r → IsSorted R (c ∷ list) → is_included R v (c ∷ list) ≡ true → (is_included R v list ≡ true → IsInside (opens_next p (kind c)) list) → IsInside p (c ∷ list)
  included_step p c list Less f s e i = behind_lower p c list f (i (rw (and_right (includes c.comparator) (is_eq (R c.version v)) (ap is_eq f)) at e))
  included_step p c list Equal f s e i =
      let n : is_lt (R c.version v) ≡ false = ap is_lt f in
      elim (cases_Bool (includes c.comparator)) [
        | inl t ↦ at_v p c list c.comparator refl f (above o v c.version list n s.0) (named c.comparator t)
        | inr t ↦
            let q : is_included R v list ≡ true = rw t at e in
            let q' = upper_not_included list (versions_above c.version list n s.0) in
            cc
      ]
  included_step p c list Greater f s e i =
      let q : is_included R v list ≡ true = rw (and_right (includes c.comparator) (is_eq (R c.version v)) (ap is_eq f)) at e in
      let q' = upper_not_included list (versions_above c.version list (ap is_lt f) s.0) in
      cc

  included_inside : (p : Bool) (list : List (Constraint V)) → IsSorted R list → is_included R v list ≡ true → IsInside p list
  included_inside p [] s e = cc
  included_inside p (c ∷ list) s e = included_step p c list (R c.version v) refl s e (included_inside (opens_next p (kind c)) list s.1)

  included_means : (list : List (Constraint V)) → IsSorted R list → is_included R v list ≡ true → meaning R v list ≡ true
  included_means list s e = elim (included_inside false list s e) [ inl i ↦ or_left _ _ i | inr i ↦ rw i.0 (or_right _ _ (or_left _ _ i.1)) ]

  walk_at_hole : (list : List (Constraint V)) → is_included R v list ≡ false → is_under_not_equal R v list ≡ true → walk R v list ≡ false
  walk_at_hole list n e = rw (n, e) refl

  -- by how a list in order lies around v
  walk_around : {list : List (Constraint V)} → Around o v list → is_included R v list ≡ false → alternates kind (ranges_of kind list) ≡ true → walk R v list ≡ meaning R v list
  walk_around (between xs ys h g) n a = walk_between R v xs ys h g n a
  walk_around (at_one xs c ys h l g) n a =
      let p = level_is c.comparator (R c.version v) l in
      elim p.1 [
        | inl e ↦
            let m = or_parts (is_included R v xs) (is_included R v (c ∷ ys)) (sym (list_any-append _ xs (c ∷ ys)) ∙ n) in
            let k = (or_parts (includes c.comparator && is_eq (R c.version v)) (is_included R v ys) m.1).0 in
            let i = and_from (includes c.comparator) (is_eq (R c.version v)) (point_includes c.comparator e) p.0 in
            cc
        | inr e ↦ walk_at_hole (xs ++ c ∷ ys) n (lower_not_equal R v xs (c ∷ ys) h ∙ rw (e, p.0) refl) ∙ sym (meaning_at_hole R v xs c ys h e p.0 g)
      ]

  -- on a valid list in order
  pub walk_means : (list : List (Constraint V)) → IsSorted R list → is_valid kind list ≡ true → walk R v list ≡ meaning R v list
  walk_means list s w = elim (cases_Bool (is_included R v list)) [
    | inl t ↦ or_left _ _ t ∙ sym (included_means list s t)
    | inr n ↦ walk_around (around o v list s) n (and_parts _ _ w).1
  ]

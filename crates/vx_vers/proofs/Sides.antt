-- How a sorted list lies around a version: the constraints whose cuts are below it, one at it or none, and those whose
-- cuts are above it.
use Rattle.std.proofs.Common.{◌≡◌, Bool, true, false, ◌&&◌, ◌||◌, List, [], ◌∷◌, ◌++◌, ◌⊎◌, filter, refl, sym, ap, ◌∙◌, inl, inr}
use Rattle.std.specs.declared.cmp.Ordering.{Ordering}
use Rattle.std.specs.declared.cmp.Ordering.TheVariants.{Less, Equal, Greater}
use Rattle.std.specs.Ordering.{is_lt, is_eq, ordering_reverse}
use Rattle.std.specs.Cmp.{IsTotalOrder}
use Rattle.std.specs.List.{AllByRecursion}
use Rattle.vx_vers.specs.declared.constraints.Comparator.{Comparator}
use Rattle.vx_vers.specs.declared.constraints.Comparator.TheVariants.{Equal as EqualTo, NotEqual as NotEqualTo, Less as LessThan, LessEqual as AtMost, Greater as GreaterThan, GreaterEqual as AtLeast}
use Rattle.vx_vers.specs.declared.constraints.Constraint.{Constraint}
use Rattle.vx_vers.specs.Meaning.{point, hole, kind_of_comparator, kind, is_point, is_hole, opens_next, opens_last, closes_here, closes_first, side_at, side, is_under_equal, is_under_not_equal, closes_above, is_all_holes, meaning}
use Rattle.vx_vers.specs.Sorted.{IsSorted}

pub not_point : (k : Comparator) (r : Ordering) → is_eq (side_at k r) ≡ false → (is_point (kind_of_comparator k) && is_eq r) ≡ false
not_point EqualTo Less e = refl
not_point EqualTo Equal e = e
not_point EqualTo Greater e = refl
not_point NotEqualTo r e = refl
not_point LessThan r e = refl
not_point AtMost r e = refl
not_point GreaterThan r e = refl
not_point AtLeast r e = refl

pub not_hole : (k : Comparator) (r : Ordering) → is_eq (side_at k r) ≡ false → (is_hole (kind_of_comparator k) && is_eq r) ≡ false
not_hole EqualTo r e = refl
not_hole NotEqualTo Less e = refl
not_hole NotEqualTo Equal e = e
not_hole NotEqualTo Greater e = refl
not_hole LessThan r e = refl
not_hole AtMost r e = refl
not_hole GreaterThan r e = refl
not_hole AtLeast r e = refl

module _ {V : Type 0} (R : V → V → Ordering) (v : V) where
  abbrev pub AllAt : Ordering → List (Constraint V) → Type 0
  AllAt s list = AllByRecursion (λ c. side R v c ≡ s) list

  -- cuts below v, in front of others
  pub lower_opens : (p : Bool) (xs ys : List (Constraint V)) → AllAt Less xs → opens_last kind p (filter (λ c. is_lt (side R v c)) (xs ++ ys)) ≡ opens_last kind (opens_last kind p xs) (filter (λ c. is_lt (side R v c)) ys)
  lower_opens p [] ys h = refl
  lower_opens p (x ∷ xs) ys h = rw h.0 (lower_opens (opens_next p (kind x)) xs ys h.1)

  pub lower_closes : (xs ys : List (Constraint V)) → AllAt Less xs → closes_above R v (xs ++ ys) ≡ closes_above R v ys
  lower_closes [] ys h = refl
  lower_closes (x ∷ xs) ys h = rw h.0 (lower_closes xs ys h.1)

  pub lower_equal : (xs ys : List (Constraint V)) → AllAt Less xs → is_under_equal R v (xs ++ ys) ≡ is_under_equal R v ys
  lower_equal [] ys h = refl
  lower_equal (x ∷ xs) ys h = rw (not_point x.comparator (R x.version v) (ap is_eq h.0)) (lower_equal xs ys h.1)

  pub lower_not_equal : (xs ys : List (Constraint V)) → AllAt Less xs → is_under_not_equal R v (xs ++ ys) ≡ is_under_not_equal R v ys
  lower_not_equal [] ys h = refl
  lower_not_equal (x ∷ xs) ys h = rw (not_hole x.comparator (R x.version v) (ap is_eq h.0)) (lower_not_equal xs ys h.1)

  -- cuts above v
  pub upper_opens : (p : Bool) (ys : List (Constraint V)) → AllAt Greater ys → opens_last kind p (filter (λ c. is_lt (side R v c)) ys) ≡ p
  upper_opens p [] h = refl
  upper_opens p (y ∷ ys) h = rw h.0 (upper_opens p ys h.1)

  pub upper_closes : (ys : List (Constraint V)) → AllAt Greater ys → closes_above R v ys ≡ closes_first kind ys false
  upper_closes [] h = refl
  upper_closes (y ∷ ys) h = rw h.0 (ap (closes_here (kind y)) (upper_closes ys h.1))

  pub upper_equal : (ys : List (Constraint V)) → AllAt Greater ys → is_under_equal R v ys ≡ false
  upper_equal [] h = refl
  upper_equal (y ∷ ys) h = rw (not_point y.comparator (R y.version v) (ap is_eq h.0)) (upper_equal ys h.1)

  pub upper_not_equal : (ys : List (Constraint V)) → AllAt Greater ys → is_under_not_equal R v ys ≡ false
  upper_not_equal [] h = refl
  upper_not_equal (y ∷ ys) h = rw (not_hole y.comparator (R y.version v) (ap is_eq h.0)) (upper_not_equal ys h.1)

  -- the meaning where no point and no hole is at v
  pub meaning_between : (xs ys : List (Constraint V)) → AllAt Less xs → AllAt Greater ys → meaning R v (xs ++ ys) ≡ (opens_last kind false xs || closes_first kind ys false || is_all_holes R v (xs ++ ys))
  meaning_between xs ys h k =
      rw (lower_equal xs ys h, upper_equal ys k, lower_not_equal xs ys h, upper_not_equal ys k, lower_opens false xs ys h, upper_opens (opens_last kind false xs) ys k, lower_closes xs ys h, upper_closes ys k) refl

  -- where a point or a hole is at v
  pub meaning_at_point : (xs : List (Constraint V)) (c : Constraint V) (ys : List (Constraint V)) → AllAt Less xs → kind c ≡ point → is_eq (R c.version v) ≡ true → meaning R v (xs ++ c ∷ ys) ≡ true
  meaning_at_point xs c ys h e r = rw (lower_equal xs (c ∷ ys) h, e, r) refl

  pub meaning_at_hole : (xs : List (Constraint V)) (c : Constraint V) (ys : List (Constraint V)) → AllAt Less xs → kind c ≡ hole → is_eq (R c.version v) ≡ true → AllAt Greater ys → meaning R v (xs ++ c ∷ ys) ≡ false
  meaning_at_hole xs c ys h e r k = rw (lower_equal xs (c ∷ ys) h, lower_not_equal xs (c ∷ ys) h, e, r, upper_equal ys k) refl

pub level_is : (k : Comparator) (r : Ordering) → side_at k r ≡ Equal → (is_eq r ≡ true) × ((kind_of_comparator k ≡ point) ⊎ (kind_of_comparator k ≡ hole))
level_is k Less e = cc
level_is k Greater e = cc
level_is EqualTo Equal e = (refl, inl refl)
level_is NotEqualTo Equal e = (refl, inr refl)
level_is LessThan Equal e = cc
level_is AtMost Equal e = cc
level_is GreaterThan Equal e = cc
level_is AtLeast Equal e = cc

above_is : (k : Comparator) (r : Ordering) → r ≡ Greater → side_at k r ≡ Greater
above_is k Less e = cc
above_is k Equal e = cc
above_is k Greater e = refl

not_below : (k : Comparator) (r : Ordering) → is_lt (side_at k r) ≡ false → is_lt r ≡ false
not_below k Less e = e
not_below k Equal e = refl
not_below k Greater e = refl

module _ {V : Type 0} {R : V → V → Ordering} (o : IsTotalOrder R) (v : V) where
  -- where c is not below v, what is above c is above v
  pub above_step : (c d : V) (r : Ordering) → R c v ≡ r → is_lt r ≡ false → R c d ≡ Less → R d v ≡ Greater
  above_step c d Less e n l = cc
  above_step c d Equal e n l = o.antisymm d v ∙ ap ordering_reverse (sym (o.congr c v d e) ∙ l)
  above_step c d Greater e n l = o.antisymm d v ∙ ap ordering_reverse (o.trans v c d (o.antisymm v c ∙ ap ordering_reverse e) l)

  pub above : (c : V) (list : List (Constraint V)) → is_lt (R c v) ≡ false → AllByRecursion (λ d. R c d.version ≡ Less) list → AllByRecursion (λ d. side R v d ≡ Greater) list
  above c [] n h = tt
  above c (d ∷ list) n h = (above_is d.comparator (R d.version v) (above_step c d.version (R c v) refl n h.0), above c list n h.1)

  -- how a list in order lies around v
  pub data Around : List (Constraint V) → Type 0 where
    between : (xs ys : List (Constraint V)) → AllByRecursion (λ c. side R v c ≡ Less) xs → AllByRecursion (λ c. side R v c ≡ Greater) ys → Around (xs ++ ys)
    at_one : (xs : List (Constraint V)) (c : Constraint V) (ys : List (Constraint V)) → AllByRecursion (λ c. side R v c ≡ Less) xs → side R v c ≡ Equal → AllByRecursion (λ c. side R v c ≡ Greater) ys → Around (xs ++ c ∷ ys)

  around_more : (c : Constraint V) (r : Ordering) → side R v c ≡ r → (list : List (Constraint V)) → (is_lt r ≡ false → AllByRecursion (λ d. side R v d ≡ Greater) list) → Around list → Around (c ∷ list)
  around_more c Less e list k (between xs ys h g) = between (c ∷ xs) ys (e, h) g
  around_more c Less e list k (at_one xs d ys h l g) = at_one (c ∷ xs) d ys (e, h) l g
  around_more c Equal e list k a = at_one [] c list tt e (k refl)
  around_more c Greater e list k a = between [] (c ∷ list) tt (e, k refl)

  pub around : (list : List (Constraint V)) → IsSorted R list → Around list
  around [] s = between [] [] tt tt
  around (c ∷ list) s =
      around_more c (side R v c) refl list
      (λ n. above c.version list (not_below c.comparator (R c.version v) n) s.0)
      (around list s.1)

-- What a sorted list means, once its first constraints are passed.
use Rattle.std.proofs.Common.{◌≡◌, ◌<◌, ◌+◌, ◌-◌, ℕ, Bool, true, false, ◌&&◌, ◌||◌, List, ◌∷◌, length, get_or, take, drop, refl, ap, sym, subst, ◌∙◌}
use Rattle.std.specs.declared.cmp.Ordering.{Ordering}
use Rattle.std.specs.declared.cmp.Ordering.TheVariants.{Less, Equal, Greater}
use Rattle.std.specs.Ordering.{is_eq, is_lt}
use Rattle.std.specs.Cmp.{IsTotalOrder}
use Rattle.std.proofs.lemmas.Bool.{and_right, or_left, or_right}
use Rattle.std.proofs.lemmas.List.{drop_more, take_rest}
use Rattle.vx_vers.specs.declared.constraints.Comparator.{Comparator}
use Rattle.vx_vers.specs.declared.constraints.Comparator.TheVariants.{Equal as EqualTo, NotEqual as NotEqualTo, Less as LessThan, LessEqual as AtMost, Greater as GreaterThan, GreaterEqual as AtLeast}
use Rattle.vx_vers.specs.declared.constraints.Constraint.{Constraint}
use Rattle.vx_vers.specs.Meaning.{kind, is_hole, opens_next, side_at, side, is_all_holes, meaning}
use Rattle.vx_vers.specs.Sorted.{IsSorted}
use Rattle.vx_vers.specs.Steps.Passing.{holds_below, holds_own, meaning_from}
use Rattle.vx_vers.proofs.Sides.{AllAt, not_point, not_hole, upper_opens, upper_closes, upper_equal, upper_not_equal, above}
use Rattle.vx_vers.proofs.SortedLaws.{sorted_drop}

and_assoc : (a b c : Bool) → (a && (b && c)) ≡ ((a && b) && c)
and_assoc true b c = refl
and_assoc false b c = refl

only_before : (p h : Bool) → ((p || false) || (h && false)) ≡ p
only_before true h = refl
only_before false true = refl
only_before false false = refl

pub ended : (p h : Bool) → ((p || false) || (h && true)) ≡ (p || h)
ended true h = refl
ended false true = refl
ended false false = refl

module _ {V : Type 0} {R : V → V → Ordering} (o : IsTotalOrder R) (v : V) where
  pub passed_below : (p h : Bool) (c : Constraint V) (list : List (Constraint V)) → R c.version v ≡ Less → meaning_from R v p h (c ∷ list) ≡ meaning_from R v (opens_next p (kind c)) (h && is_hole (kind c)) list
  passed_below p h c list f =
      let s : side R v c ≡ Less = ap (side_at c.comparator) f in
      rw (not_point c.comparator (R c.version v) (ap is_eq s), not_hole c.comparator (R c.version v) (ap is_eq s), s, and_assoc h (is_hole (kind c)) (is_all_holes R v list)) refl

  pub all_above : (p h : Bool) (list : List (Constraint V)) → AllAt R v Greater list → meaning_from R v p h list ≡ holds_below p h list
  all_above p h list g = rw (upper_equal R v list g, upper_not_equal R v list g, upper_opens R v p list g, upper_closes R v list g) refl

  pub passed_above : (p h : Bool) (c : Constraint V) (list : List (Constraint V)) → IsSorted R (c ∷ list) → R c.version v ≡ Greater → meaning_from R v p h (c ∷ list) ≡ holds_below p h (c ∷ list)
  passed_above p h c list s f = all_above p h (c ∷ list) (ap (side_at c.comparator) f, above o v c.version list (ap is_lt f) s.0)

  at_own : (p h : Bool) (c : Constraint V) (list : List (Constraint V)) (k : Comparator) → c.comparator ≡ k → R c.version v ≡ Equal → AllAt R v Greater list → meaning_from R v p h (c ∷ list) ≡ holds_own p k list
  at_own p h c list EqualTo e f g = rw (e, f) refl
  at_own p h c list NotEqualTo e f g = rw (e, f, upper_equal R v list g) refl
  at_own p h c list LessThan e f g = rw (e, f, upper_equal R v list g, upper_not_equal R v list g, upper_opens R v false list g, upper_closes R v list g, and_right h false refl) refl
  at_own p h c list AtMost e f g = rw (e, f, upper_equal R v list g, upper_not_equal R v list g) (or_left _ _ (or_right _ _ refl))
  at_own p h c list GreaterThan e f g = rw (e, f, upper_equal R v list g, upper_not_equal R v list g, upper_opens R v p list g) (only_before p h)
  at_own p h c list AtLeast e f g = rw (e, f, upper_equal R v list g, upper_not_equal R v list g, upper_opens R v true list g) refl

  pub passed_own : (p h : Bool) (c : Constraint V) (list : List (Constraint V)) → IsSorted R (c ∷ list) → R c.version v ≡ Equal → meaning_from R v p h (c ∷ list) ≡ holds_own p c.comparator list
  passed_own p h c list s f = at_own p h c list c.comparator refl f (above o v c.version list (ap is_lt f) s.0)

  -- a constraint at a place of the list, and what stands from there on
  at_place : (items : List (Constraint V)) (i : ℕ) (c : Constraint V) → i < length items → c ≡ get_or items i c → drop i items ≡ c ∷ drop (i + 1) items
  at_place items i c l e = drop_more items i c l ∙ ap (λ d. d ∷ drop (i + 1) items) (sym e)

  pub found_own : (items : List (Constraint V)) (p h found : Bool) (i : ℕ) (c : Constraint V) → IsSorted R items → i < length items → c ≡ get_or items i c → R c.version v ≡ Equal
      → found ≡ holds_own p c.comparator (take (length items - (i + 1)) (drop (i + 1) items)) → meaning_from R v p h (drop i items) ≡ meaning R v items → found ≡ meaning R v items
  found_own items p h found i c s l e f own left =
      let split = at_place items i c l e in
      own ∙ ap (holds_own p c.comparator) (take_rest items (i + 1))
      ∙ sym (passed_own p h c (drop (i + 1) items) (subst (IsSorted R) split (sorted_drop R i items s)) f)
      ∙ sym (ap (meaning_from R v p h) split) ∙ left

  pub found_below : (items : List (Constraint V)) (p h found : Bool) (i : ℕ) (c : Constraint V) → IsSorted R items → i < length items → c ≡ get_or items i c → R c.version v ≡ Greater
      → found ≡ holds_below p h (take (length items - i) (drop i items)) → meaning_from R v p h (drop i items) ≡ meaning R v items → found ≡ meaning R v items
  found_below items p h found i c s l e f below left =
      let split = at_place items i c l e in
      below ∙ ap (holds_below p h) (take_rest items i ∙ split)
      ∙ sym (passed_above p h c (drop (i + 1) items) (subst (IsSorted R) split (sorted_drop R i items s)) f)
      ∙ sym (ap (meaning_from R v p h) split) ∙ left

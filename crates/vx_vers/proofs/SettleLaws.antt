-- Constraints that are numbered, sorted and put back.
use Rattle.std.proofs.Common.{◌≡◌, ◌≢◌, ◌<◌, ◌≤◌, ◌+◌, ◌++◌, ℕ, true, List, [], ◌∷◌, length, refl, sym, ap, subst, ◌∙◌, inl, inr, arith, append_assoc, append-nil, length-append, Some, None, Ordering, Less, Equal, Greater}
use Rattle.std.specs.Prelude.{Contains, IsPermutation, sum_by}
use Rattle.std.specs.Cmp.{IsTotalOrder}
use Rattle.std.specs.List.{AllByRecursion}
use Rattle.std.specs.List.Sorted.{IsSortedBy}
use Rattle.std.specs.Ordering.{is_lt}
use Rattle.std.proofs.lemmas.Bool.{and_parts, cases_eq, eq-eqb, ne_eqb}
use Rattle.std.proofs.lemmas.List.Sorted.{IsPermutation-cons, IsPermutation-map, IsPermutation-refl, IsPermutation-sym, IsPermutation-to_front, IsPermutation-trans}
use Rattle.std.proofs.lemmas.List.Sums.{sum_by-cons}
use Rattle.vx_vers.specs.declared.constraints.Constraint.{Constraint}
use Rattle.vx_vers.specs.declared.sorting.Numbered.{Numbered}
use Rattle.vx_vers.specs.Refusals.{HasEqual, IsApart, IsFirstDuplicate}
use Rattle.vx_vers.specs.Sorted.{IsSorted}
use Rattle.vx_vers.specs.Steps.Numbering.{AreTaken, Counted, IsLeastTwice, IsTwice, Once, constraints_of, has_number, least_twice, numbered_cmp, rises, rises_behind}
use Rattle.vx_vers.proofs.Ranked.{Among, among, contains, found_least, found_none}

-- ---- constraints that rise are sorted

less_is : (r : Ordering) → is_lt r ≡ true → r ≡ Less
less_is Less e = refl
less_is Equal e = cc e
less_is Greater e = cc e

module _ {V : Type 0} (order : V → V → Ordering) (laws : IsTotalOrder order) where
  above_first : (c d : Constraint V) (list : List (Constraint V)) → order c.version d.version ≡ Less → AllByRecursion (λ later. order d.version later.version ≡ Less) list → AllByRecursion (λ later. order c.version later.version ≡ Less) list
  above_first c d [] less all = tt
  above_first c d (e ∷ list) less all = (laws.trans c.version d.version e.version less all.0, above_first c d list less all.1)

  rising_behind : (c : Constraint V) (list : List (Constraint V)) → rises_behind order c list ≡ true → IsSorted order (c ∷ list)
  rising_behind c [] up = (tt, tt)
  rising_behind c (d ∷ list) up =
      let a = and_parts (is_lt (order c.version d.version)) (rises_behind order d list) up in
      let less = less_is (order c.version d.version) a.0 in
      let rest = rising_behind d list a.1 in
      ((less, above_first c d list less rest.0), rest)

  pub rising_sorted : (list : List (Constraint V)) → rises order list ≡ true → IsSorted order list
  rising_sorted [] up = tt
  rising_sorted (c ∷ list) up = rising_behind c list up

-- ---- items that are numbered one after the other

from_first : {V : Type 0} (k : ℕ) (items : List (Numbered V)) (y : Numbered V) → Counted k items → Among items y → k ≤ y.number
from_first k [] y all h = absurd h
from_first k (x ∷ items) y all (inl e) = let n : x.number ≡ y.number = ap (λ z. z.number) e in omega (arith, all.0)
from_first k (x ∷ items) y all (inr h) = omega (arith, from_first (k + 1) items y all.1 h)

-- numbers below the first stand nowhere
none_below : {V : Type 0} (k n : ℕ) (items : List (Numbered V)) → Counted k items → n < k → sum_by (has_number n) items ≡ 0
none_below k n [] all below = refl
none_below k n (x ∷ items) all below =
    let zero_here : has_number n x ≡ 0 = rw (ne_eqb x.number n (λ e. omega (arith, all.0))) refl in
    omega (arith, zero_here, sum_by-cons (has_number n) x items, none_below (k + 1) n items all.1 (omega arith))

counts_once : {V : Type 0} (k : ℕ) (items : List (Numbered V)) → Counted k items → Once items
counts_once k [] all n = omega arith
counts_once k (x ∷ items) all n = elim (cases_eq x.number n) [
  | inl e ↦
      let one_here : has_number n x ≡ 1 = rw (eq-eqb x.number n e) refl in
      omega (arith, one_here, sum_by-cons (has_number n) x items, none_below (k + 1) n items all.1 (omega (arith, all.0)))
  | inr other ↦
      let zero_here : has_number n x ≡ 0 = rw (ne_eqb x.number n other) refl in
      omega (arith, zero_here, sum_by-cons (has_number n) x items, counts_once (k + 1) items all.1 n)
]

-- where an item stands
record IsAt {V : Type 0} (k : ℕ) (items : List (Numbered V)) (y : Numbered V) : Type 0 where
  before : List (Numbered V)
  behind : List (Numbered V)
  split : items ≡ before ++ y ∷ behind
  number : y.number ≡ k + length before

stands_at : {V : Type 0} (k : ℕ) (items : List (Numbered V)) (y : Numbered V) → Counted k items → Among items y → IsAt k items y
stands_at k [] y all h = absurd h
stands_at k (x ∷ items) y all (inl e) = record { before = []; behind = items; split = ap (λ (z : Numbered _). z ∷ items) e; number = let n : x.number ≡ y.number = ap (λ z. z.number) e in omega (arith, all.0) }
stands_at k (x ∷ items) y all (inr h) = let r = stands_at (k + 1) items y all.1 h in record {
  before = x ∷ r.before;
  behind = r.behind;
  split = ap (λ (zs : List (Numbered _)). x ∷ zs) r.split;
  number = omega (arith, r.number);
}

front_counted : {V : Type 0} (k : ℕ) (xs ys : List (Numbered V)) → Counted k (xs ++ ys) → Counted k xs
front_counted k [] ys all = tt
front_counted k (x ∷ xs) ys all = (all.0, front_counted (k + 1) xs ys all.1)

-- a member with a lower number than one stands before it
stands_before : {V : Type 0} (k : ℕ) (before behind : List (Numbered V)) (y e : Numbered V) → Counted k (before ++ y ∷ behind) → Among (before ++ y ∷ behind) e → e.number < y.number → Among before e
stands_before k [] behind y e all (inl same) less = let n : y.number ≡ e.number = ap (λ z. z.number) same in omega arith
stands_before k [] behind y e all (inr h) less = omega (arith, all.0, from_first (k + 1) behind e all.1 h)
stands_before k (x ∷ before) behind y e all (inl same) less = inl same
stands_before k (x ∷ before) behind y e all (inr h) less = inr (stands_before (k + 1) before behind y e all.1 h less)

in_front : {V : Type 0} (before behind : List (Numbered V)) (e : Numbered V) → Among before e → Among (before ++ behind) e
in_front [] behind e h = absurd h
in_front (x ∷ before) behind e (inl same) = inl same
in_front (x ∷ before) behind e (inr h) = inr (in_front before behind e h)

in_middle : {V : Type 0} (before behind : List (Numbered V)) (y : Numbered V) → Among (before ++ y ∷ behind) y
in_middle [] behind y = inl refl
in_middle (x ∷ before) behind y = inr (in_middle before behind y)

module _ {V : Type 0} (order : V → V → Ordering) where
  has_equal : (items : List (Numbered V)) (e : Numbered V) (v : V) → Among items e → order e.constraint.version v ≡ Equal → HasEqual order v (constraints_of items)
  has_equal [] e v h equal = absurd h
  has_equal (x ∷ items) e v (inl same) equal = inl (subst (λ z. order z.constraint.version v ≡ Equal) (sym same) equal)
  has_equal (x ∷ items) e v (inr h) equal = inr (has_equal items e v h equal)

  others_differ : (x : Numbered V) (items : List (Numbered V)) → ((b : Numbered V) → Among items b → order x.constraint.version b.constraint.version ≢ Equal) → AllByRecursion (λ later. order x.constraint.version later.version ≢ Equal) (constraints_of items)
  others_differ x [] h = tt
  others_differ x (y ∷ items) h = (h y (inl refl), others_differ x items (λ b m. h b (inr m)))

  apart : (k : ℕ) (items : List (Numbered V)) → Counted k items → ((a b : Numbered V) → Among items a → Among items b → a.number < b.number → order a.constraint.version b.constraint.version ≢ Equal) → IsApart order (constraints_of items)
  apart k [] all h = tt
  apart k (x ∷ items) all h = (
    others_differ x items (λ b m. h x b (inl refl) (inr m) (omega (arith, all.0, from_first (k + 1) items b all.1 m))),
    apart (k + 1) items all.1 (λ a b m n. h a b (inr m) (inr n)),
  )

  constraints_split : (before behind : List (Numbered V)) (y : Numbered V) → constraints_of (before ++ y ∷ behind) ≡ constraints_of before ++ y.constraint ∷ constraints_of behind
  constraints_split [] behind y = refl
  constraints_split (x ∷ before) behind y = ap (λ (cs : List (Constraint V)). x.constraint ∷ cs) (constraints_split before behind y)

  constraints_length : (items : List (Numbered V)) → length (constraints_of items) ≡ length items
  constraints_length [] = refl
  constraints_length (x ∷ items) = omega (arith, constraints_length items)

  -- the least number that is twice is that of the first duplicate
  first_duplicate : (items : List (Numbered V)) (n : ℕ) → Counted 1 items → IsLeastTwice order items n → IsFirstDuplicate order (constraints_of items) n
  first_duplicate items n all least =
      let t = least.twice in
      let earlier = among items t.earlier t.earlier_in in
      let later = among items t.later t.later_in in
      let at = stands_at 1 items t.later all later in
      let whole : Counted 1 (at.before ++ t.later ∷ at.behind) = subst (Counted 1) at.split all in
      let back : (y : Numbered V) → Among (at.before ++ t.later ∷ at.behind) y → Contains items y = λ y m. contains items y (subst (λ is. Among is y) (sym at.split) m) in
      let here : Among at.before t.earlier = stands_before 1 at.before at.behind t.later t.earlier whole (subst (λ is. Among is t.earlier) at.split earlier) t.below in
      record {
        before = constraints_of at.before;
        constraint = t.later.constraint;
        behind = constraints_of at.behind;
        split = ap constraints_of at.split ∙ constraints_split at.before at.behind t.later;
        number = omega (arith, t.is, at.number, constraints_length at.before);
        apart = apart 1 at.before (front_counted 1 at.before (t.later ∷ at.behind) whole) (λ a b m k below equal.
            let twice : IsTwice order items b.number = record {
              earlier = a;
              later = b;
              earlier_in = back a (in_front at.before (t.later ∷ at.behind) a m);
              later_in = back b (in_front at.before (t.later ∷ at.behind) b k);
              below = below;
              equal = equal;
              is = refl;
            } in
            omega (arith, least.least b.number twice, t.is, below_end 1 at.before at.behind t.later b whole k));
        twice = has_equal at.before t.earlier t.later.constraint.version here t.equal;
      }
    where
      below_end : (k : ℕ) (before behind : List (Numbered V)) (y b : Numbered V) → Counted k (before ++ y ∷ behind) → Among before b → b.number < y.number
      below_end k [] behind y b all h = absurd h
      below_end k (x ∷ before) behind y b all (inl same) =
          let n : x.number ≡ b.number = ap (λ z. z.number) same in
          omega (arith, all.0, from_first (k + 1) (before ++ y ∷ behind) y all.1 (in_middle before behind y))
      below_end k (x ∷ before) behind y b all (inr h) = below_end (k + 1) before behind y b all.1 h

-- ---- constraints that are taken off from the last one on

module _ {V : Type 0} where
  pub none_taken : (list : List (Constraint V)) → AreTaken list list []
  none_taken list = record { behind = []; joined = append-nil list; counted = tt; same = IsPermutation-refl [] }

  pub one_taken : (list left rest : List (Constraint V)) (items : List (Numbered V)) (c : Constraint V) (n : ℕ) → AreTaken list left items → left ≡ rest ++ c ∷ [] → n ≡ length left
      → AreTaken list rest (items ++ record { number = n; constraint = c } ∷ [])
  one_taken list left rest items c n taken e is =
      let item : Numbered V = record { number = n; constraint = c } in
      let size : length left ≡ length rest + 1 = ap length e ∙ length-append rest (c ∷ []) in
      record {
        behind = item ∷ taken.behind;
        joined = sym (append_assoc rest (c ∷ []) (constraints_of taken.behind)) ∙ ap (λ (l : List (Constraint V)). l ++ constraints_of taken.behind) (sym e) ∙ taken.joined;
        counted = (is ∙ size, subst (λ k. Counted (k + 1) taken.behind) size taken.counted);
        same = IsPermutation-trans (item ∷ taken.behind) (item ∷ items) (items ++ item ∷ []) (IsPermutation-cons item taken.behind items taken.same)
            (IsPermutation-sym (items ++ item ∷ []) (item ∷ items) (IsPermutation-to_front items item));
      }

module _ {V : Type 0} (order : V → V → Ordering) (laws : IsTotalOrder order) where
  abbrev IsUp : List (Numbered V) → Type 0
  IsUp xs = IsSortedBy (λ x y. is_lt (numbered_cmp order x y)) xs

  pub settled_apart : (list : List (Constraint V)) (items sorted : List (Numbered V)) → AreTaken list [] items → IsPermutation items sorted → IsUp sorted → least_twice order sorted ≡ None → IsSorted order (constraints_of sorted)
  settled_apart list items sorted taken same up none =
      found_none order laws taken.behind sorted (counts_once 1 taken.behind taken.counted) (IsPermutation-trans taken.behind items sorted taken.same same) up none

  pub settled_same : (list : List (Constraint V)) (items sorted : List (Numbered V)) → AreTaken list [] items → IsPermutation items sorted → IsPermutation list (constraints_of sorted)
  settled_same list items sorted taken same =
      subst (λ (l : List (Constraint V)). IsPermutation l (constraints_of sorted)) taken.joined
      (IsPermutation-map (λ item. item.constraint) taken.behind sorted (IsPermutation-trans taken.behind items sorted taken.same same))

  pub settled_twice : (list : List (Constraint V)) (items sorted : List (Numbered V)) (n : ℕ) → AreTaken list [] items → IsPermutation items sorted → IsUp sorted → least_twice order sorted ≡ Some n → IsFirstDuplicate order list n
  settled_twice list items sorted n taken same up some =
      subst (λ (l : List (Constraint V)). IsFirstDuplicate order l n) taken.joined
      (first_duplicate order taken.behind n taken.counted
      (found_least order laws taken.behind sorted n (counts_once 1 taken.behind taken.counted) (IsPermutation-trans taken.behind items sorted taken.same same) up some))

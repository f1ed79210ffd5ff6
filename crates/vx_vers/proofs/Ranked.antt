-- Numbered constraints that are sorted: the least number of one that is order-equal to the one before it is the least
-- of one that is order-equal to one with a lower number.
use Rattle.std.proofs.Common.{◌≡◌, ◌≢◌, ◌⊎◌, ◌<◌, ◌≤◌, ℕ, zero, suc, true, false, List, [], ◌∷◌, get_or, refl, sym, ap, subst, ◌∙◌, inl, inr, arith, Option, Some, None, Ordering, Less, Equal, Greater, add-one}
use Rattle.std.specs.Prelude.{Contains, sum_by, nat_lt, IsPermutation}
use Rattle.std.specs.Cmp.{IsTotalOrder, alike_right, tied_back, on_total, then_total, nat_cmp_total}
use Rattle.std.specs.List.{AllByRecursion}
use Rattle.std.specs.List.Sorted.{IsSortedBy}
use Rattle.std.specs.Ordering.{is_lt, nat_cmp, ordering_reverse, ordering_then}
use Rattle.std.proofs.lemmas.Bool.{cases_lt, eq-eqb, lt-ltb}
use Rattle.std.proofs.lemmas.Bool.Decides.{nat_tests}
use Rattle.std.proofs.lemmas.List.Sums.{sum_by-cons}
use Rattle.std.proofs.lemmas.List.Sorted.{Contains-permutation, IsPermutation-sym, ranks_by, sorted_far, sum_by-IsPermutation}
use Rattle.vx_vers.specs.Steps.Numbering.{Once, has_number, IsLeastTwice, IsTwice, constraints_of, least_behind, least_next, least_twice, lower, numbered_cmp}
use Rattle.vx_vers.specs.Sorted.{IsSorted}
use Rattle.vx_vers.specs.declared.sorting.Numbered.{Numbered}

-- ---- members, by recursion

abbrev pub Among : {C : Type 0} → List C → C → Type 0
Among [] y = ⊥
Among (x ∷ xs) y = (x ≡ y) ⊎ Among xs y

pub among : {C : Type 0} (xs : List C) (y : C) → Contains xs y → Among xs y
among [] y (k, l, e) = absurd (omega arith)
among (x ∷ xs) y (zero, l, e) = inl e
among (x ∷ xs) y (suc k, l, e) = inr (among xs y (k, omega arith, e))

pub contains : {C : Type 0} (xs : List C) (y : C) → Among xs y → Contains xs y
contains [] y h = absurd h
contains (x ∷ xs) y (inl e) = (0, omega arith, e)
contains (x ∷ xs) y (inr h) = let r = contains xs y h in (suc r.0, omega (arith, r.1), r.2)

pub at_member : {C : Type 0} (P : C → Type 0) (xs : List C) (y : C) → AllByRecursion P xs → Among xs y → P y
at_member P [] y all h = absurd h
at_member P (x ∷ xs) y all (inl e) = subst P e all.0
at_member P (x ∷ xs) y all (inr h) = at_member P xs y all.1 h

pub all_members : {C : Type 0} (P : C → Type 0) (xs : List C) → ((y : C) → Among xs y → P y) → AllByRecursion P xs
all_members P [] h = tt
all_members P (x ∷ xs) h = (h x (inl refl), all_members P xs (λ y m. h y (inr m)))

-- ---- numbers that stand once

counted_once : {V : Type 0} (x : Numbered V) (n : ℕ) → x.number ≡ n → has_number n x ≡ 1
counted_once x n e = rw (eq-eqb x.number n e) refl

member_counts : {V : Type 0} (xs : List (Numbered V)) (y : Numbered V) → Among xs y → 1 ≤ sum_by (has_number y.number) xs
member_counts [] y h = absurd h
member_counts (x ∷ xs) y (inl e) = let one : has_number y.number x ≡ 1 = counted_once x y.number (ap (λ z. z.number) e) in omega (arith, one, sum_by-cons (has_number y.number) x xs)
member_counts (x ∷ xs) y (inr h) = omega (arith, member_counts xs y h, sum_by-cons (has_number y.number) x xs)

other_number : {V : Type 0} (x : Numbered V) (xs : List (Numbered V)) (y : Numbered V) → Once (x ∷ xs) → Among xs y → x.number ≢ y.number
other_number x xs y once h e = let one : has_number y.number x ≡ 1 = counted_once x y.number e in omega (arith, one, member_counts xs y h, once y.number, sum_by-cons (has_number y.number) x xs)

once_rest : {V : Type 0} (x : Numbered V) (xs : List (Numbered V)) → Once (x ∷ xs) → Once xs
once_rest x xs once n = omega (arith, once n, sum_by-cons (has_number n) x xs)

module _ {V : Type 0} (order : V → V → Ordering) (laws : IsTotalOrder order) where
  pub numbered_total : IsTotalOrder {K = Numbered V} (numbered_cmp order)
  numbered_total = then_total (on_total (λ (x : Numbered V). x.constraint.version) laws) (on_total (λ (x : Numbered V). x.number) nat_cmp_total)

  -- the first is below the second, or they are order-equal and its number is lower
  abbrev pub IsBefore : Numbered V → Numbered V → Type 0
  IsBefore x y = (order x.constraint.version y.constraint.version ≡ Less) ⊎ ((order x.constraint.version y.constraint.version ≡ Equal) × (x.number < y.number))

  -- each is before those behind it
  abbrev pub Ranked : List (Numbered V) → Type 0
  Ranked [] = Unit {0}
  Ranked (x ∷ xs) = AllByRecursion (IsBefore x) xs × Ranked xs

  before_by : (x y : Numbered V) (r : Ordering) → order y.constraint.version x.constraint.version ≡ r → is_lt (ordering_then r (nat_cmp y.number x.number)) ≡ false → x.number ≢ y.number → IsBefore x y
  before_by x y Less e not_less other = cc
  before_by x y Greater e not_less other = inl (laws.antisymm x.constraint.version y.constraint.version ∙ ap ordering_reverse e)
  before_by x y Equal e not_less other = elim (cases_lt y.number x.number) [
    | inl less ↦ absurd (let h : is_lt (nat_cmp y.number x.number) ≡ true = grind (arith, nat_tests) in cc)
    | inr most ↦ inr (tied_back laws y.constraint.version x.constraint.version e, omega arith)
  ]

  abbrev pub IsUp : List (Numbered V) → Type 0
  IsUp xs = IsSortedBy (λ x y. is_lt (numbered_cmp order x y)) xs

  up_rest : (x : Numbered V) (xs : List (Numbered V)) → IsUp (x ∷ xs) → IsUp xs
  up_rest x xs up k d low high = simp add-one (simp add-one at (up (suc k) d (omega arith) (omega arith)))

  behind_first : (x : Numbered V) (xs : List (Numbered V)) → IsUp (x ∷ xs) → (y : Numbered V) → Among xs y → is_lt (numbered_cmp order y x) ≡ false
  behind_first x xs up y h =
      let m = contains xs y h in
      let far : is_lt (numbered_cmp order (get_or xs m.0 y) x) ≡ false =
      sorted_far (λ a b. is_lt (numbered_cmp order a b)) (ranks_by numbered_total (λ item. item)) (x ∷ xs) up 0 (suc m.0) y (omega arith) (omega (arith, m.1)) in
      subst (λ z. is_lt (numbered_cmp order z x) ≡ false) m.2 far

  -- what sorting leaves is ranked, where no number stands twice
  pub ranked : (xs : List (Numbered V)) → IsUp xs → Once xs → Ranked xs
  ranked [] up once = tt
  ranked (x ∷ xs) up once = (
    all_members (IsBefore x) xs (λ y h. before_by x y (order y.constraint.version x.constraint.version) refl (behind_first x xs up y h) (other_number x xs y once h)),
    ranked xs (up_rest x xs up) (once_rest x xs once),
  )

  -- ---- the least number behind an order-equal one

  -- the same as `IsTwice`, with members by recursion
  pub record Twice (items : List (Numbered V)) (number : ℕ) : Type 0 where
    pub earlier : Numbered V
    pub later : Numbered V
    pub earlier_in : Among items earlier
    pub later_in : Among items later
    pub below : earlier.number < later.number
    pub equal : order earlier.constraint.version later.constraint.version ≡ Equal
    pub is : later.number ≡ number

  twice_more : (x : Numbered V) (xs : List (Numbered V)) (n : ℕ) → Twice xs n → Twice (x ∷ xs) n
  twice_more x xs n t = record { earlier = t.earlier; later = t.later; earlier_in = inr t.earlier_in; later_in = inr t.later_in; below = t.below; equal = t.equal; is = t.is }

  not_lower : (x y : Numbered V) → IsBefore x y → order y.constraint.version x.constraint.version ≡ Equal → y.number < x.number → ⊥
  not_lower x y (inl less) equal below = let e = tied_back laws y.constraint.version x.constraint.version equal in cc
  not_lower x y (inr h) equal below = omega (arith, h.1)

  -- an item between two order-equal ones is order-equal to both
  between : (p x y : Numbered V) → IsBefore p x → IsBefore x y → order p.constraint.version y.constraint.version ≡ Equal
      → (order p.constraint.version x.constraint.version ≡ Equal) × (order x.constraint.version y.constraint.version ≡ Equal) × (x.number < y.number)
  between p x y (inl less) (inl more) equal = absurd (let l = laws.trans p.constraint.version x.constraint.version y.constraint.version less more in cc)
  between p x y (inl less) (inr h) equal = absurd (let e = alike_right laws x.constraint.version y.constraint.version p.constraint.version h.0 in cc)
  between p x y (inr h) (inl more) equal = absurd (let e = laws.congr p.constraint.version x.constraint.version y.constraint.version h.0 in cc)
  between p x y (inr h) (inr k) equal = (h.0, k.0, k.1)

  -- an item that is twice among some is so next to the first, or behind it
  by_places : (p x : Numbered V) (xs : List (Numbered V)) (n : ℕ) (earlier later : Numbered V) → Ranked (p ∷ x ∷ xs) → Among (p ∷ x ∷ xs) earlier → Among (p ∷ x ∷ xs) later → earlier.number < later.number
      → order earlier.constraint.version later.constraint.version ≡ Equal → later.number ≡ n → ((order p.constraint.version x.constraint.version ≡ Equal) × (n ≡ x.number)) ⊎ Twice (x ∷ xs) n
  by_places p x xs n earlier later up (inl a) (inl b) below equal is = absurd (let e : earlier.number ≡ later.number = ap (λ z. z.number) (sym a ∙ b) in omega arith)
  by_places p x xs n earlier later up (inr a) (inl b) below equal is =
      absurd (not_lower later earlier (subst (λ q. IsBefore q earlier) b (at_member (IsBefore p) (x ∷ xs) earlier up.0 a)) equal below)
  by_places p x xs n earlier later up (inl a) (inr (inl b)) below equal is = inl (
    subst (λ q. order q.constraint.version x.constraint.version ≡ Equal) (sym a) (subst (λ q. order earlier.constraint.version q.constraint.version ≡ Equal) (sym b) equal),
    sym is ∙ sym (ap (λ z. z.number) b),
  )
  by_places p x xs n earlier later up (inl a) (inr (inr b)) below equal is =
      let h = between p x later up.0.0 (at_member (IsBefore x) xs later up.1.0 b) (subst (λ q. order q.constraint.version later.constraint.version ≡ Equal) (sym a) equal) in
      inr (record { earlier = x; later = later; earlier_in = inl refl; later_in = inr b; below = h.2; equal = h.1; is = is })
  by_places p x xs n earlier later up (inr a) (inr b) below equal is = inr (record { earlier = earlier; later = later; earlier_in = a; later_in = b; below = below; equal = equal; is = is })

  next_or_behind : (p x : Numbered V) (xs : List (Numbered V)) (n : ℕ) → Ranked (p ∷ x ∷ xs) → Twice (p ∷ x ∷ xs) n → ((order p.constraint.version x.constraint.version ≡ Equal) × (n ≡ x.number)) ⊎ Twice (x ∷ xs) n
  next_or_behind p x xs n up t = by_places p x xs n t.earlier t.later up t.earlier_in t.later_in t.below t.equal t.is

  not_alone : (p : Numbered V) (n : ℕ) → ¬ (Twice (p ∷ []) n)
  not_alone p n t = one t.earlier_in t.later_in
    where
      one : Among (p ∷ []) t.earlier → Among (p ∷ []) t.later → ⊥
      one (inl a) (inl b) = let e : t.earlier.number ≡ t.later.number = ap (λ z. z.number) (sym a ∙ b) in let below = t.below in omega arith
      one (inl a) (inr b) = b
      one (inr a) b = a

  -- the answer is the least of what was found before and of what is twice
  abbrev pub IsLeast : Option ℕ → List (Numbered V) → Option ℕ → Type 0
  IsLeast before items None = (before ≡ None) × ((n : ℕ) → ¬ (Twice items n))
  IsLeast before items (Some m) = ((before ≡ Some m) ⊎ Twice items m) × ((n : ℕ) → before ≡ Some n → m ≤ n) × ((n : ℕ) → Twice items n → m ≤ n)

  alone_least : (p : Numbered V) (before : Option ℕ) → IsLeast before (p ∷ []) before
  alone_least p None = (refl, not_alone p)
  alone_least p (Some m) = (inl refl, λ n e. let h : m ≡ n = cc in omega arith, λ n t. absurd (not_alone p n t))

  -- an item that is not order-equal to the first
  skip_least : (p x : Numbered V) (xs : List (Numbered V)) (before answer : Option ℕ) → Ranked (p ∷ x ∷ xs) → (order p.constraint.version x.constraint.version ≢ Equal) → IsLeast before (x ∷ xs) answer → IsLeast before (p ∷ x ∷ xs) answer
  skip_least p x xs before answer up other h = by_answer answer h
    where
      behind : (n : ℕ) → Twice (p ∷ x ∷ xs) n → Twice (x ∷ xs) n
      behind n t = elim (next_or_behind p x xs n up t) [ inl e ↦ absurd (other e.0) | inr t ↦ t ]

      by_answer : (answer : Option ℕ) → IsLeast before (x ∷ xs) answer → IsLeast before (p ∷ x ∷ xs) answer
      by_answer None h = (h.0, λ n t. h.1 n (behind n t))
      by_answer (Some m) (inl e, least, all) = (inl e, least, λ n t. all n (behind n t))
      by_answer (Some m) (inr t, least, all) = (inr (twice_more p (x ∷ xs) m t), least, λ n t. all n (behind n t))

  lower_is : (before : Option ℕ) (k : ℕ) → ((before ≡ Some (lower before k)) ⊎ (lower before k ≡ k)) × (lower before k ≤ k) × ((n : ℕ) → before ≡ Some n → lower before k ≤ n)
  lower_is None k = (inr refl, omega arith, λ n e. absurd (cc))
  lower_is (Some a) k = elim (cases_lt a k) [
    | inl less ↦ let t : nat_lt a k ≡ true = lt-ltb a k less in rw t (inl refl, omega arith, λ n e. let h : a ≡ n = cc in omega arith)
    | inr most ↦ let t : nat_lt a k ≡ false = grind (arith, nat_tests) in rw t (inr refl, omega arith, λ n e. let h : a ≡ n = cc in omega arith)
  ]

  -- an item that is order-equal to the first, which is before it
  take_least : (p x : Numbered V) (xs : List (Numbered V)) (before answer : Option ℕ) → Ranked (p ∷ x ∷ xs) → order p.constraint.version x.constraint.version ≡ Equal → IsLeast (Some (lower before x.number)) (x ∷ xs) answer → IsLeast before (p ∷ x ∷ xs) answer
  take_least p x xs before answer up equal h = by_answer answer h
    where
      number_less : IsBefore p x → p.number < x.number
      number_less (inl less) = cc
      number_less (inr h) = h.1

      here : Twice (p ∷ x ∷ xs) x.number
      here = record { earlier = p; later = x; earlier_in = inl refl; later_in = inr (inl refl); below = number_less up.0.0; equal = equal; is = refl }

      least_here : (m : ℕ) → m ≤ lower before x.number → ((n : ℕ) → Twice (x ∷ xs) n → m ≤ n) → (n : ℕ) → Twice (p ∷ x ∷ xs) n → m ≤ n
      least_here m low all n t = elim (next_or_behind p x xs n up t) [ inl e ↦ omega (arith, e.1, (lower_is before x.number).1) | inr t ↦ all n t ]

      by_lower : ((before ≡ Some (lower before x.number)) ⊎ (lower before x.number ≡ x.number)) → (m : ℕ) → lower before x.number ≡ m → (before ≡ Some m) ⊎ Twice (p ∷ x ∷ xs) m
      by_lower (inl e) m is = inl (e ∙ ap Some is)
      by_lower (inr e) m is = inr (subst (Twice (p ∷ x ∷ xs)) (sym e ∙ is) here)

      by_answer : (answer : Option ℕ) → IsLeast (Some (lower before x.number)) (x ∷ xs) answer → IsLeast before (p ∷ x ∷ xs) answer
      by_answer None h = absurd (cc (h.0))
      by_answer (Some m) (inl e, least, all) =
          let is : lower before x.number ≡ m = cc e in
          (by_lower (lower_is before x.number).0 m is, λ n e. omega (arith, is, (lower_is before x.number).2 n e), least_here m (omega arith) all)
      by_answer (Some m) (inr t, least, all) =
          let low : m ≤ lower before x.number = least (lower before x.number) refl in
          (inr (twice_more p (x ∷ xs) m t), λ n e. omega (arith, low, (lower_is before x.number).2 n e), least_here m low all)

  with_first : (p x : Numbered V) (xs : List (Numbered V)) (before : Option ℕ) (r : Ordering) → order p.constraint.version x.constraint.version ≡ r → Ranked (p ∷ x ∷ xs)
      → ((least : Option ℕ) → IsLeast least (x ∷ xs) (least_behind order x least xs)) → IsLeast before (p ∷ x ∷ xs) (least_behind order x (least_next order p x before) xs)
  with_first p x xs before Less e up rest = rw e (skip_least p x xs before (least_behind order x before xs) up (λ q. cc) (rest before))
  with_first p x xs before Equal e up rest = rw e (take_least p x xs before (least_behind order x (Some (lower before x.number)) xs) up e (rest (Some (lower before x.number))))
  with_first p x xs before Greater e up rest = rw e (skip_least p x xs before (least_behind order x before xs) up (λ q. cc) (rest before))

  least_behind_is : (p : Numbered V) (xs : List (Numbered V)) (before : Option ℕ) → Ranked (p ∷ xs) → IsLeast before (p ∷ xs) (least_behind order p before xs)
  least_behind_is p [] before up = alone_least p before
  least_behind_is p (x ∷ xs) before up = with_first p x xs before (order p.constraint.version x.constraint.version) refl up (λ least. least_behind_is x xs least up.1)

  least_twice_is : (items : List (Numbered V)) → Ranked items → IsLeast None items (least_twice order items)
  least_twice_is [] up = (refl, λ n t. t.earlier_in)
  least_twice_is (x ∷ xs) up = least_behind_is x xs None up

  -- ranked items none of which is twice are sorted
  all_below : (p : Numbered V) (xs all : List (Numbered V)) → Among all p → ((y : Numbered V) → Among xs y → Among all y) → AllByRecursion (IsBefore p) xs → ((n : ℕ) → ¬ (Twice all n))
      → AllByRecursion (λ later. order p.constraint.version later.version ≡ Less) (constraints_of xs)
  all_below p [] all here members up none = tt
  all_below p (x ∷ xs) all here members up none = (less up.0, all_below p xs all here (λ y m. members y (inr m)) up.1 none)
    where
      less : IsBefore p x → order p.constraint.version x.constraint.version ≡ Less
      less (inl e) = e
      less (inr h) = absurd (none x.number (record { earlier = p; later = x; earlier_in = here; later_in = members x (inl refl); below = h.1; equal = h.0; is = refl }))

  sorted_apart : (items : List (Numbered V)) → Ranked items → ((n : ℕ) → ¬ (Twice items n)) → IsSorted order (constraints_of items)
  sorted_apart [] up none = tt
  sorted_apart (x ∷ xs) up none = (all_below x xs (x ∷ xs) (inl refl) (λ y m. inr m) up.0 none, sorted_apart xs up.1 (λ n t. none n (twice_more x xs n t)))

  -- ---- back to the items as they stand in the text

  twice_moved : (items sorted : List (Numbered V)) (n : ℕ) → IsPermutation sorted items → Twice sorted n → IsTwice order items n
  twice_moved items sorted n same t = record {
    earlier = t.earlier;
    later = t.later;
    earlier_in = Contains-permutation sorted items t.earlier (same) (contains sorted t.earlier t.earlier_in);
    later_in = Contains-permutation sorted items t.later (same) (contains sorted t.later t.later_in);
    below = t.below;
    equal = t.equal;
    is = t.is;
  }

  twice_back : (items sorted : List (Numbered V)) (n : ℕ) → IsPermutation items sorted → IsTwice order items n → Twice sorted n
  twice_back items sorted n same t = record {
    earlier = t.earlier;
    later = t.later;
    earlier_in = among sorted t.earlier (Contains-permutation items sorted t.earlier same t.earlier_in);
    later_in = among sorted t.later (Contains-permutation items sorted t.later same t.later_in);
    below = t.below;
    equal = t.equal;
    is = t.is;
  }

  once_moved : (items sorted : List (Numbered V)) → IsPermutation items sorted → Once items → Once sorted
  once_moved items sorted same once n = omega (arith, sum_by-IsPermutation (has_number n) items sorted same, once n)

  pub found_least : (items sorted : List (Numbered V)) (n : ℕ) → Once items → IsPermutation items sorted → IsUp sorted → least_twice order sorted ≡ Some n → IsLeastTwice order items n
  found_least items sorted n once same up e =
      let h : IsLeast None sorted (Some n) = subst (IsLeast None sorted) e (least_twice_is sorted (ranked sorted up (once_moved items sorted same once))) in
      record { twice = of h.0; least = λ other t. h.2 other (twice_back items sorted other same t) }
    where
      of : (◌≡◌ {A = Option ℕ} None (Some n) ⊎ Twice sorted n) → IsTwice order items n
      of (inl e) = absurd (cc e)
      of (inr t) = twice_moved items sorted n (IsPermutation-sym items sorted same) t

  pub found_none : (items sorted : List (Numbered V)) → Once items → IsPermutation items sorted → IsUp sorted → least_twice order sorted ≡ None → IsSorted order (constraints_of sorted)
  found_none items sorted once same up e =
      let r = ranked sorted up (once_moved items sorted same once) in
      let h : IsLeast None sorted None = subst (IsLeast None sorted) e (least_twice_is sorted r) in
      sorted_apart sorted r h.1

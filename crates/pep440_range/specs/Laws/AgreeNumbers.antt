-- Releases that begin with numbers: they are at least these numbers, and below them with the last raised by one.
use Rattle.std.proofs.Common.{◌≡◌, ◌+◌, ◌==◌, ◌&&◌, ◌<◌, not, ℕ, Bool, true, false, List, [], ◌∷◌, Ordering, Equal, refl, sym, ap, ◌∙◌, inl, inr, arith}
use Rattle.std.specs.Ordering.{is_eq, is_lt, nat_cmp, ordering_then}
use Rattle.std.proofs.Math.Bool.{and-true}
use Rattle.std.proofs.lemmas.Bool.{cases_order, eq-eqb, ne_eqb}
use Rattle.vx_spec.specs.Rows.{rows_cmp}
use Rattle.pep440_scheme.specs.Version.{Fields}
use Rattle.pep440_scheme.specs.Next.{bumped}
use Rattle.pep440_range.specs.Holds.{begins_with, is_within, release_of, same_numbers, same_release, without_last}
use Rattle.pep440_range.specs.Laws.AgreeOrder.{above, below, from_zero, lt_more, numbers_are, numbers_cmp, same, then_not_below}

-- at least one version and below another, by how it compares with them
abbrev pub from_to : Ordering → Ordering → Bool
from_to low high = not (is_lt low) && is_lt high

-- how releases compare
abbrev releases : List ℕ → List ℕ → Ordering
releases = rows_cmp nat_cmp 0

equal_sides : (m n : ℕ) → (m == n) ≡ (n == m)
equal_sides m n = elim (cases_order m n) [
  | inl e ↦ eq-eqb m n e ∙ sym (eq-eqb n m (sym e))
  | inr (inl lt) ↦ ne_eqb m n (λ e. omega (arith, lt, e)) ∙ sym (ne_eqb n m (λ e. omega (arith, lt, e)))
  | inr (inr gt) ↦ ne_eqb m n (λ e. omega (arith, gt, e)) ∙ sym (ne_eqb n m (λ e. omega (arith, gt, e)))
]

-- the last number is the same: at least it, and below the next one
last_step : (m n : ℕ) (rest : Ordering) → is_lt rest ≡ false
    → (m == n) ≡ from_to (ordering_then (nat_cmp m n) rest) (ordering_then (nat_cmp m (n + 1)) rest)
last_step m n rest not_lower = elim (cases_order m n) [
  | inl e ↦ let less : m < n + 1 = omega (arith, e) in rw (same m n e, eq-eqb m n e, below m (n + 1) less, not_lower) refl
  | inr (inl lt) ↦ rw (below m n lt, ne_eqb m n (λ e. omega (arith, lt, e))) refl
  | inr (inr gt) ↦ rw (above m n gt, ne_eqb m n (λ e. omega (arith, gt, e))) (elim (cases_order m (n + 1)) [
    | inl e ↦ rw (same m (n + 1) e, not_lower) refl
    | inr (inl lt) ↦ absurd (omega (arith, gt, lt))
    | inr (inr more) ↦ rw (above m (n + 1) more) refl
  ])
]

-- a number in front is the same
front_step : (m n : ℕ) (test : Bool) (low high : Ordering) → test ≡ from_to low high
    → ((m == n) && test) ≡ from_to (ordering_then (nat_cmp m n) low) (ordering_then (nat_cmp m n) high)
front_step m n test low high e = elim (cases_order m n) [
  | inl same' ↦ rw (same m n same', eq-eqb m n same') e
  | inr (inl lt) ↦ rw (below m n lt, ne_eqb m n (λ e. omega (arith, lt, e))) refl
  | inr (inr gt) ↦ rw (above m n gt, ne_eqb m n (λ e. omega (arith, gt, e))) refl
]

-- nothing is below no numbers
pub some_numbers : (ys : List ℕ) → is_lt (releases ys []) ≡ false
some_numbers [] = refl
some_numbers (m ∷ ys) = then_not_below (nat_cmp m 0) (releases ys []) (from_zero m) (some_numbers ys)

begins_is : (n : ℕ) (xs ys : List ℕ) → begins_with (n ∷ xs) ys ≡ from_to (releases ys (n ∷ xs)) (releases ys (bumped (n ∷ xs)))
begins_is n [] [] = and-true (n == 0) ∙ equal_sides n 0 ∙ last_step 0 n Equal refl
begins_is n [] (m ∷ ys) = and-true (m == n) ∙ last_step m n (releases ys []) (some_numbers ys)
begins_is n (k ∷ xs) [] =
    ap (λ (b : Bool). b && begins_with (k ∷ xs) []) (equal_sides n 0)
    ∙ front_step 0 n (begins_with (k ∷ xs) []) (releases [] (k ∷ xs)) (releases [] (bumped (k ∷ xs))) (begins_is k xs [])
begins_is n (k ∷ xs) (m ∷ ys) =
    front_step m n (begins_with (k ∷ xs) ys) (releases ys (k ∷ xs)) (releases ys (bumped (k ∷ xs))) (begins_is k xs ys)

pub within_is : (v : Fields) (epoch n : ℕ) (xs : List ℕ)
    → is_within (release_of epoch (n ∷ xs)) v
    ≡ from_to (numbers_cmp v.epoch v.release epoch (n ∷ xs)) (numbers_cmp v.epoch v.release epoch (bumped (n ∷ xs)))
within_is v epoch n xs =
    rw (numbers_are v.epoch v.release epoch (n ∷ xs), numbers_are v.epoch v.release epoch (bumped (n ∷ xs)))
    (front_step v.epoch epoch (begins_with (n ∷ xs) v.release) (releases v.release (n ∷ xs)) (releases v.release (bumped (n ∷ xs)))
    (begins_is n xs v.release))

-- what is below the front of numbers is below the numbers
below_front : (xs ys : List ℕ) → is_lt (releases ys (without_last xs)) ≡ true → is_lt (releases ys xs) ≡ true
below_front [] ys lt = lt
below_front (n ∷ []) ys lt = absurd (cc (lt, some_numbers ys))
below_front (n ∷ m ∷ xs) [] lt =
    lt_more (nat_cmp 0 n) (releases [] (without_last (m ∷ xs))) (releases [] (m ∷ xs)) (below_front (m ∷ xs) []) lt
below_front (n ∷ m ∷ xs) (k ∷ ys) lt =
    lt_more (nat_cmp k n) (releases ys (without_last (m ∷ xs))) (releases ys (m ∷ xs)) (below_front (m ∷ xs) ys) lt

pub below_prefix : (v : Fields) (epoch : ℕ) (xs : List ℕ) → is_lt (numbers_cmp v.epoch v.release epoch (without_last xs)) ≡ true
    → is_lt (numbers_cmp v.epoch v.release epoch xs) ≡ true
below_prefix v epoch xs lt =
    ap is_lt (numbers_are v.epoch v.release epoch xs)
    ∙ lt_more (nat_cmp v.epoch epoch) (releases v.release (without_last xs)) (releases v.release xs) (below_front xs v.release)
    (ap is_lt (sym (numbers_are v.epoch v.release epoch (without_last xs))) ∙ lt)

-- releases that are equal with the zeros at their ends ignored
same_step : (n m : ℕ) (test : Bool) (rest : Ordering) → test ≡ is_eq rest → ((n == m) && test) ≡ is_eq (ordering_then (nat_cmp m n) rest)
same_step n m test rest e = elim (cases_order m n) [
  | inl same' ↦ rw (same m n same', eq-eqb n m (sym same')) e
  | inr (inl lt) ↦ rw (below m n lt, ne_eqb n m (λ e. omega (arith, lt, e))) refl
  | inr (inr gt) ↦ rw (above m n gt, ne_eqb n m (λ e. omega (arith, gt, e))) refl
]

same_numbers_is : (xs ys : List ℕ) → same_numbers xs ys ≡ is_eq (releases ys xs)
same_numbers_is [] [] = refl
same_numbers_is [] (m ∷ ys) =
    ap (λ (b : Bool). b && same_numbers [] ys) (equal_sides m 0)
    ∙ same_step 0 m (same_numbers [] ys) (releases ys []) (same_numbers_is [] ys)
same_numbers_is (n ∷ xs) [] = same_step n 0 (same_numbers xs []) (releases [] xs) (same_numbers_is xs [])
same_numbers_is (n ∷ xs) (m ∷ ys) = same_step n m (same_numbers xs ys) (releases ys xs) (same_numbers_is xs ys)

pub same_release_is : (bound v : Fields) → same_release bound v ≡ is_eq (numbers_cmp v.epoch v.release bound.epoch bound.release)
same_release_is bound v =
    same_step bound.epoch v.epoch (same_numbers bound.release v.release) (releases v.release bound.release)
    (same_numbers_is bound.release v.release)
    ∙ ap is_eq (sym (numbers_are v.epoch v.release bound.epoch bound.release))

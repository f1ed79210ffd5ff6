-- Rows compared place by place are compared as lists that are continued without end.
use Rattle.std.proofs.Common.{◌≡◌, ◌≢◌, ◌<◌, ◌≤◌, ◌+◌, ◌-◌, ℕ, zero, suc, true, false, List, [], ◌∷◌, length, map, Ordering, Less, Equal, Greater, refl, sym, ap, ◌∙◌, arith, add-zero}
use Rattle.std.specs.Cmp.{nat_cmp_is, ranks}
use Rattle.std.specs.Cmp.Lexicographic.{slice_cmp}
use Rattle.std.specs.Ordering.{nat_cmp, ordering_then, is_ne, MatchOrdering}
use Rattle.vx_spec.specs.Places.{endless}
use Rattle.vx_spec.specs.Rows.{rows_cmp}
use Rattle.vx_order.specs.Places.{first_difference}

module _ {K : Type 0} (cmp : K → K → Ordering) (end : K) (same : cmp end end ≡ Equal) where
  -- as many places as either list has entries decide
  pub rows_by_places : (n : ℕ) (xs ys : List K) → length xs ≤ n → length ys ≤ n
      → first_difference n (λ i. cmp (endless end xs i) (endless end ys i)) ≡ rows_cmp cmp end xs ys
  rows_by_places zero [] [] p q = refl
  rows_by_places zero [] (y ∷ ys) p q = absurd (omega (arith, q))
  rows_by_places zero (x ∷ xs) ys p q = absurd (omega (arith, p))
  rows_by_places (suc n) [] [] p q = ap (λ r. ordering_then r (first_difference n (λ i. cmp end end))) same ∙ rows_by_places n [] [] (omega arith) (omega arith)
  rows_by_places (suc n) [] (y ∷ ys) p q = ap (ordering_then (cmp end y)) (rows_by_places n [] ys (omega arith) (omega (arith, q)))
  rows_by_places (suc n) (x ∷ xs) [] p q = ap (ordering_then (cmp x end)) (rows_by_places n xs [] (omega (arith, p)) (omega arith))
  rows_by_places (suc n) (x ∷ xs) (y ∷ ys) p q = ap (ordering_then (cmp x y)) (rows_by_places n xs ys (omega (arith, p)) (omega (arith, q)))

-- ---- the loop over the places

one_later : (i k : ℕ) → i + suc k ≡ i + 1 + k
one_later i k = omega arith

-- the place that is looked at, and those behind it
pub from_here : (count i : ℕ) (at : ℕ → Ordering) → i < count
    → first_difference (count - i) (λ k. at (i + k)) ≡ ordering_then (at i) (first_difference (count - (i + 1)) (λ k. at (i + 1 + k)))
from_here count i at less =
    let size : count - i ≡ suc (count - (i + 1)) = omega (arith, less) in
    ap (λ n. first_difference n (λ k. at (i + k))) size
    ∙ ap (λ j. ordering_then (at j) (first_difference (count - (i + 1)) (λ k. at (i + suc k)))) (add-zero i)
    ∙ ap (λ (f : ℕ → Ordering). ordering_then (at i) (first_difference (count - (i + 1)) f)) (λ j k. at (one_later i k j))

-- a row from which no place is left says nothing
pub none_left : (count i : ℕ) (at : ℕ → Ordering) → count ≤ i → first_difference (count - i) (λ k. at (i + k)) ≡ Equal
none_left count i at less = let size : count - i ≡ 0 = omega (arith, less) in ap (λ n. first_difference n (λ k. at (i + k))) size

-- ---- texts

-- one more on both sides
shifted : (a b : ℕ) (r : Ordering) → MatchOrdering r (a < b) (a ≡ b) (b < a) → MatchOrdering r (suc a < suc b) (suc a ≡ suc b) (suc b < suc a)
shifted a b Less h = omega arith
shifted a b Equal h = omega arith
shifted a b Greater h = omega arith

-- two numbers compare as their successors do
both_more : (a b : ℕ) → nat_cmp (suc a) (suc b) ≡ nat_cmp a b
both_more a b = sym (nat_cmp_is (suc a) (suc b) (nat_cmp a b) (shifted a b (nat_cmp a b) (ranks a b)))

-- a text whose bytes are raised by one, so that 0 is below them, compares as the text does
pub raised : (xs ys : List ℕ) → rows_cmp nat_cmp 0 (map suc xs) (map suc ys) ≡ slice_cmp nat_cmp xs ys
raised [] [] = refl
raised [] (y ∷ ys) = ap (λ r. ordering_then r (rows_cmp nat_cmp 0 [] (map suc ys))) (sym (nat_cmp_is 0 (suc y) Less (omega arith)))
raised (x ∷ xs) [] = ap (λ r. ordering_then r (rows_cmp nat_cmp 0 (map suc xs) [])) (sym (nat_cmp_is (suc x) 0 Greater (omega arith)))
raised (x ∷ xs) (y ∷ ys) = rw (both_more x y) (ap (ordering_then (nat_cmp x y)) (raised xs ys))

pub is_other : (answer : Ordering) → true ≡ is_ne answer → answer ≢ Equal
is_other Less e is = cc is
is_other Equal e is = cc e
is_other Greater e is = cc is

pub is_same : (answer : Ordering) → false ≡ is_ne answer → answer ≡ Equal
is_same Less e = cc e
is_same Equal e = refl
is_same Greater e = cc e

stopped : (answer rest : Ordering) → answer ≢ Equal → answer ≡ ordering_then answer rest
stopped Less rest differs = refl
stopped Equal rest differs = absurd (differs refl)
stopped Greater rest differs = refl

-- the first place that says something decides,
pub decided : (count i : ℕ) (at : ℕ → Ordering) (answer : Ordering) → i < count → answer ≡ at i → answer ≢ Equal
    → first_difference (count - i) (λ k. at (i + k)) ≡ first_difference count at → answer ≡ first_difference count at
decided count i at answer less is differs left = stopped answer (first_difference (count - (i + 1)) (λ k. at (i + 1 + k))) differs ∙ ap (λ r. ordering_then r (first_difference (count - (i + 1)) (λ k. at (i + 1 + k)))) is ∙ sym (from_here count i at less) ∙ left

-- and one that says nothing leaves it to the others
pub passed : (count i : ℕ) (at : ℕ → Ordering) → i < count → at i ≡ Equal
    → first_difference (count - i) (λ k. at (i + k)) ≡ first_difference count at
    → first_difference (count - (i + 1)) (λ k. at (i + 1 + k)) ≡ first_difference count at
passed count i at less is left = ap (λ r. ordering_then r (first_difference (count - (i + 1)) (λ k. at (i + 1 + k)))) (sym is) ∙ sym (from_here count i at less) ∙ left

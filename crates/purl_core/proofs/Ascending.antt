-- Ascending pairs, with one more at the end or one fewer.
use Rattle.std.proofs.Common.{◌≡◌, ◌++◌, ℕ, List, [], ◌∷◌, map, refl, ap, sym, subst, ◌∙◌, Result, Ok, Err, OnOk, OnErr, Option, Some, None, MatchOption, Less}
use Rattle.std.specs.List.{AllByRecursion}
use Rattle.std.specs.Ordering.{nat_cmp}
use Rattle.std.specs.Cmp.Lexicographic.{slice_cmp}
use Rattle.std.proofs.lemmas.Cmp.{nat_list_cmp_total}
use Rattle.std.proofs.lemmas.List.{map-append}
use Rattle.purl_core.specs.declared.value.Pair.{Pair}
use Rattle.purl_core.specs.Value.{Ascending, IsAboveLast, pair_view}

all_append : (P : List ℕ × List ℕ → Type 0) (xs ys : List (List ℕ × List ℕ)) → AllByRecursion P xs → AllByRecursion P ys → AllByRecursion P (xs ++ ys)
all_append P [] ys p q = q
all_append P (x ∷ xs) ys p q = (p.0, all_append P xs ys p.1 q)

all_front : (P : List ℕ × List ℕ → Type 0) (xs ys : List (List ℕ × List ℕ)) → AllByRecursion P (xs ++ ys) → AllByRecursion P xs
all_front P [] ys all = tt
all_front P (x ∷ xs) ys all = (all.0, all_front P xs ys all.1)

-- each key is below one that is above the last
pub all_below : (xs : List (List ℕ × List ℕ)) (key : List ℕ) → Ascending xs → IsAboveLast xs key → AllByRecursion (λ (y : List ℕ × List ℕ). slice_cmp nat_cmp y.0 key ≡ Less) xs
all_below [] key up above = tt
all_below (x ∷ []) key up above = (above [] x refl, tt)
all_below (x ∷ y ∷ ys) key up above =
    let rest = all_below (y ∷ ys) key up.1 (λ front last e. above (x ∷ front) last (ap (λ (l : List (List ℕ × List ℕ)). x ∷ l) e)) in
    (nat_list_cmp_total.trans x.0 y.0 key up.0.0 rest.0, rest)

more : (xs : List (List ℕ × List ℕ)) (x : List ℕ × List ℕ) → Ascending xs → AllByRecursion (λ (y : List ℕ × List ℕ). slice_cmp nat_cmp y.0 x.0 ≡ Less) xs → Ascending (xs ++ x ∷ [])
more [] x up below = (tt, tt)
more (y ∷ ys) x up below = (all_append (λ (z : List ℕ × List ℕ). slice_cmp nat_cmp y.0 z.0 ≡ Less) ys (x ∷ []) up.0 (below.0, tt), more ys x up.1 below.1)

pub ascending_front : (xs ys : List (List ℕ × List ℕ)) → Ascending (xs ++ ys) → Ascending xs
ascending_front [] ys up = tt
ascending_front (x ∷ xs) ys up = (all_front (λ (z : List ℕ × List ℕ). slice_cmp nat_cmp x.0 z.0 ≡ Less) xs ys up.0, ascending_front xs ys up.1)

pub ascending_push : {U E : Type 0} (r : Result U E) (old new : List Pair) (pair : Pair) → OnOk r (new ≡ old ++ pair ∷ []) → OnErr r (new ≡ old)
    → Ascending (map pair_view old) → IsAboveLast (map pair_view old) pair.key → Ascending (map pair_view new)
ascending_push (Ok u) old new pair ok err up above =
    rw (ok, map-append pair_view old (pair ∷ [])) (more (map pair_view old) (pair_view pair) up (all_below (map pair_view old) pair.key up above))
ascending_push (Err e) old new pair ok err up above = rw err up

pub ascending_pop : (r : Option Pair) (old new : List Pair) → MatchOption r ((old ≡ []) × (new ≡ [])) (λ last. old ≡ new ++ last ∷ []) → Ascending (map pair_view old)
    → Ascending (map pair_view new)
ascending_pop None old new is up = rw (is.1) tt
ascending_pop (Some last) old new is up =
    ascending_front (map pair_view new) (pair_view last ∷ []) (subst Ascending (ap (map pair_view) is ∙ map-append pair_view new (last ∷ [])) up)

-- a key behind ascending pairs is above the last of them
above_seam : (xs : List (List ℕ × List ℕ)) (x : List ℕ × List ℕ) (ys : List (List ℕ × List ℕ)) → Ascending (xs ++ x ∷ ys) → IsAboveLast xs x.0
above_seam xs x ys up front last e = go front (subst (λ (l : List (List ℕ × List ℕ)). Ascending (l ++ x ∷ ys)) e up) where
  go : (front : List (List ℕ × List ℕ)) → Ascending ((front ++ last ∷ []) ++ x ∷ ys) → slice_cmp nat_cmp last.0 x.0 ≡ Less
  go [] up = up.0.0
  go (f ∷ front) up = go front up.1

-- the key of the next of ascending pairs is above the last of those taken
pub above_taken : (taken : List (List ℕ × List ℕ)) (x : List ℕ × List ℕ) (rest left all : List (List ℕ × List ℕ)) → taken ++ left ≡ all → left ≡ x ∷ rest → Ascending all
    → IsAboveLast taken x.0
above_taken taken x rest left all joined next up =
    above_seam taken x rest (subst Ascending (sym joined ∙ ap (λ (l : List (List ℕ × List ℕ)). taken ++ l) next) up)

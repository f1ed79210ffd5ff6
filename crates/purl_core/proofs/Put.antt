-- Putting a pair with a new key into ascending pairs keeps them ascending, and adds that pair.
use Rattle.std.proofs.Common.{◌≡◌, ◌≢◌, ◌++◌, ◌↔◌, ℕ, suc, ◌+◌, ◌-◌, true, false, List, [], ◌∷◌, length, map, get_or, take, drop, refl, sym, ap, subst, ◌∙◌, inl, inr, Less, Equal, Greater, Ordering, arith}
use Rattle.std.specs.List.{AllByRecursion, prefix_len}
use Rattle.std.specs.Ordering.{nat_cmp, is_lt, ordering_reverse}
use Rattle.std.specs.Cmp.Lexicographic.{slice_cmp}
use Rattle.std.specs.Cmp.{tied_itself}
use Rattle.std.proofs.lemmas.Bool.{cases_Bool, false≢true}
use Rattle.std.proofs.lemmas.Cmp.{nat_list_cmp_total}
use Rattle.std.proofs.lemmas.Map.Lookups.{exact_bytes}
use Rattle.purl_core.specs.declared.value.Pair.{Pair}
use Rattle.purl_core.specs.Value.{Ascending, IsAboveLast, pair_view}
use Rattle.purl_core.specs.Spelling.{Member, SameMap}
use Rattle.purl_core.specs.Places.{HasKey}
use Rattle.purl_core.specs.Steps.Pairing.{PutsPair, is_before, put}
use Rattle.purl_core.proofs.Ascending.{all_below}

less_if : (o : Ordering) → is_lt o ≡ true → o ≡ Less
less_if Less e = refl
less_if Equal e = absurd (false≢true e)
less_if Greater e = absurd (false≢true e)

-- of two keys that differ, one stands before the other
turned : (a b : List ℕ) → is_before a b ≡ false → a ≢ b → slice_cmp nat_cmp b a ≡ Less
turned a b out other = go (slice_cmp nat_cmp a b) refl where
  go : (o : Ordering) → slice_cmp nat_cmp a b ≡ o → slice_cmp nat_cmp b a ≡ Less
  go Less e = absurd (false≢true (sym out ∙ ap is_lt e))
  go Equal e = absurd (other (exact_bytes a b e))
  go Greater e = nat_list_cmp_total.antisymm b a ∙ ap ordering_reverse e

all_after : (a : List ℕ) (y : List ℕ × List ℕ) (ys : List (List ℕ × List ℕ)) → slice_cmp nat_cmp a y.0 ≡ Less
    → AllByRecursion (λ (z : List ℕ × List ℕ). slice_cmp nat_cmp y.0 z.0 ≡ Less) ys → AllByRecursion (λ (z : List ℕ × List ℕ). slice_cmp nat_cmp a z.0 ≡ Less) ys
all_after a y [] less all = tt
all_after a y (z ∷ zs) less all = (nat_list_cmp_total.trans a y.0 z.0 less all.0, all_after a y zs less all.1)

all_put : (P : List ℕ × List ℕ → Type 0) (x : List ℕ × List ℕ) (ys : List (List ℕ × List ℕ)) → P x → AllByRecursion P ys → AllByRecursion P (put x ys)
all_put P x [] p all = (p, tt)
all_put P x (y ∷ ys) p all = elim (cases_Bool (is_before y.0 x.0)) [
  | inl is ↦ rw is (all.0, all_put P x ys p all.1)
  | inr out ↦ rw out (p, all)
]

pub put_ascending : (x : List ℕ × List ℕ) (ys : List (List ℕ × List ℕ)) → Ascending ys → AllByRecursion (λ (y : List ℕ × List ℕ). x.0 ≢ y.0) ys → Ascending (put x ys)
put_ascending x [] up new = (tt, tt)
put_ascending x (y ∷ ys) up new = elim (cases_Bool (is_before y.0 x.0)) [
  | inl is ↦ rw is (all_put (λ (z : List ℕ × List ℕ). slice_cmp nat_cmp y.0 z.0 ≡ Less) x ys (less_if _ is) up.0, put_ascending x ys up.1 new.1)
  | inr out ↦ let less = turned y.0 x.0 out (λ e. new.0 (sym e)) in rw out ((less, all_after x.0 y ys less up.0), up)
]

forth : (x y z : List ℕ × List ℕ) (ys zs : List (List ℕ × List ℕ)) → (Member z zs ↔ Member z (x ∷ ys)) → Member z (y ∷ zs) → Member z (x ∷ y ∷ ys)
forth x y z ys zs inner (inl e) = inr (inl e)
forth x y z ys zs inner (inr m) = swap x y z ys (inner.0 m) where
  swap : (x y z : List ℕ × List ℕ) (ys : List (List ℕ × List ℕ)) → Member z (x ∷ ys) → Member z (x ∷ y ∷ ys)
  swap x y z ys (inl e) = inl e
  swap x y z ys (inr n) = inr (inr n)

back : (x y z : List ℕ × List ℕ) (ys zs : List (List ℕ × List ℕ)) → (Member z zs ↔ Member z (x ∷ ys)) → Member z (x ∷ y ∷ ys) → Member z (y ∷ zs)
back x y z ys zs inner (inl e) = inr (inner.1 (inl e))
back x y z ys zs inner (inr (inl e)) = inl e
back x y z ys zs inner (inr (inr m)) = inr (inner.1 (inr m))

pub put_same : (x : List ℕ × List ℕ) (ys : List (List ℕ × List ℕ)) → SameMap (put x ys) (x ∷ ys)
put_same x [] z = ((λ m. m), (λ m. m))
put_same x (y ∷ ys) z = elim (cases_Bool (is_before y.0 x.0)) [
  | inl is ↦ rw is ((λ m. forth x y z ys (put x ys) (put_same x ys z) m), (λ m. back x y z ys (put x ys) (put_same x ys z) m))
  | inr out ↦ rw out ((λ m. m), (λ m. m))
]

add_one : (n : ℕ) → 1 + n ≡ suc n
add_one n = omega arith

-- it stands behind the keys that stand before its own
pub put_at : (x : List ℕ × List ℕ) (ys : List (List ℕ × List ℕ))
    → put x ys ≡ take (prefix_len (λ (y : List ℕ × List ℕ). is_before y.0 x.0) ys) ys ++ x ∷ drop (prefix_len (λ (y : List ℕ × List ℕ). is_before y.0 x.0) ys) ys
put_at x [] = refl
put_at x (y ∷ ys) = elim (cases_Bool (is_before y.0 x.0)) [
  | inl is ↦ rw (is, add_one (prefix_len (λ (y : List ℕ × List ℕ). is_before y.0 x.0) ys)) (ap (λ (r : List (List ℕ × List ℕ)). y ∷ r) (put_at x ys))
  | inr out ↦ rw out refl
]

-- ---- a pair whose key is above the others

put_last : (x : List ℕ × List ℕ) (ys : List (List ℕ × List ℕ)) → AllByRecursion (λ (y : List ℕ × List ℕ). slice_cmp nat_cmp y.0 x.0 ≡ Less) ys → put x ys ≡ ys ++ x ∷ []
put_last x [] below = refl
put_last x (y ∷ ys) below = let is : is_before y.0 x.0 ≡ true = ap is_lt below.0 in rw is (ap (λ (l : List (List ℕ × List ℕ)). y ∷ l) (put_last x ys below.1))

not_among : (key : List ℕ) (ys : List (List ℕ × List ℕ)) → AllByRecursion (λ (y : List ℕ × List ℕ). slice_cmp nat_cmp y.0 key ≡ Less) ys → ¬ (HasKey key ys)
not_among key [] below h = h
not_among key (y ∷ ys) below (inl e) =
    let q : Equal ≡ Less = sym (tied_itself nat_list_cmp_total key) ∙ subst (λ (k : List ℕ). slice_cmp nat_cmp k key ≡ Less) (sym e) below.0 in
    cc (q)
not_among key (y ∷ ys) below (inr h) = not_among key ys below.1 h

pub puts_last : (pairs : List (List ℕ × List ℕ)) (x : List ℕ × List ℕ) → Ascending pairs → IsAboveLast pairs x.0 → PutsPair pairs (pairs ++ x ∷ []) x false
puts_last pairs x up above = let below = all_below pairs x.0 up above in (not_among x.0 pairs below, sym (put_last x pairs below))

no_end : (front : List (List ℕ × List ℕ)) (x : List ℕ × List ℕ) → [] ≡ front ++ x ∷ [] → ⊥
no_end [] x e = cc (e)
no_end (y ∷ front) x e = cc (e)

one_less : (n : ℕ) → suc (suc n) - 1 ≡ suc (suc n - 1)
one_less n = omega arith

last_pair : (pairs : List Pair) (last : Pair) (front : List (List ℕ × List ℕ)) (x : List ℕ × List ℕ) → last ≡ get_or pairs (length pairs - 1) last
    → map pair_view pairs ≡ front ++ x ∷ [] → pair_view last ≡ x
last_pair [] last front x is e = absurd (no_end front x e)
last_pair (p ∷ []) last [] x is e = let same : pair_view p ≡ x = cc (e) in ap pair_view is ∙ same
last_pair (p ∷ []) last (y ∷ front) x is e = let none : [] ≡ front ++ x ∷ [] = cc (e) in absurd (no_end front x none)
last_pair (p ∷ q ∷ pairs) last [] x is e = cc (e)
last_pair (p ∷ q ∷ pairs) last (y ∷ front) x is e =
    last_pair (q ∷ pairs) last front x (is ∙ ap (λ n. get_or (p ∷ q ∷ pairs) n last) (one_less (length pairs))) (cc (e))

-- a key above that of the last pair
pub above_last : (pairs : List Pair) (last : Pair) (key : List ℕ) → last ≡ get_or pairs (length pairs - 1) last → slice_cmp nat_cmp last.key key ≡ Less
    → IsAboveLast (map pair_view pairs) key
above_last pairs last key is less front x e = subst (λ (y : List ℕ × List ℕ). slice_cmp nat_cmp y.0 key ≡ Less) (last_pair pairs last front x is e) less

pub above_none : (key : List ℕ) → IsAboveLast [] key
above_none key front x e = absurd (no_end front x e)

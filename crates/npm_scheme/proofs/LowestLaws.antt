-- The order against the versions `M.m.p-0` and `M.m.p`, in terms of numbers: `M.m.p-0` is the lowest of all versions
-- with the numbers M, m, p. They hold of numerals of any size.
use Rattle.std.proofs.Common.{◌≡◌, ◌==◌, ◌&&◌, ◌||◌, not, nat_lt, cond, ℕ, zero, suc, Bool, true, false, List, [], ◌∷◌, map, refl, sym, ap, ◌∙◌, arith}
use Rattle.std.proofs.Math.Bool.{and-false, or-false}
use Rattle.std.proofs.lemmas.Bool.{le-ltb, eq-eqb}
use Rattle.std.specs.Cmp.{nat_cmp_is}
use Rattle.std.specs.Ordering.{ordering_then, ordering_reverse, is_lt, is_gt}
use Rattle.std.specs.declared.cmp.Ordering.{Ordering}
use Rattle.std.specs.declared.cmp.Ordering.TheVariants.{Less, Equal, Greater}
use Rattle.vx_spec.specs.Rows.{rows_cmp}
use Rattle.vx_scheme.specs.Cuts.{stands_below}
use Rattle.vx_scheme.specs.declared.ident.Ident.{Ident}
use Rattle.vx_scheme.specs.declared.ident.Ident.TheVariants.{Number, Word}
use Rattle.vx_order.specs.Idents.{entry, entry_cmp}
use Rattle.npm_scheme.specs.Order.{pre_rule, pre_key, order_of, order_total}
use Rattle.npm_scheme.specs.Version.{Fields, lowest_of, release_of}

-- the three numbers of the version are below M, m, p, place by place from the left
abbrev pub numbers_below : Fields → ℕ → ℕ → ℕ → Bool
numbers_below v major minor patch =
    nat_lt v.major major || ((v.major == major) && (nat_lt v.minor minor || ((v.minor == minor) && nat_lt v.patch patch)))

-- they are M, m, p
abbrev pub numbers_same : Fields → ℕ → ℕ → ℕ → Bool
numbers_same v major minor patch = (v.major == major) && ((v.minor == minor) && (v.patch == patch))

-- M, m, p are below them, place by place from the left
abbrev pub numbers_above : Fields → ℕ → ℕ → ℕ → Bool
numbers_above v major minor patch = numbers_below (release_of major minor patch) v.major v.minor v.patch

-- there are pre-release identifiers
abbrev pub has_pre : List Ident → Bool
has_pre [] = false
has_pre (ident ∷ pre) = true

-- how two pre-releases compare
abbrev pub pre_cmp : List Ident → List Ident → Ordering
pre_cmp a b = rows_cmp entry_cmp [] (pre_key a) (pre_key b)

-- two numbers, then the rest
first_number : (less same : Bool) (rest : Ordering) → is_lt (ordering_then (ordering_then (cond less Less (cond same Equal Greater)) Equal) rest) ≡ (less || (same && is_lt rest))
first_number true same rest = refl
first_number false true rest = refl
first_number false false rest = refl

-- A version is below another where its numbers are, or where they are the same and its pre-release is below.
pub is_lt-order_of : (a b : Fields) → is_lt (order_of a b)
    ≡ (nat_lt a.major b.major || ((a.major == b.major) && (nat_lt a.minor b.minor || ((a.minor == b.minor) && (nat_lt a.patch b.patch || ((a.patch == b.patch) && is_lt (pre_cmp a.pre b.pre)))))))
is_lt-order_of a b =
    first_number (nat_lt a.major b.major) (a.major == b.major) _
    ∙ ap (λ r. nat_lt a.major b.major || ((a.major == b.major) && r))
    (first_number (nat_lt a.minor b.minor) (a.minor == b.minor) _
    ∙ ap (λ r. nat_lt a.minor b.minor || ((a.minor == b.minor) && r)) (first_number (nat_lt a.patch b.patch) (a.patch == b.patch) _))

reversed : (r : Ordering) → is_gt (ordering_reverse r) ≡ is_lt r
reversed Less = refl
reversed Equal = refl
reversed Greater = refl

-- above is below, the other way round
pub is_gt-order_of : (a b : Fields) → is_gt (order_of a b) ≡ is_lt (order_of b a)
is_gt-order_of a b = ap is_gt (order_total.antisymm a b) ∙ reversed (order_of b a)

before_cut : (r : Ordering) → stands_below r false ≡ not (is_gt r)
before_cut Less = refl
before_cut Equal = refl
before_cut Greater = refl

after_cut : (r : Ordering) → stands_below r true ≡ is_lt r
after_cut Less = refl
after_cut Equal = refl
after_cut Greater = refl

-- nothing is below the end
not_below_end : (pre : List Ident) → is_lt (rows_cmp entry_cmp [] (map (entry pre_rule) pre) []) ≡ false
not_below_end [] = refl
not_below_end (Number n ∷ pre) = refl
not_below_end (Word w ∷ pre) = refl

-- no pre-release is below `0`
not_below_zero : (pre : List Ident) → is_lt (pre_cmp pre (Number 0 ∷ [])) ≡ false
not_below_zero [] = refl
not_below_zero (Number zero ∷ pre) = not_below_end pre
not_below_zero (Number (suc n) ∷ pre) = rw (sym (nat_cmp_is (suc n) 0 Greater (omega arith))) refl
not_below_zero (Word w ∷ pre) = refl

-- every pre-release is below none
below_none : (pre : List Ident) → is_lt (pre_cmp pre []) ≡ has_pre pre
below_none [] = refl
below_none (Number n ∷ pre) = refl
below_none (Word w ∷ pre) = refl

none_below : (pre : List Ident) → is_lt (pre_cmp [] pre) ≡ false
none_below [] = refl
none_below (Number n ∷ pre) = refl
none_below (Word w ∷ pre) = refl

-- the numbers decide, where the pre-releases do not
by_numbers : (a b : Fields) → is_lt (pre_cmp a.pre b.pre) ≡ false → is_lt (order_of a b) ≡ numbers_below a b.major b.minor b.patch
by_numbers a b none =
    is_lt-order_of a b
    ∙ ap (λ r. nat_lt a.major b.major || ((a.major == b.major) && (nat_lt a.minor b.minor || ((a.minor == b.minor) && (nat_lt a.patch b.patch || r)))))
    (ap (λ r. (a.patch == b.patch) && r) none ∙ and-false (a.patch == b.patch))
    ∙ ap (λ r. nat_lt a.major b.major || ((a.major == b.major) && (nat_lt a.minor b.minor || ((a.minor == b.minor) && r)))) (or-false (nat_lt a.patch b.patch))

-- A version is below `M.m.p-0` exactly where its numbers are below M, m, p.
pub is_lt-lowest_of : (v : Fields) (major minor patch : ℕ) → is_lt (order_of v (lowest_of major minor patch)) ≡ numbers_below v major minor patch
is_lt-lowest_of v major minor patch = by_numbers v (lowest_of major minor patch) (not_below_zero v.pre)

-- The same, the other way round.
pub is_gt-lowest_of : (v : Fields) (major minor patch : ℕ) → is_gt (order_of (lowest_of major minor patch) v) ≡ numbers_below v major minor patch
is_gt-lowest_of v major minor patch = is_gt-order_of (lowest_of major minor patch) v ∙ is_lt-lowest_of v major minor patch

-- The cut before `M.m.p-0` stands below the versions whose numbers are not below M, m, p.
pub cut_before_lowest_of : (v : Fields) (major minor patch : ℕ) → stands_below (order_of (lowest_of major minor patch) v) false ≡ not (numbers_below v major minor patch)
cut_before_lowest_of v major minor patch = before_cut (order_of (lowest_of major minor patch) v) ∙ ap not (is_gt-lowest_of v major minor patch)

same_not_below : (v : Fields) → numbers_below v v.major v.minor v.patch ≡ false
same_not_below v = rw (le-ltb v.major v.major (omega arith), eq-eqb v.major v.major refl, le-ltb v.minor v.minor (omega arith), eq-eqb v.minor v.minor refl, le-ltb v.patch v.patch (omega arith)) refl

-- `M.m.p-0` is at most every version with the numbers M, m, p.
pub lowest_of_at_most : (v : Fields) → is_gt (order_of (lowest_of v.major v.minor v.patch) v) ≡ false
lowest_of_at_most v = is_gt-lowest_of v v.major v.minor v.patch ∙ same_not_below v

-- A version is below `M.m.p` exactly where its numbers are, or where they are M, m, p and it has a pre-release.
pub is_lt-release_of : (v : Fields) (major minor patch : ℕ) → is_lt (order_of v (release_of major minor patch))
    ≡ (numbers_below v major minor patch || (numbers_same v major minor patch && has_pre v.pre))
is_lt-release_of v major minor patch =
    is_lt-order_of v (release_of major minor patch)
    ∙ ap (λ r. nat_lt v.major major || ((v.major == major) && (nat_lt v.minor minor || ((v.minor == minor) && (nat_lt v.patch patch || ((v.patch == patch) && r)))))) (below_none v.pre)
    ∙ regrouped (nat_lt v.major major) (v.major == major) (nat_lt v.minor minor) (v.minor == minor) (nat_lt v.patch patch) (v.patch == patch) (has_pre v.pre)
  where
    regrouped : (a b c d e f g : Bool) → (a || (b && (c || (d && (e || (f && g)))))) ≡ ((a || (b && (c || (d && e)))) || ((b && (d && f)) && g))
    regrouped true b c d e f g = refl
    regrouped false false c d e f g = refl
    regrouped false true true d e f g = refl
    regrouped false true false false e f g = refl
    regrouped false true false true true f g = refl
    regrouped false true false true false f g = refl

-- It is above `M.m.p` exactly where its numbers are.
pub is_gt-release_of : (v : Fields) (major minor patch : ℕ) → is_gt (order_of v (release_of major minor patch)) ≡ numbers_above v major minor patch
is_gt-release_of v major minor patch = is_gt-order_of v (release_of major minor patch) ∙ by_numbers (release_of major minor patch) v (none_below v.pre)

-- The cut before `M.m.p` stands below the versions that are not below it,
pub cut_before_release_of : (v : Fields) (major minor patch : ℕ) → stands_below (order_of (release_of major minor patch) v) false
    ≡ not (numbers_below v major minor patch || (numbers_same v major minor patch && has_pre v.pre))
cut_before_release_of v major minor patch =
    before_cut (order_of (release_of major minor patch) v)
    ∙ ap not (is_gt-order_of (release_of major minor patch) v ∙ is_lt-release_of v major minor patch)

-- and the cut after it below those whose numbers are above M, m, p.
pub cut_after_release_of : (v : Fields) (major minor patch : ℕ) → stands_below (order_of (release_of major minor patch) v) true ≡ numbers_above v major minor patch
cut_after_release_of v major minor patch = after_cut (order_of (release_of major minor patch) v) ∙ by_numbers (release_of major minor patch) v (none_below v.pre)

-- Among releases the cuts before `M.m.p-0` and before `M.m.p` stand below the same ones.
pub cut_before_release_of-release : (v : Fields) (major minor patch : ℕ) → v.pre ≡ [] → stands_below (order_of (release_of major minor patch) v) false ≡ not (numbers_below v major minor patch)
cut_before_release_of-release v major minor patch none =
    cut_before_release_of v major minor patch
    ∙ ap (λ (p : List Ident). not (numbers_below v major minor patch || (numbers_same v major minor patch && has_pre p))) none
    ∙ ap (λ r. not (numbers_below v major minor patch || r)) (and-false (numbers_same v major minor patch))
    ∙ ap not (or-false (numbers_below v major minor patch))

-- Where the last number is 0, the first two decide,
pub numbers_below-patch_0 : (v : Fields) (major minor : ℕ) → numbers_below v major minor 0 ≡ (nat_lt v.major major || ((v.major == major) && nat_lt v.minor minor))
numbers_below-patch_0 v major minor = rw (le-ltb v.patch 0 (omega arith), and-false (v.minor == minor), or-false (nat_lt v.minor minor)) refl

-- and where the last two are, the first decides.
pub numbers_below-minor_0 : (v : Fields) (major : ℕ) → numbers_below v major 0 0 ≡ nat_lt v.major major
numbers_below-minor_0 v major =
    numbers_below-patch_0 v major 0
    ∙ rw (le-ltb v.minor 0 (omega arith), and-false (v.major == major), or-false (nat_lt v.major major)) refl

-- A version whose numbers are below another's is below it.
pub numbers_below_is_below : (a b : Fields) → numbers_below a b.major b.minor b.patch ≡ true → is_lt (order_of a b) ≡ true
numbers_below_is_below a b below = is_lt-order_of a b ∙ more (nat_lt a.major b.major) (a.major == b.major) (nat_lt a.minor b.minor) (a.minor == b.minor) (nat_lt a.patch b.patch) _ below
  where
    more : (p q r s t u : Bool) → (p || (q && (r || (s && t)))) ≡ true → (p || (q && (r || (s && (t || u))))) ≡ true
    more true q r s t u h = refl
    more false true true s t u h = refl
    more false true false true true u h = refl
    more false true false true false u h = absurd (cc)
    more false true false false t u h = absurd (cc)
    more false false r s t u h = absurd (cc)

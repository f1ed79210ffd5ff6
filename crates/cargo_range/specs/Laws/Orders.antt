-- A comparator's test of `semver` against the order: of three numbers it goes by precedence alone, and on a release each
-- row of the table is its span.
use Rattle.std.proofs.Common.{◌≡◌, ◌+◌, ◌||◌, ◌&&◌, ℕ, zero, suc, List, [], ◌∷◌, map, Some, None, Bool, true, false, refl, ap, ◌∙◌, arith}
use Rattle.std.specs.Prelude.{nat_eq}
use Rattle.std.specs.List.{list_all}
use Rattle.std.specs.Cmp.Lexicographic.{pointwise}
use Rattle.std.specs.Ordering.{is_eq, is_ge, is_gt, is_le, is_lt}
use Rattle.std.specs.declared.cmp.Ordering.{Ordering}
use Rattle.std.specs.declared.cmp.Ordering.TheVariants.{Less, Equal, Greater}
use Rattle.std.proofs.lemmas.Bool.{ne_eqb}
use Rattle.std.proofs.lemmas.Grind.{common_steps}
use Rattle.semver.specs.EvalViews.{matches_views, view_op}
use Rattle.semver.specs.Order.{pre_cmp}
use Rattle.semver.specs.OrderLaws.{order_ties, pre-anti, pre_total}
use Rattle.semver.specs.Parse.{Held, Parts}
use Rattle.semver.specs.declared.Op.{Op}
use Rattle.semver.specs.declared.Op.TheVariants as op
use Rattle.vx_range.specs.Extents.{in_extent}
use Rattle.cargo_range.specs.declared.construct.Construct.{Construct}
use Rattle.cargo_range.specs.declared.construct.Partial.TheVariants.{Major, Minor}
use Rattle.cargo_range.specs.Version.{IsRelease, release_of}
use Rattle.cargo_range.specs.Order.{precedence}
use Rattle.cargo_range.specs.Holds.{held_of, holds}
use Rattle.cargo_range.specs.Spans.{extent_by}

pub and_true : (a : Bool) → (a && true) ≡ a
and_true true = refl
and_true false = refl

-- on a release a requirement is the conjunction of its comparators
pub release_all : (held : List Held) (v : Parts) → IsRelease v → matches_views held v ≡ list_all (λ c. view_op c.0 c v) held
release_all held v release = rw release (and_true _)

-- it is whether each of them holds
each_of : (all : List Construct) (v : Parts) → list_all (λ c. view_op c.0 c v) (map held_of all) ≡ list_all (λ c. holds c v) all
each_of [] v = refl
each_of (c ∷ all) v = ap (λ rest. holds c v && rest) (each_of all v)

pub release_each : (all : List Construct) (v : Parts) → IsRelease v → matches_views (map held_of all) v ≡ list_all (λ c. holds c v) all
release_each all v release = release_all (map held_of all) v release ∙ each_of all v

-- ---- three numbers, by precedence

pub greater_order : (i j k : ℕ) (pre : List ℕ) (v : Parts)
    → view_op op.Greater (op.Greater, i, Some j, Some k, pre) v ≡ is_gt (precedence v (i, j, k, pre, []))
greater_order i j k pre v = grind (arith, common_steps)

pub less_order : (i j k : ℕ) (pre : List ℕ) (v : Parts)
    → view_op op.Less (op.Less, i, Some j, Some k, pre) v ≡ is_lt (precedence v (i, j, k, pre, []))
less_order i j k pre v = grind (arith, common_steps)

same_pre : (x y : List ℕ) → pointwise nat_eq x y ≡ is_eq (pre_cmp x y)
same_pre x y = order_ties pre_cmp pre_total pre-anti x y

pub exact_order : (i j k : ℕ) (pre : List ℕ) (v : Parts)
    → view_op op.Exact (op.Exact, i, Some j, Some k, pre) v ≡ is_eq (precedence v (i, j, k, pre, []))
exact_order i j k pre v = rw (same_pre v.3 pre) (grind (arith, common_steps))

either_ge : (r : Ordering) → (is_eq r || is_gt r) ≡ is_ge r
either_ge Less = refl
either_ge Equal = refl
either_ge Greater = refl

either_le : (r : Ordering) → (is_eq r || is_lt r) ≡ is_le r
either_le Less = refl
either_le Equal = refl
either_le Greater = refl

pub greater_equal_order : (i j k : ℕ) (pre : List ℕ) (v : Parts)
    → view_op op.GreaterEq (op.GreaterEq, i, Some j, Some k, pre) v ≡ is_ge (precedence v (i, j, k, pre, []))
greater_equal_order i j k pre v =
    ap (λ b. b || view_op op.Greater (op.GreaterEq, i, Some j, Some k, pre) v) (exact_order i j k pre v)
    ∙ ap (λ b. is_eq (precedence v (i, j, k, pre, [])) || b) (greater_order i j k pre v)
    ∙ either_ge (precedence v (i, j, k, pre, []))

pub less_equal_order : (i j k : ℕ) (pre : List ℕ) (v : Parts)
    → view_op op.LessEq (op.LessEq, i, Some j, Some k, pre) v ≡ is_le (precedence v (i, j, k, pre, []))
less_equal_order i j k pre v =
    ap (λ b. b || view_op op.Less (op.LessEq, i, Some j, Some k, pre) v) (exact_order i j k pre v)
    ∙ ap (λ b. is_eq (precedence v (i, j, k, pre, [])) || b) (less_order i j k pre v)
    ∙ either_le (precedence v (i, j, k, pre, []))

-- ---- `~` and `^` of three numbers, on a release

pub tilde_order : (i j k : ℕ) (pre : List ℕ) (v : Parts) → IsRelease v
    → view_op op.Tilde (op.Tilde, i, Some j, Some k, pre) v
    ≡ (is_ge (precedence v (i, j, k, pre, [])) && is_lt (precedence v (release_of i (j + 1) 0)))
tilde_order i j k [] v release = rw release (grind (arith, common_steps))
tilde_order i j k (b ∷ rest) v release = rw release (grind (arith, common_steps))

-- the first number is not 0
pub caret_major : (i j k : ℕ) (pre : List ℕ) (v : Parts) → IsRelease v
    → view_op op.Caret (op.Caret, suc i, Some j, Some k, pre) v
    ≡ (is_ge (precedence v (suc i, j, k, pre, [])) && is_lt (precedence v (release_of (suc i + 1) 0 0)))
caret_major i j k [] v release = rw release (grind (arith, common_steps))
caret_major i j k (b ∷ rest) v release = rw release (grind (arith, common_steps))

-- the first is 0, and the second is not
pub caret_minor : (j k : ℕ) (pre : List ℕ) (v : Parts) → IsRelease v
    → view_op op.Caret (op.Caret, 0, Some (suc j), Some k, pre) v
    ≡ (is_ge (precedence v (0, suc j, k, pre, [])) && is_lt (precedence v (release_of 0 (suc j + 1) 0)))
caret_minor j k [] v release = rw release (grind (arith, common_steps))
caret_minor j k (b ∷ rest) v release = rw release (grind (arith, common_steps))

-- the first two are 0
pub caret_patch : (k : ℕ) (pre : List ℕ) (v : Parts) → IsRelease v
    → view_op op.Caret (op.Caret, 0, Some 0, Some k, pre) v
    ≡ (is_ge (precedence v (0, 0, k, pre, [])) && is_le (precedence v (release_of 0 0 k)))
caret_patch k [] v release = rw release (grind (arith, common_steps))
caret_patch k (b ∷ rest) v release = rw release (grind (arith, common_steps))

-- ---- two numbers and one, on a release

pub two_says : (o : Op) (i j : ℕ) (v : Parts) → IsRelease v → view_op o (o, i, Some j, None, []) v ≡ in_extent precedence (extent_by o (Minor i j)) v
two_says op.Exact i j v release = rw release (grind (arith, common_steps))
two_says op.Wildcard i j v release = rw release (grind (arith, common_steps))
two_says op.Greater i j v release = rw release (grind (arith, common_steps))
two_says op.GreaterEq i j v release = rw release (grind (arith, common_steps))
two_says op.Less i j v release = rw release (grind (arith, common_steps))
two_says op.LessEq i j v release = rw release (grind (arith, common_steps))
two_says op.Tilde i j v release = rw release (grind (arith, common_steps))
two_says op.Caret zero j v release = rw release (grind (arith, common_steps))
two_says op.Caret (suc i) j v release = rw (release, ne_eqb (suc i) 0 (omega arith)) (grind (arith, common_steps))

pub one_says : (o : Op) (i : ℕ) (v : Parts) → IsRelease v → view_op o (o, i, None, None, []) v ≡ in_extent precedence (extent_by o (Major i)) v
one_says op.Exact i v release = rw release (grind (arith, common_steps))
one_says op.Wildcard i v release = rw release (grind (arith, common_steps))
one_says op.Greater i v release = rw release (grind (arith, common_steps))
one_says op.GreaterEq i v release = rw release (grind (arith, common_steps))
one_says op.Less i v release = rw release (grind (arith, common_steps))
one_says op.LessEq i v release = rw release (grind (arith, common_steps))
one_says op.Tilde i v release = rw release (grind (arith, common_steps))
one_says op.Caret i v release = rw release (grind (arith, common_steps))

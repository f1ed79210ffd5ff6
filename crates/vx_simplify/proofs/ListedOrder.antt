-- The list of cuts is sorted, and no longer than the cuts.
use Rattle.std.proofs.Common.{◌≡◌, ◌≤◌, Bool, true, false, ◌&&◌, not, List, [], ◌∷◌, length, refl, sym, ◌∙◌, subst, arith}
use Rattle.std.specs.declared.cmp.Ordering.{Ordering}
use Rattle.std.specs.declared.cmp.Ordering.TheVariants.{Less, Equal, Greater}
use Rattle.std.specs.Ordering.{is_eq, ordering_then, bool_cmp}
use Rattle.std.specs.Cmp.{IsTotalOrder}
use Rattle.std.specs.List.{AllByRecursion}
use Rattle.std.proofs.lemmas.Cmp.{alike_right}
use Rattle.std.proofs.lemmas.Bool.{cond_both}
use Rattle.vx_spec.specs.Ascending.{IsAscending}
use Rattle.vx_scheme.specs.declared.span.Cut.{Cut}
use Rattle.vx_scheme.specs.Cuts.{cut_cmp}
use Rattle.vx_vers.specs.Sorted.{IsSorted}
use Rattle.vx_simplify.specs.Listed.{bound, exact, with, is_class, listed}

pub and_three : (a b c : Bool) → (not a && (b && c)) ≡ true → (a ≡ false) × ((b ≡ true) × (c ≡ true))
and_three false true true e = (refl, (refl, refl))
and_three false true false e = absurd (cc)
and_three false false c e = absurd (cc)
and_three true b c e = absurd (cc)

pub eq_of : (r : Ordering) → is_eq r ≡ true → r ≡ Equal
eq_of Less e = absurd (cc)
eq_of Equal e = refl
eq_of Greater e = absurd (cc)

-- a list is no longer than its cuts
pub listed_is_short : {V : Type 0} → (R : V → V → Ordering) (inside : Bool) (cuts : List (Cut V)) → length (listed R inside cuts) ≤ length cuts
listed_is_short R inside [] = omega arith
listed_is_short R inside (c ∷ []) = omega arith
listed_is_short R inside (c ∷ d ∷ cuts) =
    cond_both (is_class R c d) (with (exact inside) c ∷ listed R inside cuts) (with (bound inside c.after) c ∷ listed R (not inside) (d ∷ cuts)) (λ w. length w ≤ length (c ∷ d ∷ cuts))
    (λ t. omega (arith, listed_is_short R inside cuts)) (λ t. omega (arith, listed_is_short R (not inside) (d ∷ cuts)))

module _ {V : Type 0} {R : V → V → Ordering} (o : IsTotalOrder R) where
  versions_above : (x : V) (inside : Bool) (cuts : List (Cut V)) → AllByRecursion (λ c. R x c.version ≡ Less) cuts → AllByRecursion (λ k. R x k.version ≡ Less) (listed R inside cuts)
  versions_above x inside [] h = tt
  versions_above x inside (c ∷ []) h = (h.0, tt)
  versions_above x inside (c ∷ d ∷ cuts) h =
      cond_both (is_class R c d) (with (exact inside) c ∷ listed R inside cuts) (with (bound inside c.after) c ∷ listed R (not inside) (d ∷ cuts)) (λ w. AllByRecursion (λ k. R x k.version ≡ Less) w)
      (λ t. (h.0, versions_above x inside cuts h.1.1)) (λ t. (h.0, versions_above x (not inside) (d ∷ cuts) h.1))

  -- a cut after its version, and what is above it
  after_less : (d e : Cut V) (r : Ordering) → R d.version e.version ≡ r → d.after ≡ true → ordering_then r (bool_cmp d.after e.after) ≡ Less → R d.version e.version ≡ Less
  after_less d e Less f a l = f
  after_less d e Equal f a l = absurd (none e.after (subst (λ b. bool_cmp b e.after ≡ Less) a l))
    where
      none : (b : Bool) → bool_cmp true b ≡ Less → ⊥
      none true e = cc
      none false e = cc
  after_less d e Greater f a l = absurd (cc)

  -- two cuts that are no order class
  apart_less : (c d : Cut V) (r : Ordering) → R c.version d.version ≡ r → is_class R c d ≡ false → ordering_then r (bool_cmp c.after d.after) ≡ Less → R c.version d.version ≡ Less
  apart_less c d Less f n l = f
  apart_less c d Equal f n l = absurd (none c.after d.after (subst (λ r. (not c.after && (d.after && is_eq r)) ≡ false) f n) l)
    where
      none : (a b : Bool) → (not a && (b && true)) ≡ false → bool_cmp a b ≡ Less → ⊥
      none true true n l = cc
      none true false n l = cc
      none false true n l = cc
      none false false n l = cc
  apart_less c d Greater f n l = absurd (cc)

  at_least : (x : V) (d e : Cut V) (r : Ordering) → R d.version e.version ≡ r → R x d.version ≡ Less → ordering_then r (bool_cmp d.after e.after) ≡ Less → R x e.version ≡ Less
  at_least x d e Less f l m = o.trans x d.version e.version l f
  at_least x d e Equal f l m = sym (alike_right o d.version e.version x f) ∙ l
  at_least x d e Greater f l m = absurd (cc)

  behind_cut : (x : V) (d : Cut V) (cuts : List (Cut V)) → R x d.version ≡ Less → AllByRecursion (λ e. cut_cmp R d e ≡ Less) cuts → AllByRecursion (λ e. R x e.version ≡ Less) cuts
  behind_cut x d [] l h = tt
  behind_cut x d (e ∷ cuts) l h = (at_least x d e (R d.version e.version) refl l h.0, behind_cut x d cuts l h.1)

  behind_class : (x : V) (d : Cut V) (cuts : List (Cut V)) → R x d.version ≡ Equal → d.after ≡ true → AllByRecursion (λ e. cut_cmp R d e ≡ Less) cuts → AllByRecursion (λ e. R x e.version ≡ Less) cuts
  behind_class x d [] q a h = tt
  behind_class x d (e ∷ cuts) q a h = (o.congr x d.version e.version q ∙ after_less d e (R d.version e.version) refl a h.0, behind_class x d cuts q a h.1)

  -- the list of cuts in order is sorted
  pub listed_in_order : (inside : Bool) (cuts : List (Cut V)) → IsAscending (cut_cmp R) cuts → IsSorted R (listed R inside cuts)
  listed_in_order inside [] s = tt
  listed_in_order inside (c ∷ []) s = (tt, tt)
  listed_in_order inside (c ∷ d ∷ cuts) s =
      cond_both (is_class R c d) (with (exact inside) c ∷ listed R inside cuts) (with (bound inside c.after) c ∷ listed R (not inside) (d ∷ cuts)) (λ w. IsSorted R w)
      (λ t.
      let class = and_three c.after d.after (is_eq (R c.version d.version)) t in
      (versions_above c.version inside cuts (behind_class c.version d cuts (eq_of (R c.version d.version) class.1.1) class.1.0 s.1.0), listed_in_order inside cuts s.1.1))
      (λ n.
      let l = apart_less c d (R c.version d.version) refl n s.0.0 in
      (versions_above c.version (not inside) (d ∷ cuts) (l, behind_cut c.version d cuts l s.1.0), listed_in_order (not inside) (d ∷ cuts) s.1))

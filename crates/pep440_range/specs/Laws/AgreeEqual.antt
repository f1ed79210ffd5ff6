-- The rows of `==V` and `!=V`.
use Rattle.std.proofs.Common.{◌≡◌, ◌&&◌, ◌||◌, not, ℕ, Bool, true, false, List, [], ◌∷◌, Ordering, refl, sym, ap, ◌∙◌}
use Rattle.std.specs.Ordering.{is_eq, is_ge, is_lt}
use Rattle.std.proofs.Math.Bool.{or-false, and-true}
use Rattle.vx_scheme.specs.declared.domain.Domain.{Domain}
use Rattle.vx_scheme.specs.declared.domain.Domain.TheVariants.{All, Releases}
use Rattle.vx_scheme.specs.declared.ident.Ident.{Ident}
use Rattle.vx_scheme.specs.Cuts.{in_spans}
use Rattle.vx_range.specs.Laws.Gaps.{apart_is}
use Rattle.vx_range.specs.Laws.Points as points
use Rattle.pep440_scheme.specs.Version.{Fields}
use Rattle.pep440_scheme.specs.Order.{order_of, order_total}
use Rattle.pep440_scheme.specs.Next.{succ_of}
use Rattle.pep440_scheme.proofs.NextLaws.{from_succ}
use Rattle.pep440_range.specs.Holds as row
use Rattle.pep440_range.specs.Spans.{equal_by, not_equal_by}
use Rattle.pep440_range.specs.Laws.AgreeOrder.{not_below, public_itself}
use Rattle.pep440_range.specs.Laws.AgreeWithin.{IsOf}

outside : (low high : Ordering) (equal : Bool) → (not (is_lt low) && is_lt high) ≡ equal → (is_lt low || is_ge high) ≡ not equal
outside low high equal e = rw (not_below high) (by (is_lt low) (is_lt high)) ∙ ap not e
  where
    by : (a b : Bool) → (a || not b) ≡ not (not a && b)
    by true b = refl
    by false b = refl

-- a version stands apart from an order class
apart_says : (mark : ℕ) (bound v : Fields) → in_spans order_of (not_equal_by Releases mark bound []) v ≡ not (is_eq (order_of v bound))
apart_says mark bound v =
    (λ i. points.under_before order_of order_total bound v i
    || (or-false _ ∙ and-true _ ∙ points.over_after order_of order_total bound v) i)
    ∙ apart_is (order_of v bound)

-- among releases the public part is the version
public_equal : (bound : Fields) (local : List Ident) (v : Fields) → IsOf Releases v
    → is_eq (order_of v bound) ≡ row.equal_by bound local v
public_equal bound [] v is = ap (λ (u : Fields). is_eq (order_of u bound)) (sym (public_itself v is.local))
public_equal bound (part ∷ parts) v is = refl

pub equal_says : (domain : Domain) (mark : ℕ) (bound : Fields) (local : List Ident) (v : Fields) → bound.local ≡ local → IsOf domain v
    → in_spans order_of (equal_by domain mark bound local) v ≡ row.equal_by bound local v
equal_says All mark bound [] v labels is =
    points.between_says order_of order_total mark bound (succ_of bound) v
    ∙ ap (λ (b : Bool). b && is_lt (order_of v (succ_of bound))) (not_below (order_of v bound))
    ∙ from_succ bound v labels
equal_says All mark bound (part ∷ parts) v labels is = points.point_says order_of order_total mark bound v
equal_says Releases mark bound local v labels is = points.point_says order_of order_total mark bound v ∙ public_equal bound local v is

pub not_equal_says : (domain : Domain) (mark : ℕ) (bound : Fields) (local : List Ident) (v : Fields) → bound.local ≡ local → IsOf domain v
    → in_spans order_of (not_equal_by domain mark bound local) v ≡ not (row.equal_by bound local v)
not_equal_says All mark bound [] v labels is =
    (λ i. points.under_before order_of order_total bound v i
    || (or-false _ ∙ and-true _ ∙ points.over_before order_of order_total (succ_of bound) v) i)
    ∙ outside (order_of v bound) (order_of v (succ_of bound)) _ (from_succ bound v labels)
not_equal_says All mark bound (part ∷ parts) v labels is = apart_says mark bound v
not_equal_says Releases mark bound local v labels is = apart_says mark bound v ∙ ap not (public_equal bound local v is)

-- The rows of `==R.*`, `!=R.*` and `~=V`.
use Rattle.std.proofs.Common.{◌≡◌, ◌&&◌, ◌||◌, not, ℕ, Bool, true, false, List, [], ◌∷◌, Option, Some, None, Ordering, refl, sym, ap, ◌∙◌}
use Rattle.std.specs.Prelude.{⊤}
use Rattle.std.specs.Ordering.{is_ge, is_lt}
use Rattle.std.proofs.Math.Bool.{or-false, and-true}
use Rattle.vx_scheme.specs.declared.domain.Domain.{Domain}
use Rattle.vx_scheme.specs.declared.domain.Domain.TheVariants.{All, Releases}
use Rattle.vx_scheme.specs.Cuts.{in_spans}
use Rattle.vx_scheme.specs.Native.{by_domain}
use Rattle.vx_range.specs.declared.making.Outcome.TheVariants as made
use Rattle.vx_range.specs.Spans.{between}
use Rattle.vx_range.specs.Laws.Points as points
use Rattle.pep440_scheme.specs.declared.version.PreKind.TheVariants.{A, B, Rc}
use Rattle.pep440_scheme.specs.declared.version.PreKind.{PreKind}
use Rattle.pep440_scheme.specs.declared.version.PrePart.{PrePart}
use Rattle.pep440_scheme.specs.Version.{Fields, IsRelease, public_of}
use Rattle.pep440_scheme.specs.Order.{dev_letter, order_of, order_total, plain, post_letter, pre_letter}
use Rattle.pep440_scheme.specs.Next.{bumped, last_number}
use Rattle.pep440_range.specs.Holds.{is_within, release_of, without_last}
use Rattle.pep440_range.specs.Refusals as refusals
use Rattle.pep440_range.specs.Spans.{end_of, lowest_in, not_within_spans, within_spans}
use Rattle.pep440_range.specs.Laws.AgreeOrder.{alone, behind_cmp, from_zero, label_cmp, label_not_below, lt_first, lt_front, not_below, numbers_cmp, of_number_is, order_apart, public_ge, public_version, then_not_below}
use Rattle.pep440_range.specs.Laws.AgreeNumbers.{below_prefix, from_to, within_is}

-- the versions of a domain
abbrev pub IsOf : Domain → Fields → Type 0
IsOf = by_domain (λ _. ⊤) IsRelease

-- ---- the lowest version of a release

pre_lowest : (pre : Option PrePart) (post dev : Option ℕ) → is_lt (alone (pre_letter pre post dev) (plain 0 0)) ≡ false
pre_lowest (Some pre) post dev = by pre.kind pre.number
  where
    by : (kind : PreKind) (n : ℕ) → is_lt (alone (pre_letter (Some (record { kind = kind; number = n })) post dev) (plain 0 0)) ≡ false
    by A n = refl
    by B n = refl
    by Rc n = refl
pre_lowest None None (Some n) = refl
pre_lowest None None None = refl
pre_lowest None (Some n) dev = refl

pub post_lowest : (post : Option ℕ) → is_lt (alone (post_letter post) (post_letter None)) ≡ false
post_lowest None = refl
post_lowest (Some n) = refl

pub dev_lowest : (dev : Option ℕ) → is_lt (alone (dev_letter dev) (dev_letter (Some 0))) ≡ false
dev_lowest (Some n) = ap is_lt (of_number_is _) ∙ from_zero n
dev_lowest None = refl

-- behind a release nothing is below `.dev0`
pub lowest_behind : (v : Fields) → is_lt (behind_cmp v None None (Some 0)) ≡ false
lowest_behind v =
    then_not_below (alone (pre_letter v.pre v.post v.dev) (plain 0 0)) _ (pre_lowest v.pre v.post v.dev)
    (then_not_below (alone (post_letter v.post) (post_letter None)) _ (post_lowest v.post)
    (then_not_below (alone (dev_letter v.dev) (dev_letter (Some 0))) (label_cmp v.local) (dev_lowest v.dev) (label_not_below v.local)))

release_behind : (v : Fields) → IsRelease v → is_lt (behind_cmp v None None None) ≡ false
release_behind v is = rw (is.pre, is.post, is.dev) (label_not_below v.local)

pub below_lowest : (domain : Domain) (v : Fields) (epoch : ℕ) (xs : List ℕ) → IsOf domain v
    → is_lt (order_of v (lowest_in domain (release_of epoch xs))) ≡ is_lt (numbers_cmp v.epoch v.release epoch xs)
below_lowest All v epoch xs is =
    ap is_lt (order_apart v epoch xs None None (Some 0))
    ∙ lt_front (numbers_cmp v.epoch v.release epoch xs) (behind_cmp v None None (Some 0)) (lowest_behind v)
below_lowest Releases v epoch xs is =
    ap is_lt (order_apart v epoch xs None None None)
    ∙ lt_front (numbers_cmp v.epoch v.release epoch xs) (behind_cmp v None None None) (release_behind v is)

-- ---- the rows

from_to_is : (o p : Ordering) (low high : Ordering) → is_lt o ≡ is_lt low → is_lt p ≡ is_lt high → (is_ge o && is_lt p) ≡ from_to low high
from_to_is o p low high l h = rw (not_below o, l, h) refl

outside_is : (o p : Ordering) (low high : Ordering) → is_lt o ≡ is_lt low → is_lt p ≡ is_lt high
    → (is_lt o || is_ge p) ≡ not (from_to low high)
outside_is o p low high l h = rw (not_below p, l, h) (by (is_lt low) (is_lt high))
  where
    by : (a b : Bool) → (a || not b) ≡ not (not a && b)
    by true b = refl
    by false b = refl

pub within_says : (domain : Domain) (mark epoch : ℕ) (xs : List ℕ) (v : Fields) → IsOf domain v
    → refusals.bumped (last_number xs) ≡ made.Spans
    → in_spans order_of (within_spans domain mark (release_of epoch xs)) v ≡ is_within (release_of epoch xs) v
within_says domain mark epoch [] v is makes = cc makes
within_says domain mark epoch (n ∷ xs) v is makes =
    points.between_says order_of order_total mark (lowest_in domain (release_of epoch (n ∷ xs)))
    (end_of domain (release_of epoch (n ∷ xs))) v
    ∙ from_to_is _ _ _ _ (below_lowest domain v epoch (n ∷ xs) is) (below_lowest domain v epoch (bumped (n ∷ xs)) is)
    ∙ sym (within_is v epoch n xs)

pub not_within_says : (domain : Domain) (mark epoch : ℕ) (xs : List ℕ) (v : Fields) → IsOf domain v
    → refusals.bumped (last_number xs) ≡ made.Spans
    → in_spans order_of (not_within_spans domain mark (release_of epoch xs)) v ≡ not (is_within (release_of epoch xs) v)
not_within_says domain mark epoch [] v is makes = cc makes
not_within_says domain mark epoch (n ∷ xs) v is makes =
    let low : Fields = lowest_in domain (release_of epoch (n ∷ xs)) in
    let end : Fields = end_of domain (release_of epoch (n ∷ xs)) in
    (λ i. points.under_before order_of order_total low v i || (or-false _ ∙ and-true _ ∙ points.over_before order_of order_total end v) i)
    ∙ outside_is (order_of v low) (order_of v end) _ _ (below_lowest domain v epoch (n ∷ xs) is)
    (below_lowest domain v epoch (bumped (n ∷ xs)) is)
    ∙ ap not (sym (within_is v epoch n xs))

-- a version that is at least V begins with V's front, or is above all that do
compatible_by : (lower front high : Bool) → (front ≡ true → lower ≡ true) → (not lower && high) ≡ (not lower && (not front && high))
compatible_by true front high more = refl
compatible_by false true high more = absurd (cc (more refl))
compatible_by false false high more = refl

compatible_within : (v : Fields) (epoch : ℕ) (front : List ℕ) (lower : Bool) → refusals.bumped (last_number front) ≡ made.Spans
    → (is_lt (numbers_cmp v.epoch v.release epoch front) ≡ true → lower ≡ true)
    → (not lower && is_lt (numbers_cmp v.epoch v.release epoch (bumped front))) ≡ (not lower && is_within (release_of epoch front) v)
compatible_within v epoch [] lower makes more = cc makes
compatible_within v epoch (n ∷ front) lower makes more =
    compatible_by lower (is_lt (numbers_cmp v.epoch v.release epoch (n ∷ front)))
    (is_lt (numbers_cmp v.epoch v.release epoch (bumped (n ∷ front)))) more
    ∙ ap (λ (b : Bool). not lower && b) (sym (within_is v epoch n front))

pub compatible_says : (domain : Domain) (mark epoch : ℕ) (xs : List ℕ) (pre : Option PrePart) (post dev : Option ℕ) (v : Fields)
    → IsOf domain v
    → refusals.bumped (last_number (without_last xs)) ≡ made.Spans
    → in_spans order_of (between mark (public_version epoch xs pre post dev) (end_of domain (release_of epoch (without_last xs)))) v
    ≡ (is_ge (order_of (public_of v) (public_version epoch xs pre post dev)) && is_within (release_of epoch (without_last xs)) v)
compatible_says domain mark epoch xs pre post dev v is makes =
    let bound : Fields = public_version epoch xs pre post dev in
    let front : List ℕ = without_last xs in
    let lower : Bool = is_lt (order_of v bound) in
    let more : is_lt (numbers_cmp v.epoch v.release epoch front) ≡ true → is_lt (order_of v bound) ≡ true =
    λ lt. ap is_lt (order_apart v epoch xs pre post dev)
    ∙ lt_first (numbers_cmp v.epoch v.release epoch xs) (behind_cmp v pre post dev) (below_prefix v epoch xs lt) in
    points.between_says order_of order_total mark bound (end_of domain (release_of epoch front)) v
    ∙ (λ i. not_below (order_of v bound) i && below_lowest domain v epoch (bumped front) is i)
    ∙ compatible_within v epoch front (is_lt (order_of v bound)) makes more
    ∙ ap (λ (b : Bool). b && is_within (release_of epoch front) v)
    (sym (not_below (order_of v bound)) ∙ public_ge v epoch xs pre post dev)

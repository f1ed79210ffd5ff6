-- The rows of `<=V`, `>=V` and `<V`: below `V.dev0` is what is below V and no pre-release of it.
use Rattle.std.proofs.Common.{◌≡◌, ◌&&◌, ◌||◌, ◌==◌, not, ℕ, Bool, true, false, List, Option, Some, None, Ordering, Less, Equal, Greater, refl, sym, ap, ◌∙◌, inl, inr, arith}
use Rattle.std.specs.Prelude.{is_some, is_none}
use Rattle.std.specs.Ordering.{is_eq, is_ge, is_le, is_lt, nat_cmp, ordering_then}
use Rattle.std.proofs.Math.Bool.{and-true}
use Rattle.std.proofs.lemmas.Bool.{and_right, cases_order, eq-eqb, ne_eqb}
use Rattle.vx_scheme.specs.declared.domain.Domain.{Domain}
use Rattle.vx_scheme.specs.declared.domain.Domain.TheVariants.{All, Releases}
use Rattle.vx_scheme.specs.Cuts.{in_spans}
use Rattle.vx_range.specs.Spans.{from}
use Rattle.vx_range.specs.Laws.Points as points
use Rattle.pep440_scheme.specs.declared.version.PreKind.TheVariants.{A, B, Rc}
use Rattle.pep440_scheme.specs.declared.version.PreKind.{PreKind}
use Rattle.pep440_scheme.specs.declared.version.PrePart.{PrePart}
use Rattle.pep440_scheme.specs.Version.{Fields, IsRelease, public_of}
use Rattle.pep440_scheme.specs.Order.{dev_letter, order_of, order_total, post_letter, pre_letter}
use Rattle.pep440_scheme.specs.Next.{succ_of}
use Rattle.pep440_range.specs.Holds.{is_pre_by, is_pre_release, same_number, same_release}
use Rattle.pep440_range.specs.Spans.{less_by, less_or_equal_spans}
use Rattle.pep440_range.specs.Laws.AgreeOrder.{above, alone, behind_cmp, below, below_succ, label_cmp, label_not_below, no_label, numbers_cmp, order_apart, public_ge, public_lt, public_itself, public_version, same, then_not_below}
use Rattle.pep440_range.specs.Laws.AgreeNumbers.{same_release_is}
use Rattle.pep440_range.specs.Laws.AgreeWithin.{IsOf, dev_lowest, lowest_behind}

-- ---- `<=V`, `>=V`

pub less_or_equal_says : (domain : Domain) (mark epoch : ℕ) (xs : List ℕ) (pre : Option PrePart) (post dev : Option ℕ) (v : Fields)
    → IsOf domain v
    → in_spans order_of (less_or_equal_spans domain mark (public_version epoch xs pre post dev)) v
    ≡ is_le (order_of (public_of v) (public_version epoch xs pre post dev))
less_or_equal_says All mark epoch xs pre post dev v is =
    points.below_says order_of order_total mark (succ_of (public_version epoch xs pre post dev)) v ∙ below_succ v epoch xs pre post dev
less_or_equal_says Releases mark epoch xs pre post dev v is =
    let bound : Fields = public_version epoch xs pre post dev in
    points.up_to_says order_of order_total mark bound v ∙ ap (λ (u : Fields). is_le (order_of u bound)) (sym (public_itself v is.local))

pub greater_or_equal_says : (mark epoch : ℕ) (xs : List ℕ) (pre : Option PrePart) (post dev : Option ℕ) (v : Fields)
    → in_spans order_of (from mark (public_version epoch xs pre post dev)) v
    ≡ is_ge (order_of (public_of v) (public_version epoch xs pre post dev))
greater_or_equal_says mark epoch xs pre post dev v =
    points.from_says order_of order_total mark (public_version epoch xs pre post dev) v ∙ public_ge v epoch xs pre post dev

-- ---- `<V`

-- where the numbers decide, they decide alike
under_numbers : (numbers low bound : Ordering) (pre : Bool) → is_lt low ≡ (is_lt bound && not pre)
    → is_lt (ordering_then numbers low) ≡ (is_lt (ordering_then numbers bound) && not (is_eq numbers && pre))
under_numbers Less low bound pre e = refl
under_numbers Equal low bound pre e = e
under_numbers Greater low bound pre e = refl

-- it is below exactly where it is a pre-release, and nothing is below `.dev0`
none_below : (low : Bool) (bound : Bool) (pre : Bool) → low ≡ false → pre ≡ bound → low ≡ (bound && not pre)
none_below low true pre none e = rw (none, e) refl
none_below low false pre none e = none

-- a pre-release of a kind
abbrev pre_of : PreKind → ℕ → Option PrePart
pre_of kind n = Some (record { kind = kind; number = n })

-- ahead of a final version are its pre-releases
final_kind : (kind : PreKind) (n : ℕ) (post dev : Option ℕ) (rest : Ordering)
    → true ≡ is_lt (ordering_then (alone (pre_letter (pre_of kind n) post dev) (pre_letter None None None)) rest)
final_kind A n post dev rest = refl
final_kind B n post dev rest = refl
final_kind Rc n post dev rest = refl

final_pre : (pre : Option PrePart) (post dev : Option ℕ)
    → (is_some pre || (is_some dev && is_none post))
    ≡ is_lt (ordering_then (alone (pre_letter pre post dev) (pre_letter None None None))
    (ordering_then (alone (post_letter post) (post_letter None)) (ordering_then (alone (dev_letter dev) (dev_letter None)) Equal)))
final_pre (Some pre) post dev =
    final_kind pre.kind pre.number post dev
    (ordering_then (alone (post_letter post) (post_letter None)) (ordering_then (alone (dev_letter dev) (dev_letter None)) Equal))
final_pre None None None = refl
final_pre None None (Some m) = refl
final_pre None (Some n) None = refl
final_pre None (Some n) (Some m) = refl

-- ahead of a post-release is what is ahead of its `.dev0`, and its `.devN`
post_kind : (kind : PreKind) (n : ℕ) (post dev : Option ℕ) (p : ℕ) (low bound : Ordering)
    → is_lt (ordering_then (alone (pre_letter (pre_of kind n) post dev) (pre_letter None (Some p) (Some 0))) low)
    ≡ (is_lt (ordering_then (alone (pre_letter (pre_of kind n) post dev) (pre_letter None (Some p) None)) bound) && true)
post_kind A n post dev p low bound = refl
post_kind B n post dev p low bound = refl
post_kind Rc n post dev p low bound = refl

post_dev : (dev : Option ℕ) (label : Ordering) → is_lt (ordering_then (alone (dev_letter dev) (dev_letter (Some 0))) label) ≡ false
    → is_lt (ordering_then (alone (dev_letter dev) (dev_letter (Some 0))) label)
    ≡ (is_lt (ordering_then (alone (dev_letter dev) (dev_letter None)) Equal) && not (is_some dev))
post_dev None label none = none
post_dev (Some m) label none = none

post_number : (k p : ℕ) (dev : Option ℕ) (low bound : Ordering) → is_lt low ≡ (is_lt bound && not (is_some dev))
    → is_lt (ordering_then (ordering_then (ordering_then (nat_cmp k p) Equal) Equal) low)
    ≡ (is_lt (ordering_then (ordering_then (ordering_then (nat_cmp k p) Equal) Equal) bound) && not ((p == k) && is_some dev))
post_number k p dev low bound e = elim (cases_order k p) [
  | inl same' ↦ rw (same k p same', eq-eqb p k (sym same')) e
  | inr (inl lt) ↦ rw (below k p lt, ne_eqb p k (λ e. omega (arith, lt, e))) refl
  | inr (inr gt) ↦ rw (above k p gt) refl
]

post_pre : (pre : Option PrePart) (post dev : Option ℕ) (p : ℕ) (label : Ordering)
    → is_lt (ordering_then (alone (dev_letter dev) (dev_letter (Some 0))) label) ≡ false
    → is_lt (ordering_then (alone (pre_letter pre post dev) (pre_letter None (Some p) (Some 0)))
    (ordering_then (alone (post_letter post) (post_letter (Some p)))
    (ordering_then (alone (dev_letter dev) (dev_letter (Some 0))) label)))
    ≡ (is_lt (ordering_then (alone (pre_letter pre post dev) (pre_letter None (Some p) None))
    (ordering_then (alone (post_letter post) (post_letter (Some p))) (ordering_then (alone (dev_letter dev) (dev_letter None)) Equal)))
    && not (is_none pre && (same_number (Some p) post && is_some dev)))
post_pre (Some pre) post dev p label none = post_kind pre.kind pre.number post dev p _ _
post_pre None None None p label none = refl
post_pre None None (Some m) p label none = refl
post_pre None (Some k) dev p label none = post_number k p dev _ _ (post_dev dev label none)

-- behind the numbers, against `.dev0` and against the version
behind_dev0 : (post : Option ℕ) (v : Fields)
    → is_lt (behind_cmp v None post (Some 0)) ≡ (is_lt (behind_cmp (public_of v) None post None) && not (is_pre_by post (public_of v)))
behind_dev0 None v =
    none_below (is_lt (behind_cmp v None None (Some 0))) (is_lt (behind_cmp (public_of v) None None None)) (is_pre_by None (public_of v))
    (lowest_behind v) (rw no_label (final_pre v.pre v.post v.dev))
behind_dev0 (Some p) v =
    rw no_label (post_pre v.pre v.post v.dev p (label_cmp v.local)
    (then_not_below (alone (dev_letter v.dev) (dev_letter (Some 0))) (label_cmp v.local) (dev_lowest v.dev) (label_not_below v.local)))

dev0_says : (epoch : ℕ) (xs : List ℕ) (post : Option ℕ) (v : Fields)
    → is_lt (order_of v (public_version epoch xs None post (Some 0)))
    ≡ (is_lt (order_of (public_of v) (public_version epoch xs None post None))
    && not (is_pre_release (public_version epoch xs None post None) (public_of v)))
dev0_says epoch xs post v =
    ap is_lt (order_apart v epoch xs None post (Some 0))
    ∙ under_numbers (numbers_cmp v.epoch v.release epoch xs) (behind_cmp v None post (Some 0)) (behind_cmp (public_of v) None post None)
    (is_pre_by post (public_of v)) (behind_dev0 post v)
    ∙ (λ i. is_lt (sym (order_apart (public_of v) epoch xs None post None) i)
    && not (sym (same_release_is (public_version epoch xs None post None) (public_of v)) i && is_pre_by post (public_of v)))

-- no release is a pre-release
no_pre : (post : Option ℕ) (v : Fields) → IsRelease v → is_pre_by post (public_of v) ≡ false
no_pre None v is = rw (is.pre, is.dev) refl
no_pre (Some p) v is = rw (is.pre, is.post) refl

release_less : (bound : Fields) (v : Fields) → IsRelease v
    → is_lt (order_of v bound) ≡ (is_lt (order_of (public_of v) bound) && not (is_pre_release bound (public_of v)))
release_less bound v is =
    let none : is_pre_release bound (public_of v) ≡ false =
    and_right (is_none bound.pre && is_none bound.dev) (same_release bound (public_of v) && is_pre_by bound.post (public_of v))
    (and_right (same_release bound (public_of v)) (is_pre_by bound.post (public_of v)) (no_pre bound.post v is)) in
    ap (λ (u : Fields). is_lt (order_of u bound)) (sym (public_itself v is.local))
    ∙ sym (and-true _)
    ∙ ap (λ (b : Bool). is_lt (order_of (public_of v) bound) && not b) (sym none)

pub less_says : (domain : Domain) (mark epoch : ℕ) (xs : List ℕ) (pre : Option PrePart) (post dev : Option ℕ) (v : Fields) → IsOf domain v
    → in_spans order_of (less_by domain mark (public_version epoch xs pre post dev) pre dev) v
    ≡ (is_lt (order_of (public_of v) (public_version epoch xs pre post dev))
    && not (is_pre_release (public_version epoch xs pre post dev) (public_of v)))
less_says All mark epoch xs None post None v is =
    points.below_says order_of order_total mark (public_version epoch xs None post (Some 0)) v ∙ dev0_says epoch xs post v
less_says All mark epoch xs None post (Some dev) v is =
    points.below_says order_of order_total mark (public_version epoch xs None post (Some dev)) v
    ∙ public_lt v epoch xs None post (Some dev) ∙ sym (and-true _)
less_says All mark epoch xs (Some pre) post dev v is =
    points.below_says order_of order_total mark (public_version epoch xs (Some pre) post dev) v ∙ public_lt v epoch xs (Some pre) post dev
    ∙ sym (and-true _)
less_says Releases mark epoch xs pre post dev v is =
    points.below_says order_of order_total mark (public_version epoch xs pre post dev) v
    ∙ release_less (public_version epoch xs pre post dev) v is

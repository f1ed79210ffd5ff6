-- The row of `>V`: from `succ V` on is what is above V, with no local of it; from the next pre-release on, what is above V and no
-- post-release of it.
use Rattle.std.proofs.Common.{◌≡◌, ◌<◌, ◌+◌, ◌&&◌, ◌==◌, not, ℕ, Bool, true, false, List, Option, Some, None, Ordering, Less, Equal, Greater, refl, sym, ap, ◌∙◌, inl, inr, arith}
use Rattle.std.specs.Prelude.{is_some, is_none}
use Rattle.std.specs.Ordering.{is_eq, is_ge, is_gt, is_lt, nat_cmp, ordering_then}
use Rattle.std.proofs.Math.Bool.{and-true}
use Rattle.std.proofs.lemmas.Bool.{and_right, cases_order, eq-eqb, ne_eqb}
use Rattle.vx_scheme.specs.declared.domain.Domain.{Domain}
use Rattle.vx_scheme.specs.declared.domain.Domain.TheVariants.{All, Releases}
use Rattle.vx_scheme.specs.Cuts.{in_spans}
use Rattle.vx_range.specs.declared.making.Outcome.TheVariants as made
use Rattle.vx_range.specs.Laws.Points as points
use Rattle.pep440_scheme.specs.declared.version.PreKind.TheVariants.{A, B, Rc}
use Rattle.pep440_scheme.specs.declared.version.PreKind.{PreKind}
use Rattle.pep440_scheme.specs.declared.version.PrePart.{PrePart}
use Rattle.pep440_scheme.specs.Version.{Fields, IsRelease, public_of}
use Rattle.pep440_scheme.specs.Order.{dev_letter, kind_rank, order_of, order_total, plain, post_letter, pre_letter}
use Rattle.pep440_scheme.specs.Next.{raised_pre, succ_of}
use Rattle.pep440_range.specs.declared.construct.Comparison.TheVariants as comparison
use Rattle.pep440_range.specs.Holds.{is_post_release, same_pre, same_release}
use Rattle.pep440_range.specs.Refusals.{greater_outcome}
use Rattle.pep440_range.specs.Spans.{greater_by, greater_spans}
use Rattle.pep440_range.specs.Refusals as refusals
use Rattle.pep440_range.specs.Laws.AgreeOrder.{above, alone, behind_cmp, below, below_succ, label_cmp, label_not_below, no_label, not_below, not_up_to, numbers_cmp, order_apart, public_itself, public_version, same, then_not_below}
use Rattle.pep440_range.specs.Laws.AgreeNumbers.{same_release_is}
use Rattle.pep440_range.specs.Laws.AgreeWithin.{IsOf, dev_lowest, post_lowest}

-- ---- V with a post or a dev

above_succ : (epoch : ℕ) (xs : List ℕ) (pre : Option PrePart) (post dev : Option ℕ) (v : Fields)
    → is_ge (order_of v (succ_of (public_version epoch xs pre post dev)))
    ≡ is_gt (order_of (public_of v) (public_version epoch xs pre post dev))
above_succ epoch xs pre post dev v =
    not_below (order_of v (succ_of (public_version epoch xs pre post dev)))
    ∙ ap not (below_succ v epoch xs pre post dev)
    ∙ not_up_to (order_of (public_of v) (public_version epoch xs pre post dev))

-- ---- V with a pre alone

-- where the numbers decide, they decide alike
under_numbers : (numbers next bound : Ordering) (pre post : Bool) → not (is_lt next) ≡ (is_gt bound && not (pre && post))
    → not (is_lt (ordering_then numbers next)) ≡ (is_gt (ordering_then numbers bound) && not ((is_eq numbers && pre) && post))
under_numbers Less next bound pre post e = refl
under_numbers Equal next bound pre post e = e
under_numbers Greater next bound pre post e = refl

-- what is behind a pre-release is above it where it is a post-release
post_above : (post dev : Option ℕ)
    → is_gt (ordering_then (alone (post_letter post) (post_letter None)) (ordering_then (alone (dev_letter dev) (dev_letter None)) Equal))
    ≡ is_some post
post_above None None = refl
post_above None (Some m) = refl
post_above (Some n) dev = refl

alike : (bound : Ordering) (post : Bool) → is_gt bound ≡ post → false ≡ (is_gt bound && not post)
alike bound true e = rw e refl
alike bound false e = rw e refl

-- the number of a pre-release, and what is behind
number_step : (m n : ℕ) (next bound : Ordering) (post : Bool) → is_lt next ≡ false → is_gt bound ≡ post
    → not (is_lt (ordering_then (ordering_then (ordering_then (nat_cmp m (n + 1)) Equal) Equal) next))
    ≡ (is_gt (ordering_then (ordering_then (ordering_then (nat_cmp m n) Equal) Equal) bound) && not ((n == m) && post))
number_step m n next bound post not_lower e = elim (cases_order m n) [
  | inl same' ↦ let less : m < n + 1 = omega (arith, same') in
      rw (below m (n + 1) less, same m n same', eq-eqb n m (sym same')) (alike bound post e)
  | inr (inl lt) ↦ let less : m < n + 1 = omega (arith, lt) in rw (below m (n + 1) less, below m n lt) refl
  | inr (inr gt) ↦ rw (above m n gt, ne_eqb n m (λ e. omega (arith, gt, e))) (elim (cases_order m (n + 1)) [
    | inl next' ↦ rw (same m (n + 1) next', not_lower) refl
    | inr (inl lt) ↦ absurd (omega (arith, gt, lt))
    | inr (inr more) ↦ rw (above m (n + 1) more) refl
  ])
]

-- two kinds
kind_step : (kind kind' : PreKind) (m n : ℕ) (post dev : Option ℕ) (next bound : Ordering) (is_post : Bool) → is_lt next ≡ false
    → is_gt bound ≡ is_post
    → not (is_lt (ordering_then (alone (plain (kind_rank kind') m) (plain (kind_rank kind) (n + 1))) next))
    ≡ (is_gt (ordering_then (alone (plain (kind_rank kind') m) (plain (kind_rank kind) n)) bound)
    && not (((kind_rank kind == kind_rank kind') && (n == m)) && is_post))
kind_step A A m n post dev next bound is_post not_lower e = number_step m n next bound is_post not_lower e
kind_step A B m n post dev next bound is_post not_lower e = refl
kind_step A Rc m n post dev next bound is_post not_lower e = refl
kind_step B A m n post dev next bound is_post not_lower e = refl
kind_step B B m n post dev next bound is_post not_lower e = number_step m n next bound is_post not_lower e
kind_step B Rc m n post dev next bound is_post not_lower e = refl
kind_step Rc A m n post dev next bound is_post not_lower e = refl
kind_step Rc B m n post dev next bound is_post not_lower e = refl
kind_step Rc Rc m n post dev next bound is_post not_lower e = number_step m n next bound is_post not_lower e

-- no pre
none_step : (kind : PreKind) (n : ℕ) (post dev : Option ℕ) (next bound : Ordering) (is_post : Bool)
    → not (is_lt (ordering_then (alone (pre_letter None post dev) (plain (kind_rank kind) (n + 1))) next))
    ≡ (is_gt (ordering_then (alone (pre_letter None post dev) (plain (kind_rank kind) n)) bound) && true)
none_step A n None None next bound is_post = refl
none_step A n None (Some m) next bound is_post = refl
none_step A n (Some k) dev next bound is_post = refl
none_step B n None None next bound is_post = refl
none_step B n None (Some m) next bound is_post = refl
none_step B n (Some k) dev next bound is_post = refl
none_step Rc n None None next bound is_post = refl
none_step Rc n None (Some m) next bound is_post = refl
none_step Rc n (Some k) dev next bound is_post = refl

pre_step : (bound_pre : PrePart) (pre : Option PrePart) (post dev : Option ℕ) (next bound : Ordering) (is_post : Bool)
    → is_lt next ≡ false → is_gt bound ≡ is_post
    → not (is_lt (ordering_then (alone (pre_letter pre post dev) (plain (kind_rank bound_pre.kind) (bound_pre.number + 1))) next))
    ≡ (is_gt (ordering_then (alone (pre_letter pre post dev) (plain (kind_rank bound_pre.kind) bound_pre.number)) bound)
    && not (same_pre (Some bound_pre) pre && is_post))
pre_step bound_pre None post dev next bound is_post not_lower e = none_step bound_pre.kind bound_pre.number post dev next bound is_post
pre_step bound_pre (Some pre) post dev next bound is_post not_lower e =
    kind_step bound_pre.kind pre.kind pre.number bound_pre.number post dev next bound is_post not_lower e

behind_next : (pre : PrePart) (v : Fields)
    → not (is_lt (behind_cmp v (Some (raised_pre pre)) None (Some 0)))
    ≡ (is_gt (behind_cmp (public_of v) (Some pre) None None) && not (same_pre (Some pre) v.pre && is_some v.post))
behind_next pre v =
    rw no_label (pre_step pre v.pre v.post v.dev
    (ordering_then (alone (post_letter v.post) (post_letter None))
    (ordering_then (alone (dev_letter v.dev) (dev_letter (Some 0))) (label_cmp v.local)))
    (ordering_then (alone (post_letter v.post) (post_letter None)) (ordering_then (alone (dev_letter v.dev) (dev_letter None)) Equal))
    (is_some v.post)
    (then_not_below (alone (post_letter v.post) (post_letter None)) _ (post_lowest v.post)
    (then_not_below (alone (dev_letter v.dev) (dev_letter (Some 0))) (label_cmp v.local) (dev_lowest v.dev) (label_not_below v.local)))
    (post_above v.post v.dev))

next_pre_says : (epoch : ℕ) (xs : List ℕ) (pre : PrePart) (v : Fields)
    → is_ge (order_of v (public_version epoch xs (Some (raised_pre pre)) None (Some 0)))
    ≡ (is_gt (order_of (public_of v) (public_version epoch xs (Some pre) None None))
    && not (is_post_release (public_version epoch xs (Some pre) None None) (public_of v)))
next_pre_says epoch xs pre v =
    let next : Fields = public_version epoch xs (Some (raised_pre pre)) None (Some 0) in
    let bound : Fields = public_version epoch xs (Some pre) None None in
    not_below (order_of v next)
    ∙ ap (λ (o : Ordering). not (is_lt o)) (order_apart v epoch xs (Some (raised_pre pre)) None (Some 0))
    ∙ under_numbers (numbers_cmp v.epoch v.release epoch xs) (behind_cmp v (Some (raised_pre pre)) None (Some 0))
    (behind_cmp (public_of v) (Some pre) None None) (same_pre (Some pre) v.pre) (is_some v.post) (behind_next pre v)
    ∙ (λ i. is_gt (sym (order_apart (public_of v) epoch xs (Some pre) None None) i)
    && not ((sym (same_release_is bound (public_of v)) i && same_pre (Some pre) v.pre) && is_some v.post))

-- ---- the row

-- no release is a post-release
release_greater : (bound : Fields) (v : Fields) → IsRelease v
    → is_gt (order_of v bound) ≡ (is_gt (order_of (public_of v) bound) && not (is_post_release bound (public_of v)))
release_greater bound v is =
    let none : is_post_release bound (public_of v) ≡ false =
    and_right (is_none bound.post && is_none bound.dev) ((same_release bound (public_of v) && same_pre bound.pre v.pre) && is_some v.post)
    (and_right (same_release bound (public_of v) && same_pre bound.pre v.pre) (is_some v.post) (rw (is.post) refl)) in
    ap (λ (u : Fields). is_gt (order_of u bound)) (sym (public_itself v is.local))
    ∙ sym (and-true _)
    ∙ ap (λ (b : Bool). is_gt (order_of (public_of v) bound) && not b) (sym none)

greater_all : (mark epoch : ℕ) (xs : List ℕ) (pre : Option PrePart) (post dev : Option ℕ) (v : Fields)
    → greater_outcome (public_version epoch xs pre post dev) pre post dev ≡ made.Spans
    → in_spans order_of (greater_by mark (public_version epoch xs pre post dev) pre post dev) v
    ≡ (is_gt (order_of (public_of v) (public_version epoch xs pre post dev))
    && not (is_post_release (public_version epoch xs pre post dev) (public_of v)))
greater_all mark epoch xs pre None (Some dev) v makes =
    points.from_says order_of order_total mark (succ_of (public_version epoch xs pre None (Some dev))) v
    ∙ above_succ epoch xs pre None (Some dev) v ∙ sym (and-true _)
greater_all mark epoch xs pre (Some post) (Some dev) v makes =
    points.from_says order_of order_total mark (succ_of (public_version epoch xs pre (Some post) (Some dev))) v
    ∙ above_succ epoch xs pre (Some post) (Some dev) v ∙ sym (and-true _)
greater_all mark epoch xs pre (Some post) None v makes =
    points.from_says order_of order_total mark (succ_of (public_version epoch xs pre (Some post) None)) v
    ∙ above_succ epoch xs pre (Some post) None v ∙ sym (and-true _)
greater_all mark epoch xs (Some pre) None None v makes =
    points.from_says order_of order_total mark (public_version epoch xs (Some (raised_pre pre)) None (Some 0)) v
    ∙ next_pre_says epoch xs pre v
greater_all mark epoch xs None None None v makes = cc makes

pub greater_says : (domain : Domain) (mark epoch : ℕ) (xs : List ℕ) (pre : Option PrePart) (post dev : Option ℕ) (v : Fields)
    → IsOf domain v
    → refusals.compared_outcome comparison.Greater domain (public_version epoch xs pre post dev) ≡ made.Spans
    → in_spans order_of (greater_spans domain mark (public_version epoch xs pre post dev)) v
    ≡ (is_gt (order_of (public_of v) (public_version epoch xs pre post dev))
    && not (is_post_release (public_version epoch xs pre post dev) (public_of v)))
greater_says All mark epoch xs pre post dev v is makes = greater_all mark epoch xs pre post dev v makes
greater_says Releases mark epoch xs pre post dev v is makes =
    points.above_says order_of order_total mark (public_version epoch xs pre post dev) v
    ∙ release_greater (public_version epoch xs pre post dev) v is

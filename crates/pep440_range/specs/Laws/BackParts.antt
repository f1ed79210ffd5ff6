-- What is written of a bound and of a gap holds where the spans do, of each version of the domain.
use Rattle.std.proofs.Common.{◌≡◌, ◌&&◌, ◌||◌, not, if◌then◌else◌, ℕ, Bool, true, false, List, [], ◌∷◌, refl, sym, ap, ◌∙◌, inl, inr, Option, Some, None}
use Rattle.std.specs.Prelude.{is_none}
use Rattle.std.specs.Cmp.{alike_right}
use Rattle.std.specs.List.{list_all}
use Rattle.std.specs.Ordering.{is_eq, is_ge, is_gt, is_le, is_lt}
use Rattle.std.specs.declared.cmp.Ordering.{Ordering}
use Rattle.std.specs.declared.cmp.Ordering.TheVariants as ordering
use Rattle.std.proofs.Math.Bool.{and-false, and-true}
use Rattle.std.proofs.lemmas.Bool.{and_parts, cases_Bool, not-true}
use Rattle.vx_scheme.specs.declared.back_fault.BackFault.{BackFault}
use Rattle.vx_scheme.specs.declared.domain.Domain.{Domain}
use Rattle.vx_scheme.specs.declared.domain.Domain.TheVariants.{All, Releases}
use Rattle.vx_scheme.specs.declared.ident.Ident.{Ident}
use Rattle.vx_scheme.specs.declared.span.Cut.{Cut}
use Rattle.vx_scheme.specs.Cuts.{cut_below, stands_below}
use Rattle.vx_range.specs.Spans.{is_point}
use Rattle.vx_range.specs.Laws.Gaps.{equal_of, point_says}
use Rattle.vx_range.specs.Laws.Points as points
use Rattle.pep440_scheme.specs.Version.{Fields, IsPublic, IsRelease, public_of}
use Rattle.pep440_scheme.specs.Order.{order_of, order_total}
use Rattle.pep440_scheme.specs.Next.{bumped, succ_of}
use Rattle.pep440_scheme.proofs.NextLaws.{from_succ}
use Rattle.pep440_range.specs.declared.construct.Construct.{Construct}
use Rattle.pep440_range.specs.declared.construct.Construct.TheVariants.{Compares}
use Rattle.pep440_range.specs.Holds.{equal, equal_by, holds, is_post_release, is_pre_by, is_pre_release, is_within, release_of, same_release}
use Rattle.pep440_range.specs.Spans.{end_of, lowest_in}
use Rattle.pep440_range.specs.Back.{apart_fault, below_by, bound_fault, gap_construct, gap_fault, holds_locals, is_local, is_local_by, is_one_version, is_series, is_some_number, lower_by, lowered_last, series_before, upper_by, upper_constructs, without_zeros}
use Rattle.pep440_range.specs.Laws.AgreeOrder.{not_below, numbers_cmp, public_ge, public_lt}
use Rattle.pep440_range.specs.Laws.AgreeNumbers.{from_to, within_is}
use Rattle.pep440_range.specs.Laws.AgreeWithin.{IsOf, below_lowest}

-- all constructs hold of the version
abbrev pub hold : List Construct → Fields → Bool
hold constructs v = list_all (λ c. holds c v) constructs

-- ---- truth values

or_other : (a b : Bool) → a ≡ false → (a || b) ≡ true → b ≡ true
or_other true b other is = cc other
or_other false b other is = is

not_both : (a b : Bool) → not (a && not b) ≡ (not a || b)
not_both true true = refl
not_both true false = refl
not_both false b = refl

up_to_and_other : (o : Ordering) → (is_le o && (not (is_eq o) && true)) ≡ is_lt o
up_to_and_other ordering.Less = refl
up_to_and_other ordering.Equal = refl
up_to_and_other ordering.Greater = refl

-- ---- public versions

public_itself : (v : Fields) → IsPublic v → public_of v ≡ v
public_itself v is = rw is refl

no_label : (parts : List Ident) → is_local_by parts ≡ false → parts ≡ []
no_label [] is = refl
no_label (part ∷ parts) is = cc is

-- where there is no refusal the version is public, and there is no other refusal
unless_local : (local : Bool) (fault : BackFault) (rest : Option BackFault) → (if local then Some fault else rest) ≡ None
    → (local ≡ false) × (rest ≡ None)
unless_local true fault rest none = cc none
unless_local false fault rest none = (refl, none)

pub bound_public : (domain : Domain) (cut : Cut Fields) → bound_fault domain (Some cut) ≡ None → IsPublic cut.version
bound_public domain cut none = no_label cut.version.local (unless_local (is_local cut.version) _ _ none).0

not_apart : (after : Bool) (mark : ℕ) → apart_fault All after mark ≡ None → after ≡ false
not_apart true mark none = cc none
not_apart false mark none = refl

bound_before : (cut : Cut Fields) → bound_fault All (Some cut) ≡ None → cut.after ≡ false
bound_before cut none = not_apart cut.after cut.mark (unless_local (is_local cut.version) _ _ none).1

-- ---- bounds among releases

-- a release is no post-release and no pre-release
no_post : (bound v : Fields) → IsRelease v → is_post_release bound (public_of v) ≡ false
no_post bound v is = rw (is.post) (rw (and-false _) (and-false _))

no_pre_by : (post : Option ℕ) (v : Fields) → IsRelease v → is_pre_by post (public_of v) ≡ false
no_pre_by None v is = rw (is.pre, is.dev) refl
no_pre_by (Some n) v is = rw (is.dev) (rw (and-false _) (and-false _))

no_pre : (bound v : Fields) → IsRelease v → is_pre_release bound (public_of v) ≡ false
no_pre bound v is = rw (no_pre_by bound.post v is) (rw (and-false _) (and-false _))

lower_release : (v w : Fields) → IsRelease v → IsPublic w → (after : Bool)
    → holds (Compares (lower_by after) w) v ≡ stands_below (order_of w v) after
lower_release v w is public' false =
    (λ i. is_ge (order_of (public_itself v is.local i) (public_itself w public' i))) ∙ sym (points.over_before order_of order_total w v)
lower_release v w is public' true =
    (λ i. is_gt (order_of (public_itself v is.local i) (public_itself w public' i)) && not (no_post (public_of w) v is i))
    ∙ and-true _ ∙ sym (points.over_after order_of order_total w v)

upper_release : (v w : Fields) → IsRelease v → IsPublic w → (after : Bool)
    → holds (Compares (upper_by after) w) v ≡ not (stands_below (order_of w v) after)
upper_release v w is public' false =
    (λ i. is_lt (order_of (public_itself v is.local i) (public_itself w public' i)) && not (no_pre (public_of w) v is i))
    ∙ and-true _ ∙ sym (points.under_before order_of order_total w v)
upper_release v w is public' true =
    (λ i. is_le (order_of (public_itself v is.local i) (public_itself w public' i))) ∙ sym (points.under_after order_of order_total w v)

-- ---- bounds among all versions

lower_all : (v w : Fields) → IsPublic w → holds (Compares (lower_by false) w) v ≡ stands_below (order_of w v) false
lower_all v w public' =
    sym (public_ge v w.epoch w.release w.pre w.post w.dev) ∙ (λ i. is_ge (order_of v (public_itself w public' i)))
    ∙ sym (points.over_before order_of order_total w v)

-- below a public version is what has its public part below it
under_public : (v w : Fields) → IsPublic w → is_lt (order_of (public_of v) (public_of w)) ≡ not (stands_below (order_of w v) false)
under_public v w public' =
    sym (public_lt v w.epoch w.release w.pre w.post w.dev) ∙ (λ i. is_lt (order_of v (public_itself w public' i)))
    ∙ sym (points.under_before order_of order_total w v)

equal_public : (v w : Fields) → IsPublic w → equal w v ≡ is_eq (order_of (public_of v) (public_of w))
equal_public v w public' = (λ i. equal_by w (public' i) v) ∙ (λ i. is_eq (order_of (public_of v) (sym (public_itself w public') i)))

upper_all : (v w : Fields) → IsPublic w → (final : Bool) → (is_none w.pre && is_none w.dev) ≡ final
    → hold (below_by w final) v ≡ not (stands_below (order_of w v) false)
upper_all v w public' true e =
    (λ i. is_le (order_of (public_of v) (public_of w)) && (not (equal_public v w public' i) && true))
    ∙ up_to_and_other (order_of (public_of v) (public_of w)) ∙ under_public v w public'
upper_all v w public' false e =
    and-true _
    ∙ (λ i. is_lt (order_of (public_of v) (public_of w))
    && not (e i && (same_release (public_of w) (public_of v) && is_pre_by w.post (public_of v))))
    ∙ and-true _ ∙ under_public v w public'

-- ---- bounds

pub lower_says : (domain : Domain) (v : Fields) (cut : Cut Fields) → IsOf domain v → bound_fault domain (Some cut) ≡ None
    → holds (Compares (lower_by cut.after) cut.version) v ≡ cut_below order_of cut v
lower_says Releases v cut is none = lower_release v cut.version is (bound_public Releases cut none) cut.after
lower_says All v cut is none =
    let before = bound_before cut none in
    rw before (lower_all v cut.version (bound_public All cut none))

pub upper_says : (domain : Domain) (v : Fields) (cut : Cut Fields) → IsOf domain v → bound_fault domain (Some cut) ≡ None
    → hold (upper_constructs domain (Some cut)) v ≡ not (cut_below order_of cut v)
upper_says Releases v cut is none = and-true _ ∙ upper_release v cut.version is (bound_public Releases cut none) cut.after
upper_says All v cut is none =
    let before = bound_before cut none in
    upper_all v cut.version (bound_public All cut none) (is_none cut.version.pre && is_none cut.version.dev) refl
    ∙ (λ i. not (stands_below (order_of cut.version v) (sym before i)))

-- ---- one version

equal_itself : (v w : Fields) → IsPublic v → (local : List Ident) → equal_by w local v ≡ is_eq (order_of v w)
equal_itself v w is [] = λ i. is_eq (order_of (public_itself v is i) w)
equal_itself v w is (part ∷ parts) = refl

equal_local : (v w : Fields) (local : List Ident) → is_local_by local ≡ true → equal_by w local v ≡ is_eq (order_of v w)
equal_local v w [] is = cc is
equal_local v w (part ∷ parts) is = refl

-- between the cuts before a public version and before the next one
locals_say : (v a b : Fields) (c d : Bool) → ((not c && not d) && (not (is_local a) && is_eq (order_of b (succ_of a)))) ≡ true
    → equal a v ≡ (stands_below (order_of a v) c && not (stands_below (order_of b v) d))
locals_say v a b true d is = absurd (cc is)
locals_say v a b false true is = absurd (cc is)
locals_say v a b false false is =
    let both = and_parts (not (is_local a)) (is_eq (order_of b (succ_of a))) is in
    let public' = no_label a.local (not-true (is_local a) both.0) in
    (λ i. equal_by a (public' i) v) ∙ sym (from_succ a v public')
    ∙ (λ i. sym (not_below (order_of v a)) i
    && is_lt (sym (alike_right order_total b (succ_of a) v (equal_of (order_of b (succ_of a)) both.1)) i))
    ∙ (λ i. sym (points.over_before order_of order_total a v) i && sym (points.under_before order_of order_total b v) i)

one_all : (v : Fields) (c d : Cut Fields) (point : Bool) → is_point order_of c d ≡ point
    → ((point && is_local c.version) || holds_locals c d) ≡ true
    → equal c.version v ≡ (cut_below order_of c v && not (cut_below order_of d v))
one_all v c d true is one = elim (cases_Bool (is_local c.version)) [
  | inl local ↦ equal_local v c.version c.version.local local
      ∙ sym (point_says order_of order_total c.after d.after c.version d.version v is)
  | inr public' ↦ locals_say v c.version d.version c.after d.after (or_other (is_local c.version) (holds_locals c d) public' one)
]
one_all v c d false is one = locals_say v c.version d.version c.after d.after one

pub one_says : (domain : Domain) (v : Fields) (c d : Cut Fields) → IsOf domain v → is_one_version domain c d ≡ true
    → equal c.version v ≡ (cut_below order_of c v && not (cut_below order_of d v))
one_says Releases v c d is one =
    equal_itself v c.version is.local c.version.local ∙ sym (point_says order_of order_total c.after d.after c.version d.version v one)
one_says All v c d is one = one_all v c d (is_point order_of c d) refl one

-- ---- the versions of a release

pub lowered_some : (numbers : List ℕ) → is_some_number numbers ≡ true → is_some_number (lowered_last numbers) ≡ true
lowered_some [] some = some
lowered_some (n ∷ []) some = refl
lowered_some (n ∷ m ∷ numbers) some = refl

within_some : (v : Fields) (epoch : ℕ) (numbers : List ℕ) → is_some_number numbers ≡ true
    → is_within (release_of epoch numbers) v
    ≡ from_to (numbers_cmp v.epoch v.release epoch numbers) (numbers_cmp v.epoch v.release epoch (bumped numbers))
within_some v epoch [] some = cc some
within_some v epoch (n ∷ numbers) some = within_is v epoch n numbers

series_by : (domain : Domain) (v a b : Fields) (epoch : ℕ) (numbers : List ℕ) → IsOf domain v → is_some_number numbers ≡ true
    → is_eq (order_of a (lowest_in domain (release_of epoch numbers))) ≡ true
    → is_eq (order_of b (end_of domain (release_of epoch numbers))) ≡ true
    → is_within (release_of epoch numbers) v ≡ (stands_below (order_of a v) false && not (stands_below (order_of b v) false))
series_by domain v a b epoch numbers is some low high =
    let lowest : Fields = lowest_in domain (release_of epoch numbers) in
    let end : Fields = end_of domain (release_of epoch numbers) in
    within_some v epoch numbers some
    ∙ (λ i. not (sym (below_lowest domain v epoch numbers is) i) && sym (below_lowest domain v epoch (bumped numbers) is) i)
    ∙ (λ i. sym (not_below (order_of v lowest)) i && is_lt (order_of v end))
    ∙ (λ i. is_ge (sym (alike_right order_total a lowest v (equal_of (order_of a lowest) low)) i)
    && is_lt (sym (alike_right order_total b end v (equal_of (order_of b end) high)) i))
    ∙ (λ i. sym (points.over_before order_of order_total a v) i && sym (points.under_before order_of order_total b v) i)

cuts_before : (domain : Domain) (v : Fields) (a b : Fields) (c d : Bool) → IsOf domain v
    → ((not c && not d) && (is_some_number (without_zeros b.release)
    && (is_eq (order_of a (lowest_in domain (series_before b))) && is_eq (order_of b (end_of domain (series_before b)))))) ≡ true
    → is_within (series_before b) v ≡ (stands_below (order_of a v) c && not (stands_below (order_of b v) d))
cuts_before domain v a b true d is one = absurd (cc one)
cuts_before domain v a b false true is one = absurd (cc one)
cuts_before domain v a b false false is one =
    let some = and_parts (is_some_number (without_zeros b.release))
    (is_eq (order_of a (lowest_in domain (series_before b))) && is_eq (order_of b (end_of domain (series_before b)))) one in
    let ends = and_parts (is_eq (order_of a (lowest_in domain (series_before b))))
    (is_eq (order_of b (end_of domain (series_before b)))) some.1 in
    series_by domain v a b b.epoch (lowered_last (without_zeros b.release)) is (lowered_some (without_zeros b.release) some.0) ends.0 ends.1

pub series_says : (domain : Domain) (v : Fields) (c d : Cut Fields) → IsOf domain v → is_series domain c d ≡ true
    → is_within (series_before d.version) v ≡ (cut_below order_of c v && not (cut_below order_of d v))
series_says domain v c d is one = cuts_before domain v c.version d.version c.after d.after is one

-- ---- gaps

-- where a gap that holds not one version is not refused, it holds the versions of a release
pub gap_series : (one series : Bool) (fault : BackFault) → (if one || series then None else Some fault) ≡ None → one ≡ false → series ≡ true
gap_series true series fault none other = cc other
gap_series false true fault none other = refl
gap_series false false fault none other = cc none

pub gap_says : (domain : Domain) (v : Fields) (c d : Cut Fields) → IsOf domain v → gap_fault domain (Some c) (Some d) ≡ None
    → holds (gap_construct domain c d) v ≡ (not (cut_below order_of c v) || cut_below order_of d v)
gap_says domain v c d is none = elim (cases_Bool (is_one_version domain c d)) [
  | inl one ↦ rw one (ap not (one_says domain v c d is one) ∙ not_both (cut_below order_of c v) (cut_below order_of d v))
  | inr other ↦ rw other
      (ap not (series_says domain v c d is (gap_series (is_one_version domain c d) (is_series domain c d) _ none other))
      ∙ not_both (cut_below order_of c v) (cut_below order_of d v))
]

-- How the test of one version and the order agree in a domain.
use Rattle.std.proofs.Common.{◌≡◌, ◌≢◌, ◌||◌, Bool, true, false, List, [], ◌∷◌, refl, sym, ap, ◌∙◌, inl, inr, Option, Some, None}
use Rattle.std.specs.Option.{is_some}
use Rattle.std.specs.Ordering.{ordering_then, is_ge, is_lt}
use Rattle.std.specs.declared.cmp.Ordering.{Ordering}
use Rattle.std.specs.declared.cmp.Ordering.TheVariants as ordering
use Rattle.std.proofs.lemmas.Bool.{cases_Bool}
use Rattle.vx_order.specs.declared.letter.Letter.{Letter}
use Rattle.vx_order.specs.Letters.{letters_cmp}
use Rattle.vx_scheme.specs.declared.domain.Domain.{Domain}
use Rattle.vx_scheme.specs.declared.domain.Domain.TheVariants.{All, Releases}
use Rattle.vx_scheme.specs.Native.{by_domain}
use Rattle.vx_scheme.specs.Cuts.{stands_below}
use Rattle.rpm_scheme.specs.Version.{Fields, HasRelease, IsWithoutRelease, count_letter, end_rank}
use Rattle.rpm_scheme.specs.Order.{order_of, release_key}
use Rattle.relation_ranges.specs.declared.comparison.Comparison.{Comparison}
use Rattle.relation_ranges.specs.declared.comparison.Comparison.TheVariants.{Less, LessOrEqual, Equal, GreaterOrEqual, Greater}
use Rattle.relation_ranges.specs.Comparison.{is_so}
use Rattle.relation_ranges.specs.Rpm.Holds.{release_order, test_order}
use Rattle.relation_ranges.specs.Rpm.Spans.{has_release, is_open, named_in}

-- ---- how the epochs, the versions and the releases compare: a and b are the first two answers

abbrev Releases' : Type 0
Releases' = Option (List Letter)

abbrev pub ordered : Ordering → Ordering → Releases' → Releases' → Ordering
ordered a b r s = ordering_then a (ordering_then b (ordering_then (letters_cmp end_rank (release_key r) (release_key s)) ordering.Equal))

abbrev pub tested : Ordering → Ordering → Releases' → Releases' → Ordering
tested a b r s = ordering_then (ordering_then a (ordering_then b ordering.Equal)) (release_order r s)

abbrev pub epochs : Fields → Fields → Ordering
epochs v w = letters_cmp end_rank (count_letter v.epoch ∷ []) (count_letter w.epoch ∷ [])

abbrev pub versions : Fields → Fields → Ordering
versions v w = letters_cmp end_rank v.version w.version

pub order_is : (v w : Fields) → order_of v w ≡ ordered (epochs v w) (versions v w) v.release w.release
order_is v w = refl

pub test_is : (v w : Fields) → test_order v w ≡ tested (epochs v w) (versions v w) v.release w.release
test_is v w = refl

-- two releases
then_split : (a b c : Ordering) → ordering_then a (ordering_then b (ordering_then c ordering.Equal)) ≡ ordering_then (ordering_then a (ordering_then b ordering.Equal)) c
then_split ordering.Less b c = refl
then_split ordering.Greater b c = refl
then_split ordering.Equal ordering.Less c = refl
then_split ordering.Equal ordering.Greater c = refl
then_split ordering.Equal ordering.Equal ordering.Less = refl
then_split ordering.Equal ordering.Equal ordering.Equal = refl
then_split ordering.Equal ordering.Equal ordering.Greater = refl

both_have : (a b : Ordering) (r s : List Letter) → ordered a b (Some r) (Some s) ≡ tested a b (Some r) (Some s)
both_have a b r s = then_split a b (letters_cmp end_rank r s)

neither_has : (a b : Ordering) → ordered a b None None ≡ tested a b None None
neither_has a b = then_split a b ordering.Equal

-- one release, which stands above none
least_has : (a b : Ordering) (r : List Letter) → is_ge (ordered a b (Some r) None) ≡ is_ge (tested a b (Some r) None)
least_has ordering.Less b r = refl
least_has ordering.Greater b r = refl
least_has ordering.Equal ordering.Less r = refl
least_has ordering.Equal ordering.Greater r = refl
least_has ordering.Equal ordering.Equal r = refl

below_has : (a b : Ordering) (r : List Letter) → is_lt (ordered a b (Some r) None) ≡ is_lt (tested a b (Some r) None)
below_has ordering.Less b r = refl
below_has ordering.Greater b r = refl
below_has ordering.Equal ordering.Less r = refl
below_has ordering.Equal ordering.Greater r = refl
below_has ordering.Equal ordering.Equal r = refl

-- ---- in a domain

some_of : (r : Releases') → r ≢ None → (x : List Letter) × (r ≡ Some x)
some_of None some = absurd (some refl)
some_of (Some x) some = (x, refl)

pub none_of : (r : Releases') → is_some r ≡ false → r ≡ None
none_of None none = refl
none_of (Some x) none = cc none

-- the comparison can be made with the bound among the versions with a release, or the bound has none among the others
abbrev pub Fits : Domain → Comparison → Fields → Type 0
Fits All how bound = (has_release bound || is_open how) ≡ true
Fits Releases how bound = bound.release ≡ None

same_all : (how : Comparison) (a b : Ordering) (r : List Letter) (s : Releases') → (is_some s || is_open how) ≡ true → is_so how (ordered a b (Some r) s) ≡ is_so how (tested a b (Some r) s)
same_all how a b r (Some s) fits = ap (is_so how) (both_have a b r s)
same_all Less a b r None fits = below_has a b r
same_all LessOrEqual a b r None fits = cc fits
same_all Equal a b r None fits = cc fits
same_all GreaterOrEqual a b r None fits = least_has a b r
same_all Greater a b r None fits = cc fits

-- the order of a version of the domain answers a comparison as the test does
pub same_in : (domain : Domain) (how : Comparison) (bound v : Fields) → by_domain HasRelease IsWithoutRelease domain v → Fits domain how bound → is_so how (order_of v bound) ≡ is_so how (test_order v bound)
same_in All how bound v within fits =
    let r = some_of v.release within in
    let a = epochs v bound in
    let b = versions v bound in
    ap (λ x. is_so how (ordered a b x bound.release)) r.1 ∙ same_all how a b r.0 bound.release fits ∙ ap (λ x. is_so how (tested a b x bound.release)) (sym r.1)
same_in Releases how bound v within fits =
    let a = epochs v bound in
    let b = versions v bound in
    ap (λ x. is_so how (ordered a b x bound.release)) within ∙ ap (λ s. is_so how (ordered a b None s)) fits ∙ ap (is_so how) (neither_has a b)
    ∙ ap (λ s. is_so how (tested a b None s)) (sym fits) ∙ ap (λ x. is_so how (tested a b x bound.release)) (sym within)

-- ---- the version that stands for a bound among releases

pub named_none : (bound : Fields) → (named_in Releases bound).release ≡ None
named_none bound = elim (cases_Bool (has_release bound)) [
  | inl is ↦ rw is refl
  | inr other ↦ rw other (none_of bound.release other)
]

-- the test does not see the release
tested_none : (a b : Ordering) (s : Releases') → tested a b None s ≡ tested a b None None
tested_none a b None = refl
tested_none a b (Some s) = refl

named_test : (bound v : Fields) → v.release ≡ None → test_order v (named_in Releases bound) ≡ test_order v bound
named_test bound v none = elim (cases_Bool (has_release bound)) [
  | inl is ↦ rw is (ap (λ x. tested (epochs v bound) (versions v bound) x None) none ∙ sym (tested_none (epochs v bound) (versions v bound) bound.release) ∙ ap (λ x. tested (epochs v bound) (versions v bound) x bound.release) (sym none))
  | inr other ↦ rw other refl
]

-- the order at the version that stands for a bound answers a comparison as the test at the bound does
pub same_named : (domain : Domain) (how : Comparison) (bound v : Fields) → by_domain HasRelease IsWithoutRelease domain v → (domain ≡ All → (has_release bound || is_open how) ≡ true)
    → is_so how (order_of v (named_in domain bound)) ≡ is_so how (test_order v bound)
same_named All how bound v within fits = same_in All how bound v within (fits refl)
same_named Releases how bound v within fits = same_in Releases how (named_in Releases bound) v within (named_none bound) ∙ ap (is_so how) (named_test bound v within)

-- ---- moved cuts

-- a version without a release against one with one
apart : (a b : Ordering) (s : List Letter) (c d : Bool) → stands_below (ordered a b None (Some s)) c ≡ stands_below (ordered a b None (Some s)) d
apart ordering.Less b s c d = refl
apart ordering.Greater b s c d = refl
apart ordering.Equal ordering.Less s c d = refl
apart ordering.Equal ordering.Greater s c d = refl
apart ordering.Equal ordering.Equal s c d = refl

-- one with a release against one without, and without its own
behind : (a b : Ordering) (r : List Letter) (c : Bool) → stands_below (ordered a b None None) true ≡ stands_below (ordered a b (Some r) None) c
behind ordering.Less b r c = refl
behind ordering.Greater b r c = refl
behind ordering.Equal ordering.Less r c = refl
behind ordering.Equal ordering.Greater r c = refl
behind ordering.Equal ordering.Equal r c = refl

pub unreleased : (bound v : Fields) (c d : Bool) → v.release ≢ None → bound.release ≡ None → stands_below (order_of bound v) c ≡ stands_below (order_of bound v) d
unreleased bound v c d within none =
    let s = some_of v.release within in
    let a = epochs bound v in
    let b = versions bound v in
    ap (λ x. stands_below (ordered a b x v.release) c) none ∙ ap (λ x. stands_below (ordered a b None x) c) s.1 ∙ apart a b s.0 c d
    ∙ ap (λ x. stands_below (ordered a b None x) d) (sym s.1) ∙ ap (λ x. stands_below (ordered a b x v.release) d) (sym none)

pub released : (bound v : Fields) (c : Bool) → v.release ≡ None → bound.release ≢ None → stands_below (ordered (epochs bound v) (versions bound v) None v.release) true ≡ stands_below (order_of bound v) c
released bound v c within some =
    let r = some_of bound.release some in
    let a = epochs bound v in
    let b = versions bound v in
    ap (λ x. stands_below (ordered a b None x) true) within ∙ behind a b r.0 c
    ∙ ap (λ x. stands_below (ordered a b (Some r.0) x) c) (sym within) ∙ ap (λ x. stands_below (ordered a b x v.release) c) (sym r.1)

-- a version that is order-equal to one with a release has one
unequal : (a b : Ordering) (s : List Letter) → ordered a b None (Some s) ≢ ordering.Equal
unequal ordering.Less b s e = cc e
unequal ordering.Greater b s e = cc e
unequal ordering.Equal ordering.Less s e = cc e
unequal ordering.Equal ordering.Greater s e = cc e
unequal ordering.Equal ordering.Equal s e = cc e

equal_by : (a b : Ordering) (r s : Releases') → ordered a b r s ≡ ordering.Equal → is_some s ≡ true → is_some r ≡ true
equal_by a b (Some r) s e is = refl
equal_by a b None None e is = is
equal_by a b None (Some s) e is = absurd (unequal a b s e)

pub equal_has : (v w : Fields) → order_of v w ≡ ordering.Equal → has_release w ≡ true → has_release v ≡ true
equal_has v w e is = equal_by (epochs v w) (versions v w) v.release w.release e is

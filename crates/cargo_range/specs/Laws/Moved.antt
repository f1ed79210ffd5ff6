-- Spans with their cuts moved, without those that hold no release, and joined, hold the same releases.
use Rattle.std.proofs.Common.{◌≡◌, ◌∙◌, ◌&&◌, ◌||◌, ◌==◌, not, ℕ, Bool, true, false, List, [], ◌∷◌, length, map, filter, refl, sym, ap, Option, Some, None, inl, inr, arith}
use Rattle.std.specs.List.{AllByRecursion}
use Rattle.std.specs.Cmp.{IsTotalOrder, on_total, then_total, bool_cmp_total}
use Rattle.std.specs.Ordering.{is_eq, is_lt, bool_cmp, ordering_then, ordering_reverse}
use Rattle.std.specs.declared.cmp.Ordering.{Ordering}
use Rattle.std.specs.declared.cmp.Ordering.TheVariants.{Less, Equal, Greater}
use Rattle.std.proofs.lemmas.Bool.{cases_Bool, ne_eqb}
use Rattle.std.proofs.lemmas.Grind.{common_steps}
use Rattle.semver.specs.Parse.{Parts}
use Rattle.vx_scheme.specs.declared.span.Cut.{Cut}
use Rattle.vx_scheme.specs.declared.span.Span.{Span}
use Rattle.vx_scheme.specs.Cuts.{stands_below, cut_below, cut_cmp, is_over, is_under, in_span, in_spans}
use Rattle.vx_scheme.specs.Native.{CutIs, EachVersion}
use Rattle.vx_scheme.proofs.CutLaws.{cut_below-lower}
use Rattle.cargo_range.specs.Version.{IsVersion, IsRelease, IsPlain, release_of}
use Rattle.cargo_range.specs.Order.{precedence, precedence_total}
use Rattle.cargo_range.specs.Back.{move_cut, move_bound, move_span, are_apart, is_proper, touch, join_spans, join_behind, among_releases}

-- ---- a cut

and_last : (a : Bool) → (a && true) ≡ a
and_last true = refl
and_last false = refl

and_never : (a : Bool) → (a && false) ≡ false
and_never true = refl
and_never false = refl

-- a cut at a release stays, since the build counts for nothing
release_stays : (i j k : ℕ) (build : List ℕ) (after : Bool) (v : Parts)
    → stands_below (precedence (release_of i j k) v) (after && true) ≡ stands_below (precedence (i, j, k, [], build) v) after
release_stays i j k build after v = ap (λ a. stands_below (precedence (release_of i j k) v) a) (and_last after)

-- one at a pre-release parts the same releases before the release of its numbers
pre_release_moves : (i j k b : ℕ) (pre build : List ℕ) (after : Bool) (v : Parts) → IsRelease v
    → stands_below (precedence (release_of i j k) v) false ≡ stands_below (precedence (i, j, k, b ∷ pre, build) v) after
pre_release_moves i j k b pre build true v release = rw release (grind (arith, common_steps))
pre_release_moves i j k b pre build false v release = rw release (grind (arith, common_steps))

moved_at : (w : Parts) (after : Bool) (v : Parts) → IsRelease v
    → stands_below (precedence (release_of w.0 w.1 w.2) v) (after && (length w.3 == 0)) ≡ stands_below (precedence w v) after
moved_at (i, j, k, [], build) after v release = release_stays i j k build after v
moved_at (i, j, k, b ∷ pre, build) after v release =
    ap (λ last. stands_below (precedence (release_of i j k) v) (after && last)) (ne_eqb (length (b ∷ pre)) 0 (omega arith))
    ∙ ap (λ a. stands_below (precedence (release_of i j k) v) a) (and_never after) ∙ pre_release_moves i j k b pre build after v release

-- a moved cut parts the same releases
pub moved_says : (cut : Cut Parts) (v : Parts) → IsRelease v → cut_below precedence (move_cut cut) v ≡ cut_below precedence cut v
moved_says cut v release = moved_at cut.version cut.after v release

-- ---- spans of moved cuts

module _ (v : Parts) where
  -- which cuts stand below the version
  abbrev below : Cut Parts → Bool
  below cut = cut_below precedence cut v

  over_moved : IsRelease v → (cut : Option (Cut Parts)) → is_over below (move_bound cut) ≡ is_over below cut
  over_moved release None = refl
  over_moved release (Some cut) = moved_says cut v release

  under_moved : IsRelease v → (cut : Option (Cut Parts)) → is_under below (move_bound cut) ≡ is_under below cut
  under_moved release None = refl
  under_moved release (Some cut) = ap not (moved_says cut v release)

  spans_moved : IsRelease v → (spans : List (Span Parts)) → in_spans precedence (map move_span spans) v ≡ in_spans precedence spans v
  spans_moved release [] = refl
  spans_moved release (span ∷ spans) = λ i. (over_moved release span.lower i && under_moved release span.upper i) || spans_moved release spans i

-- ---- cuts against one another

cut_total : IsTotalOrder (cut_cmp precedence)
cut_total =
    then_total (on_total (λ (cut : Cut Parts). cut.version) precedence_total) (on_total (λ (cut : Cut Parts). cut.after) bool_cmp_total)

is_less : (o : Ordering) → is_lt o ≡ true → o ≡ Less
is_less Less e = refl
is_less Equal e = cc e
is_less Greater e = cc e

is_equal : (o : Ordering) → is_eq o ≡ true → o ≡ Equal
is_equal Less e = cc e
is_equal Equal e = refl
is_equal Greater e = cc e

both_equal : (o p : Ordering) → ordering_then o p ≡ Equal → (o ≡ Equal) × (p ≡ Equal)
both_equal Less p e = absurd (cc e)
both_equal Equal p e = (refl, e)
both_equal Greater p e = absurd (cc e)

same_side : (a b : Bool) → bool_cmp a b ≡ Equal → a ≡ b
same_side true true e = refl
same_side false false e = refl
same_side true false e = absurd (cc e)
same_side false true e = absurd (cc e)

-- equal cuts stand below the same versions
below_alike : (c d : Cut Parts) (v : Parts) → cut_cmp precedence c d ≡ Equal → cut_below precedence c v ≡ cut_below precedence d v
below_alike c d v e =
    let parts = both_equal (precedence c.version d.version) (bool_cmp c.after d.after) e in
    λ i. stands_below (precedence_total.congr c.version d.version v parts.0 i) (same_side c.after d.after parts.1 i)

-- ---- spans that hold no release

none_between : (a b : Bool) → (a ≡ true → b ≡ true) → (a && not b) ≡ false
none_between false b h = refl
none_between true b h = ap not (h refl)

not_apart : (lower upper : Cut Parts) (v : Parts) (o : Ordering) → cut_cmp precedence lower upper ≡ o → is_lt o ≡ false
    → (cut_below precedence lower v && not (cut_below precedence upper v)) ≡ false
not_apart lower upper v Less e is = absurd (cc is)
not_apart lower upper v Equal e is =
    none_between (cut_below precedence lower v) (cut_below precedence upper v) (λ h. sym (below_alike lower upper v e) ∙ h)
not_apart lower upper v Greater e is =
    none_between (cut_below precedence lower v) (cut_below precedence upper v)
    (cut_below-lower precedence precedence_total upper lower v (cut_total.antisymm upper lower ∙ ap ordering_reverse e))

improper_says : (lower upper : Option (Cut Parts)) (v : Parts) → are_apart lower upper ≡ false
    → (is_over (below v) lower && is_under (below v) upper) ≡ false
improper_says None upper v is = absurd (cc is)
improper_says (Some lower) None v is = absurd (cc is)
improper_says (Some lower) (Some upper) v is = not_apart lower upper v (cut_cmp precedence lower upper) refl is

kept_says : (spans : List (Span Parts)) (v : Parts) → in_spans precedence (filter is_proper spans) v ≡ in_spans precedence spans v
kept_says [] v = refl
kept_says (span ∷ spans) v = elim (cases_Bool (is_proper span)) [
  | inl proper ↦ rw proper (ap (λ rest. in_span precedence span v || rest) (kept_says spans v))
  | inr empty ↦ rw (empty, improper_says span.lower span.upper v empty) (kept_says spans v)
]

abbrev AreProper : List (Span Parts) → Type 0
AreProper spans = AllByRecursion (λ span. is_proper span ≡ true) spans

kept_proper : (spans : List (Span Parts)) → AreProper (filter is_proper spans)
kept_proper [] = tt
kept_proper (span ∷ spans) = elim (cases_Bool (is_proper span)) [
  | inl proper ↦ rw proper (proper, kept_proper spans)
  | inr empty ↦ rw empty (kept_proper spans)
]

-- ---- spans that touch

join_says : (a b w : Bool) → (b ≡ true → a ≡ true) → (w ≡ false → b ≡ true) → (a && w) ≡ ((a && not b) || (b && w))
join_says true true w h k = refl
join_says false true w h k = absurd (cc (h refl))
join_says true false true h k = refl
join_says false false true h k = refl
join_says a false false h k = absurd (cc (k refl))

over_by : (lower : Option (Cut Parts)) (upper : Cut Parts) (v : Parts) → are_apart lower (Some upper) ≡ true → below v upper ≡ true
    → is_over (below v) lower ≡ true
over_by None upper v apart h = refl
over_by (Some lower) upper v apart h = cut_below-lower precedence precedence_total lower upper v (is_less _ apart) h

not_false : (a : Bool) → not a ≡ false → a ≡ true
not_false true e = refl
not_false false e = absurd (cc e)

under_by : (lower : Cut Parts) (upper : Option (Cut Parts)) (v : Parts) → are_apart (Some lower) upper ≡ true
    → is_under (below v) upper ≡ false → below v lower ≡ true
under_by lower None v apart h = absurd (cc h)
under_by lower (Some upper) v apart h = cut_below-lower precedence precedence_total lower upper v (is_less _ apart) (not_false _ h)

touch_says : (low up low' up' : Option (Cut Parts)) (v : Parts) → are_apart low up ≡ true → are_apart low' up' ≡ true → touch up low' ≡ true
    → (is_over (below v) low && is_under (below v) up')
    ≡ ((is_over (below v) low && is_under (below v) up) || (is_over (below v) low' && is_under (below v) up'))
touch_says low None low' up' v p q t = absurd (cc t)
touch_says low (Some up) None up' v p q t = absurd (cc t)
touch_says low (Some up) (Some low') up' v p q t =
    let same : below v up ≡ below v low' = below_alike up low' v (is_equal _ t) in
    join_says (is_over (below v) low) (below v up) (is_under (below v) up') (over_by low up v p) (λ h. same ∙ under_by low' up' v q h)
    ∙ ap (λ b. (is_over (below v) low && not (below v up)) || (b && is_under (below v) up')) same

apart_joined : (low up low' up' : Option (Cut Parts)) → are_apart low up ≡ true → are_apart low' up' ≡ true → touch up low' ≡ true
    → are_apart low up' ≡ true
apart_joined None up low' up' p q t = refl
apart_joined (Some low) up low' None p q t = refl
apart_joined (Some low) None low' (Some up') p q t = absurd (cc t)
apart_joined (Some low) (Some up) None (Some up') p q t = absurd (cc t)
apart_joined (Some low) (Some up) (Some low') (Some up') p q t =
    ap is_lt (cut_total.trans low up up' (is_less _ p) (cut_total.congr up low' up' (is_equal _ t) ∙ is_less _ q))

or_parts : (a b c : Bool) → ((a || b) || c) ≡ (a || (b || c))
or_parts true b c = refl
or_parts false b c = refl

joined_says : (span : Span Parts) (spans : List (Span Parts)) (v : Parts) → is_proper span ≡ true → AreProper spans
    → in_spans precedence (join_behind span spans) v ≡ (in_span precedence span v || in_spans precedence spans v)
joined_says span [] v proper all = refl
joined_says span (next ∷ spans) v proper all = elim (cases_Bool (touch span.upper next.lower)) [
  | inl meets ↦ rw meets
      (joined_says (record { lower = span.lower; upper = next.upper }) spans v (apart_joined span.lower span.upper next.lower next.upper proper all.0 meets) all.1
      ∙ ap (λ here. here || in_spans precedence spans v) (touch_says span.lower span.upper next.lower next.upper v proper all.0 meets)
      ∙ or_parts (in_span precedence span v) (in_span precedence next v) (in_spans precedence spans v))
  | inr gap ↦ rw gap (ap (λ rest. in_span precedence span v || rest) (joined_says next spans v all.0 all.1))
]

all_joined_say : (spans : List (Span Parts)) (v : Parts) → AreProper spans
    → in_spans precedence (join_spans spans) v ≡ in_spans precedence spans v
all_joined_say [] v all = refl
all_joined_say (span ∷ spans) v all = joined_says span spans v all.0 all.1

-- the spans among releases hold the same releases
pub among_say : (spans : List (Span Parts)) (v : Parts) → IsRelease v
    → in_spans precedence (among_releases spans) v ≡ in_spans precedence spans v
among_say spans v release =
    all_joined_say (filter is_proper (map move_span spans)) v (kept_proper (map move_span spans)) ∙ kept_says (map move_span spans) v ∙ spans_moved v release spans

-- ---- their versions

moved_plain : (cut : Option (Cut Parts)) → CutIs IsVersion cut → CutIs IsPlain (move_bound cut)
moved_plain None is = tt
moved_plain (Some cut) is = record { version = (is.0, is.1, is.2, refl, refl); pre = refl; build = refl }

spans_plain : (spans : List (Span Parts)) → EachVersion IsVersion spans → EachVersion IsPlain (map move_span spans)
spans_plain [] are = tt
spans_plain (span ∷ spans) are = ((moved_plain span.lower are.0.0, moved_plain span.upper are.0.1), spans_plain spans are.1)

kept_plain : (spans : List (Span Parts)) → EachVersion IsPlain spans → EachVersion IsPlain (filter is_proper spans)
kept_plain [] are = tt
kept_plain (span ∷ spans) are = elim (cases_Bool (is_proper span)) [
  | inl proper ↦ rw proper (are.0, kept_plain spans are.1)
  | inr empty ↦ rw empty (kept_plain spans are.1)
]

joined_plain : (span : Span Parts) (spans : List (Span Parts)) → EachVersion IsPlain (span ∷ spans)
    → EachVersion IsPlain (join_behind span spans)
joined_plain span [] are = are
joined_plain span (next ∷ spans) are = elim (cases_Bool (touch span.upper next.lower)) [
  | inl meets ↦ rw meets (joined_plain (record { lower = span.lower; upper = next.upper }) spans ((are.0.0, are.1.0.1), are.1.1))
  | inr gap ↦ rw gap (are.0, joined_plain next spans are.1)
]

all_joined_plain : (spans : List (Span Parts)) → EachVersion IsPlain spans → EachVersion IsPlain (join_spans spans)
all_joined_plain [] are = tt
all_joined_plain (span ∷ spans) are = joined_plain span spans are

pub among_plain : (spans : List (Span Parts)) → EachVersion IsVersion spans → EachVersion IsPlain (among_releases spans)
among_plain spans are = all_joined_plain (filter is_proper (map move_span spans)) (kept_plain (map move_span spans) (spans_plain spans are))

-- Where RubyGems' `~>` is refused for want of an end, no versions up to a size could bound it.
use Rattle.std.proofs.Common.{◌≡◌, ◌<◌, ◌≤◌, ◌+◌, ◌-◌, ◌^◌, ◌&&◌, ◌==◌, if◌then◌else◌, ℕ, zero, suc, max, Bool, true, false, List, [], ◌∷◌, ◌++◌, length, take, replicate, Less, Equal, Greater, refl, sym, ap, ◌∙◌, subst, nat_lt, arith, length-append}
use Rattle.std.specs.Prelude.{⊤}
use Rattle.std.specs.Cmp.{tied_itself}
use Rattle.std.specs.List.{AllByRecursion, list_all}
use Rattle.std.specs.Ordering.{is_ge, is_lt}
use Rattle.std.proofs.Math.Bool.{and-false}
use Rattle.std.proofs.lemmas.Bool.{and_from, false≢true}
use Rattle.std.proofs.lemmas.Bool.Decides.{nat_tests}
use Rattle.std.proofs.lemmas.List.Folds.{list_all-append}
use Rattle.vx_scheme.specs.declared.domain.Domain.{Domain}
use Rattle.vx_scheme.specs.declared.domain.Domain.TheVariants.{All, Releases}
use Rattle.vx_scheme.specs.declared.ident.Ident.{Ident}
use Rattle.vx_scheme.specs.declared.ident.Ident.TheVariants.{Number, Word}
use Rattle.vx_scheme.specs.declared.range_fault.EndKind.{EndKind}
use Rattle.vx_scheme.specs.Native.{by_domain}
use Rattle.vx_range.specs.declared.making.Outcome.TheVariants as made
use Rattle.vx_range.specs.Apart.{AreToldApart}
use Rattle.gem_scheme.specs.Version.{Fields, IsRelease, IsVersion, begins_with_number, bump_of, front, is_number, is_segment, last_number, last_raised, release_of, shortened, number_to_raise}
use Rattle.gem_scheme.specs.Order.{canonical, order_of, order_total, without_zeros}
use Rattle.gem_scheme.proofs.SegmentLaws.{bump_made, bump_version, front_all, series_some}
use Rattle.relation_ranges.specs.declared.gem.operators.Operator.{Operator}
use Rattle.relation_ranges.specs.declared.gem.operators.Operator.TheVariants.{Compares, NotEqual, Twiddle}
use Rattle.relation_ranges.specs.Gem.Apart.{Tells, before_bump, last_lowered, more_than, size, words_behind_bump}
use Rattle.relation_ranges.specs.Gem.Holds.{holds}
use Rattle.relation_ranges.specs.Gem.Spans.{outcome}
use Rattle.relation_ranges.specs.Laws.GemTable.{release_is}
use Rattle.relation_ranges.specs.Laws.GemLetters.{IsSegmentBelow, above_all, below_raised, canonical_below, canonical_length, canonical_numbers, canonical_of, segments_cmp, compared_alike, each_below, front_of, last_kept, shortened_all, word_a, words_kept, words_rest}

-- ---- the last number lowered again

lowered_behind : (x : Ident) (xs : List Ident) → 0 < length xs → last_lowered (x ∷ xs) ≡ x ∷ last_lowered xs
lowered_behind x [] some = absurd (omega (arith, some))
lowered_behind x (y ∷ xs) some = refl

raised_some : (xs : List Ident) → 0 < length xs → 0 < length (last_raised xs)
raised_some [] some = absurd (omega (arith, some))
raised_some (x ∷ []) some = omega arith
raised_some (x ∷ y ∷ xs) some = omega arith

lowered_back : (xs : List Ident) → last_lowered (last_raised xs) ≡ xs
lowered_back [] = refl
lowered_back (Number n ∷ []) = let same : n + 1 - 1 ≡ n = omega arith in ap (λ m. Number m ∷ []) same
lowered_back (Word w ∷ []) = refl
lowered_back (x ∷ y ∷ xs) = lowered_behind x (last_raised (y ∷ xs)) (raised_some (y ∷ xs) (omega arith)) ∙ ap (λ more. x ∷ more) (lowered_back (y ∷ xs))

-- ---- segments of a version

numbers_all : (xs : List Ident) → list_all is_number xs ≡ true → list_all is_segment xs ≡ true
numbers_all [] all = refl
numbers_all (Number n ∷ xs) all = numbers_all xs all
numbers_all (Word w ∷ xs) all = cc all

words_all : (many : ℕ) → list_all is_segment (replicate many word_a) ≡ true
words_all zero = refl
words_all (suc many) = words_all many

first_of_both : (xs ys : List Ident) → begins_with_number xs ≡ true → begins_with_number (xs ++ ys) ≡ true
first_of_both [] ys first = cc first
first_of_both (x ∷ xs) ys first = first

first_number : (xs : List Ident) → list_all is_number xs ≡ true → 0 < length xs → begins_with_number xs ≡ true
first_number [] all some = absurd (omega (arith, some))
first_number (Number n ∷ xs) all some = refl
first_number (Word w ∷ xs) all some = cc all

raised_all : (xs : List Ident) → list_all is_number xs ≡ true → list_all is_number (last_raised xs) ≡ true
raised_all [] all = refl
raised_all (Number n ∷ []) all = refl
raised_all (Number n ∷ y ∷ xs) all = raised_all (y ∷ xs) all
raised_all (Word w ∷ xs) all = cc all

both_all : (test : Ident → Bool) (xs ys : List Ident) → list_all test xs ≡ true → list_all test ys ≡ true → list_all test (xs ++ ys) ≡ true
both_all test xs ys p q = list_all-append test xs ys ∙ and_from (list_all test xs) (list_all test ys) p q

-- ---- the two versions of `~> bound`

-- the numbers of which the bump raises the last, followed by a number larger than both sizes
abbrev lower_segments : ℕ → Fields → List Ident
lower_segments n bound = shortened (front bound.segments) ++ Number (more_than n bound) ∷ []

abbrev lower : ℕ → Fields → Fields
lower n bound = record { segments = lower_segments n bound }

lower_is : (n : ℕ) (bound : Fields) → before_bump n bound ≡ lower n bound
lower_is n bound = λ i. record { segments = lowered_back (shortened (front bound.segments)) i ++ Number (more_than n bound) ∷ [] }

successor_some : (n : ℕ) → (n + 1 == 0) ≡ false
successor_some n = grind (arith, nat_tests)

module _ (n : ℕ) (bound : Fields) (is : IsVersion bound) where
  positive : 0 < more_than n bound
  positive = omega arith

  each : AllByRecursion (IsSegmentBelow (more_than n bound)) bound.segments
  each = each_below (more_than n bound) bound.segments is.segments (omega arith)

  numbers : list_all is_number (shortened (front bound.segments)) ≡ true
  numbers = shortened_all (front bound.segments) (front_all bound.segments)

  some : 0 < length (shortened (front bound.segments))
  some = series_some bound.segments is

  raised_numbers : list_all is_number (last_raised (shortened (front bound.segments))) ≡ true
  raised_numbers = raised_all (shortened (front bound.segments)) numbers

  lower_numbers : list_all is_number (lower_segments n bound) ≡ true
  lower_numbers = both_all is_number (shortened (front bound.segments)) (Number (more_than n bound) ∷ []) numbers refl

  -- no zeros at an end, so each is its own canonical form
  raised_kept : without_zeros (last_raised (shortened (front bound.segments))) ≡ last_raised (shortened (front bound.segments))
  raised_kept =
      let series = shortened (front bound.segments) in
      subst (λ (xs : List Ident). without_zeros xs ≡ xs) (bump_made bound.segments is)
      (last_kept (take (length series - 1) series) (Number (last_number series + 1)) (successor_some (last_number series)))

  lower_key : canonical (lower_segments n bound) ≡ lower_segments n bound
  lower_key = canonical_numbers (lower_segments n bound) lower_numbers
      (last_kept (shortened (front bound.segments)) (Number (more_than n bound)) (successor_some (max n (size bound))))

  bump_key : canonical (bump_of bound).segments ≡ (bump_of bound).segments
  bump_key = canonical_numbers (bump_of bound).segments raised_numbers raised_kept

  upper_key : canonical (words_behind_bump n bound).segments ≡ (words_behind_bump n bound).segments
  upper_key =
      canonical_of (bump_of bound).segments (replicate (more_than n bound) word_a) raised_numbers (words_rest (more_than n bound)) raised_kept (words_kept (more_than n bound))

  -- `~> bound` holds of the lower one
  lower_above : order_of (lower n bound) bound ≡ Greater
  lower_above = ap (λ xs. segments_cmp xs (canonical bound.segments)) lower_key ∙ above_all (more_than n bound) bound.segments positive each (front_all bound.segments)

  lower_below : order_of (lower n bound) (bump_of bound) ≡ Less
  lower_below = (λ i. segments_cmp (lower_key i) (bump_key i)) ∙ below_raised (more_than n bound) (shortened (front bound.segments)) numbers some

  released_below : order_of (release_of (lower n bound)) (bump_of bound) ≡ Less
  released_below = ap (λ v. order_of v (bump_of bound)) (release_is (lower n bound) lower_numbers) ∙ lower_below

  lower_held : holds Twiddle bound (lower n bound) ≡ true
  lower_held = λ i. is_ge (lower_above i) && is_lt (released_below i)

  -- and not of the upper one
  upper_release : release_of (words_behind_bump n bound) ≡ bump_of bound
  upper_release = λ i. record { segments = front_of (bump_of bound).segments (replicate (more_than n bound) word_a) raised_numbers (words_rest (more_than n bound)) i }

  released_equal : order_of (release_of (words_behind_bump n bound)) (bump_of bound) ≡ Equal
  released_equal = ap (λ v. order_of v (bump_of bound)) upper_release ∙ tied_itself order_total (bump_of bound)

  upper_not_held : holds Twiddle bound (words_behind_bump n bound) ≡ false
  upper_not_held = ap (λ o. is_ge (order_of (words_behind_bump n bound) bound) && is_lt o) released_equal ∙ and-false _

  -- both are versions
  lower_version : IsVersion (lower n bound)
  lower_version = record {
    first = first_number (lower_segments n bound) lower_numbers (omega (arith, length-append (shortened (front bound.segments)) (Number (more_than n bound) ∷ [])));
    segments = numbers_all (lower_segments n bound) lower_numbers;
  }

  upper_version : IsVersion (words_behind_bump n bound)
  upper_version =
      let bump = bump_version bound.segments is in
      record {
        first = first_of_both (bump_of bound).segments (replicate (more_than n bound) word_a) bump.first;
        segments = both_all is_segment (bump_of bound).segments (replicate (more_than n bound) word_a) bump.segments (words_all (more_than n bound));
      }

  -- a version of no more than the size compares alike with both
  alike : (x : Fields) → IsVersion x → size x ≤ n → order_of x (lower n bound) ≡ order_of x (words_behind_bump n bound)
  alike x version small =
      let below = canonical_below (more_than n bound) x.segments (each_below (more_than n bound) x.segments version.segments (omega arith)) in
      let short : length (canonical x.segments) < more_than n bound = omega (arith, canonical_length x.segments) in
      ap (λ ys. segments_cmp (canonical x.segments) ys) lower_key
      ∙ compared_alike (more_than n bound) (more_than n bound) (shortened (front bound.segments)) (canonical x.segments) numbers some positive below short
      ∙ ap (λ ys. segments_cmp (canonical x.segments) ys) (sym upper_key)

  lower_apart : AreToldApart order_of IsVersion (by_domain (λ _. ⊤) IsRelease All) size (holds Twiddle bound) n (lower n bound) (words_behind_bump n bound)
  lower_apart = record {
    versions = (lower_version, upper_version);
    inside = (tt, tt);
    one = λ same. false≢true (sym upper_not_held ∙ sym same ∙ lower_held);
    alike = alike;
  }

  apart : AreToldApart order_of IsVersion (by_domain (λ _. ⊤) IsRelease All) size (holds Twiddle bound) n (before_bump n bound) (words_behind_bump n bound)
  apart = subst (λ v. AreToldApart order_of IsVersion (by_domain (λ _. ⊤) IsRelease All) size (holds Twiddle bound) n v (words_behind_bump n bound)) (sym (lower_is n bound)) lower_apart

-- ---- the law

-- a number past the limit is no want of an end
no_end : (b : Bool) (kind : EndKind) → (if b then made.Spans else made.TooHigh) ≡ made.NoEnd kind → ⊥
no_end true kind is = cc is
no_end false kind is = cc is

-- A requirement that is refused for want of an end tells apart, for each n, two versions of the domain with which every version
-- of size n at most compares alike.
pub gem_apart : (domain : Domain) (operator : Operator) (bound : Fields) → IsVersion bound → (kind : EndKind) → outcome domain operator bound ≡ made.NoEnd kind
    → (n : ℕ) (v w : Fields) → Tells n operator bound v w → AreToldApart order_of IsVersion (by_domain (λ _. ⊤) IsRelease domain) size (holds operator bound) n v w
gem_apart domain (Compares how) bound is kind none n v w tells = absurd tells
gem_apart domain NotEqual bound is kind none n v w tells = absurd tells
gem_apart Releases Twiddle bound is kind none n v w tells = absurd (no_end (nat_lt (number_to_raise bound + 1) (2 ^ 128)) kind none)
gem_apart All Twiddle bound is kind none n v w tells =
    subst (λ a. AreToldApart order_of IsVersion (by_domain (λ _. ⊤) IsRelease All) size (holds Twiddle bound) n a w) (sym tells.0)
    (subst (λ b. AreToldApart order_of IsVersion (by_domain (λ _. ⊤) IsRelease All) size (holds Twiddle bound) n (before_bump n bound) b) (sym tells.1) (apart n bound is))

-- For each n it has two such versions.
pub gem_tells : (domain : Domain) (operator : Operator) (bound : Fields) (kind : EndKind) → outcome domain operator bound ≡ made.NoEnd kind → (n : ℕ) → (v : Fields) × (w : Fields) × Tells n operator bound v w
gem_tells domain (Compares how) bound kind none n = cc none
gem_tells domain NotEqual bound kind none n = cc none
gem_tells Releases Twiddle bound kind none n = absurd (no_end (nat_lt (number_to_raise bound + 1) (2 ^ 128)) kind none)
gem_tells All Twiddle bound kind none n = (before_bump n bound, words_behind_bump n bound, (refl, refl))

-- A construct that is refused for want of an end tells its two versions of the domain apart, where it has such two, with which
-- every version of low numerals and a short release compares alike.
use Rattle.std.proofs.Common.{◌≡◌, ◌≢◌, ◌≤◌, ◌<◌, ◌+◌, ◌++◌, ◌&&◌, not, max, nat_lt, ℕ, zero, suc, Bool, true, false, List, [], ◌∷◌, length, map, replicate, Option, Some, None, Ordering, Less, Equal, Greater, refl, sym, ap, ◌∙◌, arith, length-append}
use Rattle.std.specs.Prelude.{◌==◌, ◌^◌, if◌then◌else◌, option_to_list, ⊤}
use Rattle.std.specs.List.{flat_map}
use Rattle.std.specs.Char.{to_ascii_lowercase}
use Rattle.std.specs.Ordering.{is_gt, nat_cmp, ordering_then}
use Rattle.std.specs.Str.{bytes_eq}
use Rattle.std.proofs.lemmas.Bool.{and_from, and_right, eq-eqb}
use Rattle.std.proofs.lemmas.Bool.Decides.{nat_tests}
use Rattle.std.proofs.lemmas.List.{length-map}
use Rattle.std.proofs.lemmas.Slice.Eq.{bytes_eq-Decides}
use Rattle.vx_spec.specs.Numerals.{numeral_text}
use Rattle.vx_spec.specs.Rows.{rows_cmp}
use Rattle.vx_text.specs.Folding.{lowered}
use Rattle.vx_scheme.specs.declared.domain.Domain.{Domain}
use Rattle.vx_scheme.specs.declared.domain.Domain.TheVariants.{All, Releases}
use Rattle.vx_scheme.specs.declared.range_fault.EndKind.{EndKind}
use Rattle.vx_scheme.specs.declared.range_fault.EndKind.TheVariants.{ArbitraryEquality, GreaterThanFinal}
use Rattle.vx_scheme.specs.declared.ident.Ident.{Ident}
use Rattle.vx_scheme.specs.Native.{by_domain}
use Rattle.vx_range.specs.declared.making.Outcome.TheVariants as made
use Rattle.vx_range.specs.Apart.{AreToldApart}
use Rattle.vx_range.specs.Lists.{Plain}
use Rattle.pep440_scheme.specs.declared.version.PreKind.TheVariants.{A, B, Rc}
use Rattle.pep440_scheme.specs.declared.version.PreKind.{PreKind}
use Rattle.pep440_scheme.specs.declared.version.PrePart.{PrePart}
use Rattle.pep440_scheme.specs.Version.{Fields, IsRelease, IsVersion, public_of}
use Rattle.pep440_scheme.specs.Order.{end_rank, local_letter, number_letter, order_of, post_letter, pre_letter, dev_letter}
use Rattle.pep440_scheme.specs.Next.{last_number, pre_number, raised_of}
use Rattle.pep440_scheme.specs.Writing.{epoch_text, normal, release_text, suffixes_text}
use Rattle.vx_spec.specs.Signs.{dot}
use Rattle.pep440_scheme.specs.Laws.Texts.{spelled_version}
use Rattle.pep440_scheme.proofs.OrderLaws.{release_rows}
use Rattle.vx_order.specs.Letters.{letters_cmp}
use Rattle.pep440_range.specs.declared.construct.Comparison.TheVariants as comparison
use Rattle.pep440_range.specs.declared.construct.Construct.{Construct}
use Rattle.pep440_range.specs.declared.construct.Construct.TheVariants.{Compares, NotEqual, Within, NotWithin, Identical}
use Rattle.pep440_range.specs.declared.construct.Construct.TheVariants as construct_of
use Rattle.pep440_range.specs.declared.construct.Operator.{Operator}
use Rattle.pep440_range.specs.declared.construct.Operator.TheVariants as operator_of
use Rattle.pep440_range.specs.Reading.{Begun, ReadsAs, ReadsBy, Takes, TakesEither, before_star, operand_of, operator_at}
use Rattle.pep440_range.specs.Holds.{compares, holds, prefix_of, same_numbers}
use Rattle.pep440_range.specs.Refusals.{bumped, compared_outcome, equal_outcome, outcome, raised}
use Rattle.pep440_range.specs.Apart.{AreWitnesses, ConstructIsVersion, IsNormalOf, greatest, large, large_post, local_numeral, long_dev0, size, with_zero}
use Rattle.pep440_range.specs.Laws.AgreeOrder.{alone, behind_cmp, below, label_cmp, numbers_are, numbers_cmp, order_apart, public_version, same, then_apart}

-- how releases compare
abbrev releases : List ℕ → List ℕ → Ordering
releases = rows_cmp nat_cmp 0

-- ---- one more 0 at the end of a release

zero_nothing : (xs ys : List ℕ) → releases xs (ys ++ 0 ∷ []) ≡ releases xs ys
zero_nothing [] [] = refl
zero_nothing (x ∷ xs) [] = refl
zero_nothing [] (y ∷ ys) = ap (ordering_then (nat_cmp 0 y)) (zero_nothing [] ys)
zero_nothing (x ∷ xs) (y ∷ ys) = ap (ordering_then (nat_cmp x y)) (zero_nothing xs ys)

-- each version compares alike with both
zero_alike : (x v : Fields) → order_of x v ≡ order_of x (with_zero v)
zero_alike x v =
    let letters : letters_cmp end_rank (map number_letter x.release) (map number_letter v.release)
    ≡ letters_cmp end_rank (map number_letter x.release) (map number_letter (v.release ++ 0 ∷ [])) =
    sym (release_rows x.release v.release) ∙ sym (zero_nothing x.release v.release) ∙ release_rows x.release (v.release ++ 0 ∷ []) in
    ap (λ (o : Ordering). ordering_then (letters_cmp end_rank (number_letter x.epoch ∷ []) (number_letter v.epoch ∷ [])) (ordering_then o
    (ordering_then (alone (pre_letter x.pre x.post x.dev) (pre_letter v.pre v.post v.dev))
    (ordering_then (alone (post_letter x.post) (post_letter v.post))
    (ordering_then (alone (dev_letter x.dev) (dev_letter v.dev))
    (ordering_then (letters_cmp end_rank (map local_letter x.local) (map local_letter v.local)) Equal)))))) letters

zero_digit : length (numeral_text 0) ≡ 1
unfolding numeral_text
zero_digit = refl

-- the text of a release is longer by two bytes
longer_release : (n : ℕ) (xs : List ℕ) → length (release_text ((n ∷ xs) ++ 0 ∷ [])) ≡ length (release_text (n ∷ xs)) + 2
longer_release n [] = omega (arith, length-append (numeral_text n) (dot ∷ numeral_text 0), zero_digit)
longer_release n (m ∷ xs) =
    let e = longer_release m xs in
    let one = length-append (numeral_text n) (dot ∷ release_text ((m ∷ xs) ++ 0 ∷ [])) in
    let other = length-append (numeral_text n) (dot ∷ release_text (m ∷ xs)) in
    omega (arith, e, one, other)

longer_by : (release : List ℕ) → nat_lt 0 (length release) ≡ true → length (release_text (release ++ 0 ∷ [])) ≡ length (release_text release) + 2
longer_by [] some = absurd (cc some)
longer_by (n ∷ xs) some = longer_release n xs

longer_text : (front middle more back : List ℕ) → length more ≡ length middle + 2
    → length (lowered (front ++ (more ++ back))) ≡ length (lowered (front ++ (middle ++ back))) + 2
longer_text front middle more back e =
    omega (
      arith,
      e,
      length-map (front ++ (more ++ back)) to_ascii_lowercase,
      length-map (front ++ (middle ++ back)) to_ascii_lowercase,
      length-append front (more ++ back),
      length-append front (middle ++ back),
      length-append more back,
      length-append middle back,
    )

longer : (v : Fields) → IsVersion v → length (lowered (normal (with_zero v))) ≡ length (lowered (normal v)) + 2
longer v is =
    longer_text (epoch_text v.epoch) (release_text v.release) (release_text (v.release ++ 0 ∷ [])) (suffixes_text v)
    (longer_by v.release is.release)

-- the two have two texts
two_texts : (text : List ℕ) (v : Fields) → IsVersion v → lowered (normal v) ≡ lowered text
    → bytes_eq (lowered (normal v)) (lowered text) ≢ bytes_eq (lowered (normal (with_zero v))) (lowered text)
two_texts text v is written same =
    let first : bytes_eq (lowered (normal v)) (lowered text) ≡ true = (bytes_eq-Decides (lowered (normal v)) (lowered text)).1 written in
    let second : bytes_eq (lowered (normal (with_zero v))) (lowered text) ≡ true = sym same ∙ first in
    let e : lowered (normal (with_zero v)) ≡ lowered text = (bytes_eq-Decides (lowered (normal (with_zero v))) (lowered text)).0 second in
    let sizes : length (lowered (normal (with_zero v))) ≡ length (lowered (normal v)) = ap length (e ∙ sym written) in
    let more : length (lowered (normal (with_zero v))) ≡ length (lowered (normal v)) + 2 = longer v is in
    absurd (omega (arith, sizes, more))

some_behind : (xs ys : List ℕ) → nat_lt 0 (length ys) ≡ true → nat_lt 0 (length (xs ++ ys)) ≡ true
some_behind [] ys some = some
some_behind (x ∷ xs) ys some = grind (arith, nat_tests)

-- one more 0 makes a version of a version, and a release of a release
zero_version : (v : Fields) → IsVersion v → IsVersion (with_zero v)
zero_version v is = record { release = some_behind v.release (0 ∷ []) refl; local = is.local }

zero_inside : (domain : Domain) (v : Fields) → by_domain (λ _. ⊤) IsRelease domain v → by_domain (λ _. ⊤) IsRelease domain (with_zero v)
zero_inside All v inside = tt
zero_inside Releases v inside = record { pre = inside.pre; post = inside.post; dev = inside.dev; local = inside.local }

identical_apart : (domain : Domain) (text : List ℕ) (n : ℕ) (v : Fields) → IsNormalOf domain text v
    → AreToldApart order_of IsVersion (by_domain (λ _. ⊤) IsRelease domain) size (holds (Identical text)) n v (with_zero v)
identical_apart domain text n v is = record {
  versions = (is.version, zero_version v is.version);
  inside = (is.inside, zero_inside domain v is.inside);
  one = two_texts text v is.version is.written;
  alike = λ x version small. zero_alike x v;
}

-- ---- the size of a version

-- the number, where there is one, is at most n
abbrev IsUpTo : ℕ → Option ℕ → Type 0
IsUpTo n None = Unit {0}
IsUpTo n (Some m) = m ≤ n

append_back : (xs ys : List ℕ) (n : ℕ) → greatest (xs ++ ys) ≤ n → greatest ys ≤ n
append_back [] ys n small = small
append_back (x ∷ xs) ys n small = append_back xs ys n (omega (arith, small))

-- a version that is not larger than n has no more than n release numbers, and no post number above n
short_release : (v : Fields) (n : ℕ) → size v ≤ n → length v.release ≤ n
short_release v n small = omega (arith, small)

post_by : (post : Option ℕ) (behind : List ℕ) (n : ℕ) → greatest (option_to_list post ++ behind) ≤ n → IsUpTo n post
post_by None behind n small = tt
post_by (Some m) behind n small = omega (arith, small)

low_post : (v : Fields) (n : ℕ) → size v ≤ n → IsUpTo n v.post
low_post v n small =
    let later = option_to_list v.post ++ (option_to_list v.dev ++ flat_map local_numeral v.local) in
    let behind : greatest (v.release ++ (option_to_list (pre_number v.pre) ++ later)) ≤ n = omega (arith, small) in
    post_by v.post (option_to_list v.dev ++ flat_map local_numeral v.local) n
    (append_back (option_to_list (pre_number v.pre)) later n (append_back v.release (option_to_list (pre_number v.pre) ++ later) n behind))

-- ---- behind the release

-- with no large post number a version is below one with it
post_below : (pre : Option PrePart) (post dev : Option ℕ) (n large : ℕ) (rest : Ordering) → n < large → IsUpTo n post
    → ordering_then (alone (pre_letter pre post dev) (pre_letter None (Some large) None))
    (ordering_then (alone (post_letter post) (post_letter (Some large))) rest)
    ≡ Less
post_below (Some pre) post dev n large rest more up_to = by pre.kind pre.number
  where
    by : (kind : PreKind) (number : ℕ)
        → ordering_then (alone (pre_letter (Some (record { kind = kind; number = number })) post dev) (pre_letter None (Some large) None))
        (ordering_then (alone (post_letter post) (post_letter (Some large))) rest)
        ≡ Less
    by A number = refl
    by B number = refl
    by Rc number = refl
post_below None None None n large rest more up_to = refl
post_below None None (Some k) n large rest more up_to = refl
post_below None (Some m) dev n large rest more up_to = rw (below m large (omega (arith, more, up_to))) refl

-- ---- many zeros and 1 at the end of a release

above_none : (count : ℕ) → releases [] (replicate count 0 ++ 1 ∷ []) ≡ Less
above_none zero = refl
above_none (suc count) = above_none count

above_short : (xs : List ℕ) (count : ℕ) → length xs ≤ count
    → releases xs (replicate count 0 ++ 1 ∷ []) ≡ ordering_then (releases xs []) Less
above_short [] count short = above_none count
above_short (x ∷ xs) zero short = absurd (omega (arith, short))
above_short (x ∷ xs) (suc count) short =
    ap (ordering_then (nat_cmp x 0)) (above_short xs count (omega (arith, short))) ∙ then_apart (nat_cmp x 0) (releases xs []) Less

-- a short release is below it, where it is not above what stands before the zeros
zeros_above : (xs ys : List ℕ) (count : ℕ) → length xs ≤ count
    → releases xs (ys ++ (replicate count 0 ++ 1 ∷ [])) ≡ ordering_then (releases xs ys) Less
zeros_above xs [] count short = above_short xs count short
zeros_above [] (y ∷ ys) count short =
    ap (ordering_then (nat_cmp 0 y)) (zeros_above [] ys count (omega arith)) ∙ then_apart (nat_cmp 0 y) (releases [] ys) Less
zeros_above (x ∷ xs) (y ∷ ys) count short =
    ap (ordering_then (nat_cmp x y)) (zeros_above xs ys count (omega (arith, short))) ∙ then_apart (nat_cmp x y) (releases xs ys) Less

one_above : (count : ℕ) → releases (replicate count 0 ++ 1 ∷ []) [] ≡ Greater
one_above zero = refl
one_above (suc count) = one_above count

above_front : (ys : List ℕ) (count : ℕ) → releases (ys ++ (replicate count 0 ++ 1 ∷ [])) ys ≡ Greater
above_front [] count = one_above count
above_front (y ∷ ys) count = rw (same y y refl) (above_front ys count)

-- ---- the two versions of `>V`

-- a version that is not larger than n compares with each of the two by the numbers, and is below it where those are equal
under_post : (x : Fields) (epoch : ℕ) (ys : List ℕ) (n large : ℕ) → n < large → size x ≤ n
    → order_of x (public_version epoch ys None (Some large) None) ≡ ordering_then (numbers_cmp x.epoch x.release epoch ys) Less
under_post x epoch ys n large more small =
    order_apart x epoch ys None (Some large) None
    ∙ ap (ordering_then (numbers_cmp x.epoch x.release epoch ys))
    (post_below x.pre x.post x.dev n large (ordering_then (alone (dev_letter x.dev) (dev_letter None)) (label_cmp x.local)) more (low_post x n small))

below_decides : (a b c : Ordering) → ordering_then (ordering_then a (ordering_then b Less)) c ≡ ordering_then (ordering_then a b) Less
below_decides Less b c = refl
below_decides Equal Less c = refl
below_decides Equal Equal c = refl
below_decides Equal Greater c = refl
below_decides Greater b c = refl

under_long : (x : Fields) (epoch : ℕ) (ys : List ℕ) (n large : ℕ) → n < large → size x ≤ n
    → order_of x (public_version epoch (ys ++ (replicate large 0 ++ 1 ∷ [])) None None (Some 0))
    ≡ ordering_then (numbers_cmp x.epoch x.release epoch ys) Less
under_long x epoch ys n large more small =
    let long : List ℕ = ys ++ (replicate large 0 ++ 1 ∷ []) in
    let short = short_release x n small in
    let behind : Ordering = behind_cmp x None None (Some 0) in
    order_apart x epoch long None None (Some 0)
    ∙ ap (λ (o : Ordering). ordering_then o behind) (numbers_are x.epoch x.release epoch long
    ∙ ap (ordering_then (nat_cmp x.epoch epoch)) (zeros_above x.release ys large (omega (arith, short, more))))
    ∙ below_decides (nat_cmp x.epoch epoch) (releases x.release ys) behind
    ∙ ap (λ (o : Ordering). ordering_then o Less) (sym (numbers_are x.epoch x.release epoch ys))

same_itself : (ys : List ℕ) → same_numbers ys ys ≡ true
same_itself [] = refl
same_itself (y ∷ ys) = rw (eq-eqb y y refl) (same_itself ys)

-- `>V` does not hold of a post-release of a final V
not_of_post : (epoch : ℕ) (ys : List ℕ) (large : ℕ)
    → compares comparison.Greater (public_version epoch ys None None None) (public_version epoch ys None (Some large) None) ≡ false
not_of_post epoch ys large =
    let alike : ((epoch == epoch) && same_numbers ys ys) ≡ true = rw (eq-eqb epoch epoch refl) (same_itself ys) in
    and_right _ _ (ap (λ (b : Bool). not ((b && true) && true)) alike)

-- it holds of a version whose release goes on
of_long : (epoch : ℕ) (ys : List ℕ) (large : ℕ)
    → compares comparison.Greater (public_version epoch ys None None None)
    (public_version epoch (ys ++ (replicate large 0 ++ 1 ∷ [])) None None (Some 0)) ≡ true
of_long epoch ys large =
    let long : List ℕ = ys ++ (replicate large 0 ++ 1 ∷ []) in
    let w : Fields = public_version epoch long None None (Some 0) in
    let numbers : numbers_cmp epoch long epoch ys ≡ Greater =
    numbers_are epoch long epoch ys ∙ ap (λ (o : Ordering). ordering_then o (releases long ys)) (same epoch epoch refl) ∙ above_front ys large in
    let above : is_gt (order_of w (public_version epoch ys None None None)) ≡ true =
    ap is_gt (order_apart w epoch ys None None None ∙ ap (λ (o : Ordering). ordering_then o (behind_cmp w None None None)) numbers) in
    let none : (((epoch == epoch) && same_numbers ys long) && true && false) ≡ false = and_right _ false refl in
    and_from _ _ above (ap not none)

final_apart : (epoch : ℕ) (ys : List ℕ) (n large : ℕ) → nat_lt 0 (length ys) ≡ true → n < large
    → AreToldApart order_of IsVersion (by_domain (λ _. ⊤) IsRelease All) size
    (compares comparison.Greater (public_version epoch ys None None None)) n
    (public_version epoch ys None (Some large) None)
    (public_version epoch (ys ++ (replicate large 0 ++ 1 ∷ [])) None None (Some 0))
final_apart epoch ys n large some more = record {
  versions = (
    record { release = some; local = refl },
    record { release = some_behind ys (replicate large 0 ++ 1 ∷ []) (some_behind (replicate large 0) (1 ∷ []) refl); local = refl },
  );
  inside = (tt, tt);
  one = λ e. let contra : false ≡ true = sym (not_of_post epoch ys large) ∙ e ∙ of_long epoch ys large in cc contra;
  alike = λ x version small. under_post x epoch ys n large more small ∙ sym (under_long x epoch ys n large more small);
}

no_end : (number : Option ℕ) (kind : EndKind) → ¬ (raised number ≡ made.NoEnd kind)
no_end None kind none = cc none
no_end (Some n) kind none = by (nat_lt (n + 1) (2 ^ 128)) none
  where
    by : (fits : Bool) → ¬ ((if fits then made.Spans else made.TooHigh) ≡ made.NoEnd kind)
    by true e = cc e
    by false e = cc e

greater_apart : (domain : Domain) (epoch : ℕ) (ys : List ℕ) (pre : Option PrePart) (post dev : Option ℕ) (kind : EndKind) (n : ℕ)
    → nat_lt 0 (length ys) ≡ true
    → compared_outcome comparison.Greater domain (public_version epoch ys pre post dev) ≡ made.NoEnd kind
    → AreToldApart order_of IsVersion (by_domain (λ _. ⊤) IsRelease domain) size
    (compares comparison.Greater (public_version epoch ys pre post dev)) n
    (large_post n (public_version epoch ys pre post dev)) (long_dev0 n (public_version epoch ys pre post dev))
greater_apart Releases epoch ys pre post dev kind n some none = absurd (cc none)
greater_apart All epoch ys pre None (Some dev) kind n some none = absurd (no_end (Some dev) kind none)
greater_apart All epoch ys pre (Some post) (Some dev) kind n some none = absurd (no_end (Some dev) kind none)
greater_apart All epoch ys pre (Some post) None kind n some none = absurd (no_end (Some post) kind none)
greater_apart All epoch ys (Some pre) None None kind n some none = absurd (no_end (Some pre.number) kind none)
greater_apart All epoch ys None None None kind n some none =
    let bound : Fields = public_version epoch ys None None None in
    final_apart epoch ys n (large n bound) some (larger n (size bound))
  where
    larger : (n m : ℕ) → n < max n m + 1
    larger n m = omega arith

-- ---- the law

-- Where a construct is refused for want of an end in a domain, it tells its two versions apart for each number n, where it has such
-- two, and no list of versions of at most this size does.
pub pypi_apart : (domain : Domain) (construct : Construct) (kind : EndKind) (n : ℕ) (v w : Fields) → ConstructIsVersion construct
    → outcome domain construct ≡ made.NoEnd kind → AreWitnesses domain n construct v w
    → AreToldApart order_of IsVersion (by_domain (λ _. ⊤) IsRelease domain) size (holds construct) n v w
pypi_apart domain (Compares comparison.Greater bound) kind n v w version none are =
    rw (are.0, are.1)
    (greater_apart domain bound.epoch bound.release bound.pre bound.post bound.dev kind n version.release none)
pypi_apart domain (Compares comparison.Compatible bound) kind n v w version none are = absurd are
pypi_apart domain (Compares comparison.LessOrEqual bound) kind n v w version none are = absurd are
pypi_apart domain (Compares comparison.GreaterOrEqual bound) kind n v w version none are = absurd are
pypi_apart domain (Compares comparison.Less bound) kind n v w version none are = absurd are
pypi_apart domain (construct_of.Equal bound) kind n v w version none are = absurd are
pypi_apart domain (NotEqual bound) kind n v w version none are = absurd are
pypi_apart domain (Within r) kind n v w version none are = absurd are
pypi_apart domain (NotWithin r) kind n v w version none are = absurd are
pypi_apart domain (Identical text) kind n v w version none are = rw are.1 (identical_apart domain text n v are.0)

-- a construct that has no end for being above a final version has its two versions for each number n
bumped_end : (number : Option ℕ) (kind : EndKind) → ¬ (bumped number ≡ made.NoEnd kind)
bumped_end None kind none = cc none
bumped_end (Some n) kind none = no_end (Some n) kind none

equal_end : (domain : Domain) (bound : Fields) (local : List Ident) (kind : EndKind) → ¬ (equal_outcome domain bound local ≡ made.NoEnd kind)
equal_end All bound [] kind none = no_end (raised_of bound) kind none
equal_end All bound (part ∷ parts) kind none = cc none
equal_end Releases bound local kind none = cc none

less_end : (domain : Domain) (bound : Fields) (kind : EndKind) → ¬ (compared_outcome comparison.LessOrEqual domain bound ≡ made.NoEnd kind)
less_end All bound kind none = no_end (raised_of bound) kind none
less_end Releases bound kind none = cc none

-- unless it compares texts, its two versions are there for each number n
pub some_witnesses : (domain : Domain) (construct : Construct) (kind : EndKind) (n : ℕ) → outcome domain construct ≡ made.NoEnd kind → kind ≢ ArbitraryEquality
    → (v : Fields) × (w : Fields) × AreWitnesses domain n construct v w
some_witnesses domain (Compares comparison.Greater bound) kind n none other =
    (large_post n (public_of bound), long_dev0 n (public_of bound), (refl, refl))
some_witnesses domain (Compares comparison.Compatible bound) kind n none other =
    absurd (bumped_end (last_number (prefix_of (public_of bound)).release) kind none)
some_witnesses domain (Compares comparison.LessOrEqual bound) kind n none other = absurd (less_end domain (public_of bound) kind none)
some_witnesses domain (Compares comparison.GreaterOrEqual bound) kind n none other = absurd (cc none)
some_witnesses domain (Compares comparison.Less bound) kind n none other = absurd (cc none)
some_witnesses domain (construct_of.Equal bound) kind n none other = absurd (equal_end domain bound bound.local kind none)
some_witnesses domain (NotEqual bound) kind n none other = absurd (equal_end domain bound bound.local kind none)
some_witnesses domain (Within r) kind n none other = absurd (bumped_end (last_number r.release) kind none)
some_witnesses domain (NotWithin r) kind n none other = absurd (bumped_end (last_number r.release) kind none)
some_witnesses domain (Identical text) kind n none other =
    let same : kind ≡ ArbitraryEquality = cc none in
    absurd (other same)

-- the two versions of `>V` are there for each number n
pub greater_witnesses : (domain : Domain) (construct : Construct) (n : ℕ) → outcome domain construct ≡ made.NoEnd GreaterThanFinal
    → (v : Fields) × (w : Fields) × AreWitnesses domain n construct v w
greater_witnesses domain construct n none = some_witnesses domain construct GreaterThanFinal n none (λ e. cc e)

-- ---- constructs that are read

either_version : (of_version of_release : Fields → Construct) (text : List ℕ) (star : Option (List ℕ)) (construct : Construct)
    → ((v : Fields) → IsVersion v → ConstructIsVersion (of_version v)) → ((r : Fields) → IsVersion r → ConstructIsVersion (of_release r))
    → TakesEither of_version of_release text star construct → ConstructIsVersion construct
either_version of_version of_release text None construct version release takes =
    rw takes.2 (version takes.0 (spelled_version text takes.0 takes.1))
either_version of_version of_release text (Some front) construct version release takes =
    rw takes.2 (release takes.0 (spelled_version front takes.0 takes.1.spelled))

taken_version : (operator : Operator) (text : List ℕ) (construct : Construct) → Takes operator text construct → ConstructIsVersion construct
taken_version operator_of.Identical text construct takes = rw takes.is tt
taken_version operator_of.Equal text construct takes =
    either_version construct_of.Equal Within text (before_star text) construct (λ v is. is) (λ r is. is) takes
taken_version operator_of.NotEqual text construct takes =
    either_version NotEqual NotWithin text (before_star text) construct (λ v is. is) (λ r is. is) takes
taken_version (operator_of.Compares how) text construct takes = rw takes.is (spelled_version text takes.version takes.spelled)

begun_version : (begun : Option Begun) (construct : Construct) → ReadsBy begun construct → ConstructIsVersion construct
begun_version None construct reads = absurd reads
begun_version (Some begun) construct reads = taken_version begun.operator (operand_of begun) construct reads

-- what a construct that is read is made of is a version
pub reads_version : (piece : Plain) (construct : Construct) → ReadsAs piece construct → ConstructIsVersion construct
reads_version piece construct reads = begun_version (operator_at piece.bytes) construct reads

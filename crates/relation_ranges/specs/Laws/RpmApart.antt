-- A relation that RPM's range language refuses for want of an end tells two versions apart that each version of at most a given
-- size compares alike with.
use Rattle.std.proofs.Common.{◌≡◌, ◌≢◌, ◌<◌, ◌++◌, ◌||◌, if◌then◌else◌, ℕ, zero, suc, Bool, true, false, List, [], ◌∷◌, replicate, refl, sym, ap, ◌∙◌, subst, Option, Some, None, arith, append_assoc, append-nil}
use Rattle.std.specs.Prelude.{codes}
use Rattle.std.specs.Char.{is_ascii_digit, is_ascii_alphanumeric}
use Rattle.std.specs.List.{AllByRecursion, list_all}
use Rattle.std.specs.Cmp.{tied_itself}
use Rattle.std.specs.Ordering.{ordering_then}
use Rattle.std.specs.declared.cmp.Ordering.{Ordering}
use Rattle.std.specs.declared.cmp.Ordering.TheVariants as ordering
use Rattle.std.proofs.lemmas.Bool.{and_from, and_parts}
use Rattle.vx_spec.specs.Marks.{in_front, marked}
use Rattle.vx_spec.specs.Numerals.{is_numeral, numeral_text}
use Rattle.vx_spec.proofs.NumeralLaws.{numeral_text_is}
use Rattle.vx_scheme.specs.declared.domain.Domain.{Domain}
use Rattle.vx_scheme.specs.declared.domain.Domain.TheVariants.{All, Releases}
use Rattle.vx_scheme.specs.declared.range_fault.EndKind.{EndKind}
use Rattle.vx_scheme.specs.declared.range_fault.EndKind.TheVariants as end_kind
use Rattle.vx_scheme.specs.Native.{by_domain}
use Rattle.vx_spec.specs.Signs.{caret, colon, hyphen, tilde}
use Rattle.vx_text.proofs.PastLaws.{numeral_bytes}
use Rattle.vx_order.specs.declared.letter.Letter.{Letter}
use Rattle.vx_order.specs.Letters.{letters_cmp}
use Rattle.vx_order.proofs.LetterLaws.{letters_total}
use Rattle.vx_range.specs.declared.making.Outcome.TheVariants as made
use Rattle.vx_range.specs.Apart.{AreToldApart}
use Rattle.rpm_scheme.specs.Version.{Fields, HasRelease, IsWithoutRelease, count_letter, end_rank, letters_of}
use Rattle.rpm_scheme.specs.Order.{order_of, release_key}
use Rattle.rpm_scheme.specs.Spelling.{IsVersion, is_part, is_part_byte, release_letters}
use Rattle.relation_ranges.specs.declared.comparison.Comparison.{Comparison}
use Rattle.relation_ranges.specs.declared.comparison.Comparison.TheVariants.{Less, LessOrEqual, Equal, GreaterOrEqual, Greater}
use Rattle.relation_ranges.specs.Comparison.{is_so}
use Rattle.relation_ranges.specs.Rpm.Holds.{holds, test_order}
use Rattle.relation_ranges.specs.Rpm.Spans.{has_release, is_open, outcome}
use Rattle.relation_ranges.specs.Rpm.Apart.{Tells, beyond, release_size, size, with_release, with_tildes}
use Rattle.relation_ranges.specs.Laws.RpmLetters.{IsRanked, NumbersBelow, ReleaseIsRanked, lowered, part_ranked, release_below, snapshot, snapshot_above, snapshot_alike}
use Rattle.relation_ranges.specs.Laws.RpmOrder.{epochs, none_of, versions}
use Rattle.relation_ranges.specs.Laws.RpmTokens.{number_letters, snapshot_letters}

-- ---- the two are versions

front_joined : (epoch : Option (List ℕ)) (main rest : List ℕ) → in_front colon epoch main ++ rest ≡ in_front colon epoch (main ++ rest)
front_joined None main rest = refl
front_joined (Some part) main rest = append_assoc part (colon ∷ main) rest

-- the version of a text without a release has no last part
no_last : (last : Option (List ℕ)) → release_letters last ≡ None → last ≡ None
no_last None none = refl
no_last (Some part) none = cc none

-- the text of a version without a release is its epoch and its version
text_is : (v : Fields) (is : IsVersion v) → v.release ≡ None → v.text ≡ in_front colon is.parts.epoch is.parts.main
text_is v is none =
    let last = no_last is.parts.last (sym (ap (λ w. w.release) is.values) ∙ none) in
    is.joined ∙ ap (λ l. in_front colon is.parts.epoch (is.parts.main ++ marked hyphen l)) last ∙ ap (in_front colon is.parts.epoch) (append-nil is.parts.main)

-- a digit opens and goes on a release
digit_begins : (b : ℕ) → is_ascii_digit b ≡ true → is_ascii_alphanumeric b ≡ true
digit_begins b is = rw is refl

digit_goes : (b : ℕ) → is_ascii_digit b ≡ true → is_part_byte b ≡ true
digit_goes b is = rw (digit_begins b is) refl

digits_go : (digits : List ℕ) → list_all is_ascii_digit digits ≡ true → list_all is_part_byte digits ≡ true
digits_go [] all = refl
digits_go (b ∷ digits) all =
    let a = and_parts (is_ascii_digit b) (list_all is_ascii_digit digits) all in
    and_from (is_part_byte b) (list_all is_part_byte digits) (digit_goes b a.0) (digits_go digits a.1)

digits_part : (digits : List ℕ) → is_numeral digits ≡ true → is_part digits ≡ true
digits_part [] is = cc is
digits_part (b ∷ digits) is =
    let all = numeral_bytes (b ∷ digits) is in
    let first = (and_parts (is_ascii_digit b) (list_all is_ascii_digit digits) all).0 in
    and_from (is_ascii_alphanumeric b) (list_all is_part_byte (b ∷ digits)) (digit_begins b first) (digits_go (b ∷ digits) all)

tildes_go : (number : ℕ) → list_all is_part_byte (replicate number tilde) ≡ true
tildes_go zero = refl
tildes_go (suc number) = tildes_go number

snapshot_goes : (part : List ℕ) (number : ℕ) → list_all is_part_byte part ≡ true → list_all is_part_byte (part ++ caret ∷ replicate number tilde) ≡ true
snapshot_goes [] number all = tildes_go number
snapshot_goes (b ∷ part) number all =
    let a = and_parts (is_part_byte b) (list_all is_part_byte part) all in
    and_from (is_part_byte b) (list_all is_part_byte (part ++ caret ∷ replicate number tilde)) a.0 (snapshot_goes part number a.1)

snapshot_part : (part : List ℕ) (number : ℕ) → is_part part ≡ true → is_part (part ++ caret ∷ replicate number tilde) ≡ true
snapshot_part [] number is = cc is
snapshot_part (b ∷ part) number is =
    let a = and_parts (is_ascii_alphanumeric b) (list_all is_part_byte (b ∷ part)) is in
    and_from (is_ascii_alphanumeric b) (list_all is_part_byte (b ∷ (part ++ caret ∷ replicate number tilde))) a.0 (snapshot_goes (b ∷ part) number a.1)

-- `V-N`
with_release_is : (v : Fields) (number : ℕ) → IsVersion v → v.release ≡ None → IsVersion (with_release number v)
with_release_is v number is none =
    let p = is.parts in record {
      parts = record { epoch = p.epoch; main = p.main; last = Some (numeral_text number) };
      joined = ap (λ t. t ++ hyphen ∷ numeral_text number) (text_is v is none) ∙ front_joined p.epoch p.main (hyphen ∷ numeral_text number);
      form = record { epoch = is.form.epoch; main = is.form.main; last = digits_part (numeral_text number) (numeral_text_is number); alone = λ e. cc e };
      values = λ i. record {
        text = v.text ++ hyphen ∷ numeral_text number;
        epoch = (is.values i).epoch;
        version = (is.values i).version;
        release = Some (sym (number_letters number) i);
      };
    }

-- `V^~~~-1`
with_tildes_is : (v : Fields) (number : ℕ) → IsVersion v → v.release ≡ None → IsVersion (with_tildes number v)
with_tildes_is v number is none =
    let p = is.parts in
    let signs = replicate number tilde in
    let one = codes "-1" in
    let letters : v.version ++ snapshot number ≡ letters_of (p.main ++ caret ∷ signs) =
    ap (λ w. w.version ++ snapshot number) is.values ∙ sym (snapshot_letters p.main number) in
    record {
      parts = record { epoch = p.epoch; main = p.main ++ caret ∷ signs; last = Some (codes "1") };
      joined =
          ap (λ t. t ++ caret ∷ (signs ++ one)) (text_is v is none) ∙ front_joined p.epoch p.main (caret ∷ (signs ++ one))
          ∙ ap (in_front colon p.epoch) (sym (append_assoc p.main (caret ∷ signs) one));
      form = record { epoch = is.form.epoch; main = snapshot_part p.main number is.form.main; last = refl; alone = λ e. cc e };
      values = λ i. record {
        text = v.text ++ caret ∷ (signs ++ one);
        epoch = (is.values i).epoch;
        version = letters i;
        release = Some (count_letter 1 ∷ []);
      };
    }

-- ---- a version compares alike with both

-- the letters of its release are a release's
release_ranked : (part : Option (List ℕ)) → ReleaseIsRanked (release_letters part)
release_ranked None = tt
release_ranked (Some part) = part_ranked part

version_ranked : (v : Fields) → IsVersion v → AllByRecursion IsRanked v.version
version_ranked v is = subst (λ w. AllByRecursion IsRanked w.version) (sym is.values) (part_ranked is.parts.main)

own_ranked : (v : Fields) → IsVersion v → ReleaseIsRanked v.release
own_ranked v is = subst (λ w. ReleaseIsRanked w.release) (sym is.values) (release_ranked is.parts.last)

small_release : (release : Option (List Letter)) (number : ℕ) → release_size release < number → NumbersBelow number release
small_release None number small = tt
small_release (Some letters) number small = omega (arith, small)

both_lowered : (a b c d : Ordering) → c ≡ ordering.Less
    → ordering_then a (ordering_then b (ordering_then c ordering.Equal)) ≡ ordering_then a (ordering_then (lowered b) (ordering_then d ordering.Equal))
both_lowered ordering.Less b c d e = refl
both_lowered ordering.Greater b c d e = refl
both_lowered ordering.Equal ordering.Less c d e = refl
both_lowered ordering.Equal ordering.Equal c d e = ap (λ o. ordering_then o ordering.Equal) e
both_lowered ordering.Equal ordering.Greater c d e = refl

-- a version whose size is below the number
alike : (bound x : Fields) (number : ℕ) → IsVersion x → size x < number → order_of x (with_release number bound) ≡ order_of x (with_tildes number bound)
alike bound x number is small =
    let one = count_letter 1 ∷ [] in
    let last = letters_cmp end_rank (release_key x.release) (release_key (Some one)) in
    both_lowered (epochs x bound) (versions x bound) (letters_cmp end_rank (release_key x.release) (release_key (Some (count_letter number ∷ [])))) last
    (release_below x.release number (own_ranked x is) (small_release x.release number (omega (arith, small))))
    ∙ ap (λ o. ordering_then (epochs x bound) (ordering_then o (ordering_then last ordering.Equal)))
    (sym (snapshot_alike x.version bound.version number (version_ranked x is) (omega (arith, small))))

-- ---- the relation holds of one of the two

same_epochs : (v : Fields) → epochs v v ≡ ordering.Equal
same_epochs v = tied_itself (letters_total end_rank) (count_letter v.epoch ∷ [])

-- `V-N` passes as V does
first_test : (bound : Fields) (number : ℕ) → bound.release ≡ None → test_order (with_release number bound) bound ≡ ordering.Equal
first_test bound number none =
    rw (same_epochs bound, tied_itself (letters_total end_rank) bound.version, none) refl

-- and the other as a version above V
second_test : (bound : Fields) (number : ℕ) → test_order (with_tildes number bound) bound ≡ ordering.Greater
second_test bound number = rw (same_epochs bound, snapshot_above bound.version number) refl

one_only : (operator : Comparison) → is_open operator ≡ false → is_so operator ordering.Equal ≢ is_so operator ordering.Greater
one_only Less closed e = cc closed
one_only LessOrEqual closed e = cc e
one_only Equal closed e = cc e
one_only GreaterOrEqual closed e = cc closed
one_only Greater closed e = cc e

holds_of_one : (operator : Comparison) (bound : Fields) (number : ℕ) → is_open operator ≡ false → bound.release ≡ None → holds operator bound (with_release number bound) ≢ holds operator bound (with_tildes number bound)
holds_of_one operator bound number closed none e =
    one_only operator closed (sym (ap (is_so operator) (first_test bound number none)) ∙ e ∙ ap (is_so operator) (second_test bound number))

-- ---- the law

-- only among all versions a relation is refused
all_refused : (domain : Domain) (operator : Comparison) (bound : Fields) (kind : EndKind) → outcome domain operator bound ≡ made.NoEnd kind → domain ≡ All
all_refused All operator bound kind refused = refl
all_refused Releases operator bound kind refused = cc refused

no_end : (is : Bool) (kind : EndKind) → (if is then made.Spans else made.NoEnd end_kind.NoRelease) ≡ made.NoEnd kind → is ≡ false
no_end true kind e = cc e
no_end false kind e = refl

neither : (a b : Bool) → (a || b) ≡ false → (a ≡ false) × (b ≡ false)
neither false b e = (refl, e)
neither true b e = cc e

-- at a version without a release, for the operators that have no end there
refused_by : (domain : Domain) (operator : Comparison) (bound : Fields) (kind : EndKind) → outcome domain operator bound ≡ made.NoEnd kind → (has_release bound ≡ false) × (is_open operator ≡ false)
refused_by All operator bound kind refused = neither (has_release bound) (is_open operator) (no_end (has_release bound || is_open operator) kind refused)
refused_by Releases operator bound kind refused = cc refused

-- So each relation that is refused has its two versions for each number.
pub rpm_tells : (domain : Domain) (operator : Comparison) (bound : Fields) (kind : EndKind) (n : ℕ) → outcome domain operator bound ≡ made.NoEnd kind
    → Tells n operator bound (with_release (beyond n bound) bound) (with_tildes (beyond n bound) bound)
rpm_tells domain operator bound kind n refused =
    let by = refused_by domain operator bound kind refused in
    record { closed = by.1; unreleased = none_of bound.release by.0; first = refl; second = refl }

some_release : (letters : List Letter) → ◌≢◌ {A = Option (List Letter)} (Some letters) None
some_release letters e = cc e

both_inside : (domain : Domain) (bound : Fields) (number : ℕ) → domain ≡ All
    → by_domain HasRelease IsWithoutRelease domain (with_release number bound) × by_domain HasRelease IsWithoutRelease domain (with_tildes number bound)
both_inside All bound number all = (some_release (count_letter number ∷ []), some_release (count_letter 1 ∷ []))
both_inside Releases bound number all = cc all

told : (domain : Domain) (operator : Comparison) (bound : Fields) (n number : ℕ) → IsVersion bound → domain ≡ All → is_open operator ≡ false → bound.release ≡ None → n < number
    → AreToldApart order_of IsVersion (by_domain HasRelease IsWithoutRelease domain) size (holds operator bound) n (with_release number bound) (with_tildes number bound)
told domain operator bound n number is all closed none beyond_n = record {
  versions = (with_release_is bound number is none, with_tildes_is bound number is none);
  inside = both_inside domain bound number all;
  one = holds_of_one operator bound number closed none;
  alike = λ x version small. alike bound x number version (omega (arith, small, beyond_n));
}

-- A relation is refused for want of an end only where no list of versions says it: for each number n it tells two versions of
-- the domain apart that each version of size n at most compares alike with.
pub rpm_apart : (domain : Domain) (operator : Comparison) (bound : Fields) (kind : EndKind) (n : ℕ) (v w : Fields) → IsVersion bound → outcome domain operator bound ≡ made.NoEnd kind → Tells n operator bound v w
    → AreToldApart order_of IsVersion (by_domain HasRelease IsWithoutRelease domain) size (holds operator bound) n v w
rpm_apart domain operator bound kind n v w is refused tells =
    let number = beyond n bound in
    let two = told domain operator bound n number is (all_refused domain operator bound kind refused) tells.closed tells.unreleased (omega arith) in
    subst (λ x. AreToldApart order_of IsVersion (by_domain HasRelease IsWithoutRelease domain) size (holds operator bound) n x w) (sym tells.first)
    (subst (λ y. AreToldApart order_of IsVersion (by_domain HasRelease IsWithoutRelease domain) size (holds operator bound) n (with_release number bound) y) (sym tells.second) two)

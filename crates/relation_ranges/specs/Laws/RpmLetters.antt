-- The letters of an RPM version: their ranks, and how few of them compare with a version that '^' and many '~' follow, and with
-- a number greater than theirs.
use Rattle.std.proofs.Common.{◌≡◌, ◌≢◌, ◌≤◌, ◌<◌, ◌++◌, ℕ, zero, suc, List, [], ◌∷◌, length, replicate, eqb, refl, sym, ap, ◌∙◌, subst, Option, Some, None, inl, inr, arith}
use Rattle.std.specs.Char.{is_ascii_digit, is_ascii_alphabetic}
use Rattle.std.specs.List.{AllByRecursion}
use Rattle.std.specs.Cmp.{nat_cmp_is, tied_itself}
use Rattle.std.specs.Cmp.Lexicographic.{slice_cmp}
use Rattle.std.specs.Ordering.{nat_cmp, ordering_then}
use Rattle.std.specs.declared.cmp.Ordering.{Ordering}
use Rattle.std.specs.declared.cmp.Ordering.TheVariants as ordering
use Rattle.std.proofs.lemmas.Bool.{cases_Bool, cases_eq, cases_lt}
use Rattle.vx_spec.proofs.EachLaws.{each_append}
use Rattle.vx_order.specs.declared.letter.Letter.{Letter}
use Rattle.vx_order.specs.Letters.{end_letter, letter_cmp, letters_cmp}
use Rattle.vx_order.proofs.LetterLaws.{letter_total}
use Rattle.vx_order.specs.Scanning.{behind_token, scanned_in}
use Rattle.vx_order.specs.Laws.Scanning.{token_number, token_word}
use Rattle.vx_spec.specs.Signs.{caret, tilde}
use Rattle.rpm_scheme.specs.Version.{tilde_rank, end_rank, caret_rank, number_rank, sign_letter, sign_letters, word_letter, first_letters, count_letter, letters_of}
use Rattle.rpm_scheme.specs.Order.{release_key}
use Rattle.relation_ranges.specs.Rpm.Apart.{greatest_number}

-- ---- the ranks of a version's letters

-- no letter ranks as the end, and none above a number
abbrev pub IsRanked : Letter → Type 0
IsRanked letter = (letter.rank ≤ number_rank) × (letter.rank ≢ end_rank)

tilde_ranked : IsRanked (sign_letter tilde_rank)
tilde_ranked = (omega arith, λ e. omega (arith, e))

caret_ranked : IsRanked (sign_letter caret_rank)
caret_ranked = (omega arith, λ e. omega (arith, e))

sign_ranked : (b : ℕ) → AllByRecursion IsRanked (sign_letters b)
sign_ranked b = elim (cases_Bool (eqb b tilde)) [
  | inl is ↦ rw is (tilde_ranked, tt)
  | inr other ↦ elim (cases_Bool (eqb b caret)) [
    | inl is ↦ rw (other, is) (caret_ranked, tt)
    | inr neither ↦ rw (other, neither) tt
  ]
]

first_ranked : (b : ℕ) (part : List ℕ) → AllByRecursion IsRanked (first_letters (b ∷ part))
first_ranked b part = elim (cases_Bool (is_ascii_digit b)) [
  | inl digit ↦ subst (AllByRecursion IsRanked) (sym (token_number count_letter word_letter sign_letters b part digit)) ((omega arith, λ e. omega (arith, e)), tt)
  | inr other ↦ elim (cases_Bool (is_ascii_alphabetic b)) [
    | inl letter ↦ subst (AllByRecursion IsRanked) (sym (token_word count_letter word_letter sign_letters b part other letter)) ((omega arith, λ e. omega (arith, e)), tt)
    | inr sign ↦ rw (other, sign) (sign_ranked b)
  ]
]

letters_ranked : (n : ℕ) (part : List ℕ) → AllByRecursion IsRanked (scanned_in first_letters behind_token n part)
letters_ranked zero part = tt
letters_ranked (suc n) [] = tt
letters_ranked (suc n) (b ∷ part) =
    each_append IsRanked (first_letters (b ∷ part)) (scanned_in first_letters behind_token n (behind_token (b ∷ part))) (first_ranked b part) (letters_ranked n (behind_token (b ∷ part)))

pub part_ranked : (part : List ℕ) → AllByRecursion IsRanked (letters_of part)
part_ranked part = letters_ranked (length part) part

-- ---- how letters compare

lower_rank : (x y : Letter) → x.rank < y.rank → letter_cmp x y ≡ ordering.Less
lower_rank x y lower = rw (sym (nat_cmp_is x.rank y.rank ordering.Less lower)) refl

higher_rank : (x y : Letter) → y.rank < x.rank → letter_cmp x y ≡ ordering.Greater
higher_rank x y higher = rw (sym (nat_cmp_is x.rank y.rank ordering.Greater higher)) refl

same_rank : (x y : Letter) → x.rank ≡ y.rank → letter_cmp x y ≡ ordering_then (nat_cmp x.number y.number) (slice_cmp nat_cmp x.text y.text)
same_rank x y same = rw (sym (nat_cmp_is x.rank y.rank ordering.Equal same)) refl

then_not_less : (a b : Ordering) → a ≢ ordering.Less → b ≢ ordering.Less → ordering_then a b ≢ ordering.Less
then_not_less ordering.Less b p q e = p refl
then_not_less ordering.Equal b p q e = q e
then_not_less ordering.Greater b p q e = cc e

number_not_less : (n : ℕ) → nat_cmp n 0 ≢ ordering.Less
number_not_less n e = elim (cases_eq n 0) [
  | inl none ↦ cc (e, nat_cmp_is n 0 ordering.Equal none)
  | inr some ↦ cc (e, nat_cmp_is n 0 ordering.Greater (omega (arith, some)))
]

text_not_less : (text : List ℕ) → slice_cmp nat_cmp text [] ≢ ordering.Less
text_not_less [] e = cc e
text_not_less (b ∷ text) e = cc e

-- a letter of a sign's rank or above is not below the sign
sign_not_less : (rank : ℕ) (x : Letter) → rank ≤ x.rank → letter_cmp x (sign_letter rank) ≢ ordering.Less
sign_not_less rank x least e = elim (cases_eq x.rank rank) [
  | inl same ↦ then_not_less (nat_cmp x.number 0) (slice_cmp nat_cmp x.text []) (number_not_less x.number) (text_not_less x.text) (sym (same_rank x (sign_letter rank) same) ∙ e)
  | inr other ↦ cc (e, higher_rank x (sign_letter rank) (omega (arith, least, other)))
]

-- ---- a version and one that goes on behind it

then_greater : (a b : Ordering) → a ≢ ordering.Less → b ≡ ordering.Greater → ordering_then a b ≡ ordering.Greater
then_greater ordering.Less b p q = absurd (p refl)
then_greater ordering.Equal b p q = q
then_greater ordering.Greater b p q = refl

abbrev cmp : List Letter → List Letter → Ordering
cmp = letters_cmp end_rank

-- so many times '~'
abbrev tildes : ℕ → List Letter
tildes number = replicate number (sign_letter tilde_rank)

-- fewer letters stand above them
above_tildes : (xs : List Letter) (number : ℕ) → length xs < number → cmp xs (tildes number) ≡ ordering.Greater
above_tildes xs zero few = absurd (omega (arith, few))
above_tildes [] (suc number) few = refl
above_tildes (x ∷ xs) (suc number) few =
    then_greater (letter_cmp x (sign_letter tilde_rank)) (cmp xs (tildes number)) (sign_not_less tilde_rank x (omega arith)) (above_tildes xs number (omega (arith, few)))

-- '^' and so many times '~'
abbrev pub snapshot : ℕ → List Letter
snapshot number = sign_letter caret_rank ∷ tildes number

-- an answer that is not `Greater` turned to `Less`
abbrev pub lowered : Ordering → Ordering
lowered ordering.Less = ordering.Less
lowered ordering.Equal = ordering.Less
lowered ordering.Greater = ordering.Greater

then_lowered : (a b : Ordering) → ordering_then a (lowered b) ≡ lowered (ordering_then a b)
then_lowered ordering.Less b = refl
then_lowered ordering.Equal b = refl
then_lowered ordering.Greater b = refl

-- a letter of a version against '^' and against the end
caret_or_end : (x : Letter) (xs : List Letter) (number : ℕ) → IsRanked x → length xs < number → cmp (x ∷ xs) (snapshot number) ≡ lowered (cmp (x ∷ xs) [])
caret_or_end x xs number ranked few = elim (cases_lt x.rank end_rank) [
  | inl low ↦ rw (lower_rank x (sign_letter caret_rank) (omega (arith, low)), lower_rank x (end_letter end_rank) low) refl
  | inr high ↦
      let some : x.rank ≢ 1 = ranked.1 in
      let above : caret_rank ≤ x.rank = omega (arith, high, some) in
      then_greater (letter_cmp x (sign_letter caret_rank)) (cmp xs (tildes number)) (sign_not_less caret_rank x above) (above_tildes xs number few)
      ∙ sym (ap (λ o. lowered (ordering_then o (cmp xs []))) (higher_rank x (end_letter end_rank) (omega (arith, above))))
]

-- Letters fewer than the '~' stand above the version with '^' and '~' exactly where they stand above the version.
pub snapshot_alike : (xs ys : List Letter) (number : ℕ) → AllByRecursion IsRanked xs → length xs < number → cmp xs (ys ++ snapshot number) ≡ lowered (cmp xs ys)
snapshot_alike [] [] number ranked few = refl
snapshot_alike [] (y ∷ ys) number ranked few =
    ap (ordering_then (letter_cmp (end_letter end_rank) y)) (snapshot_alike [] ys number ranked few) ∙ then_lowered (letter_cmp (end_letter end_rank) y) (cmp [] ys)
snapshot_alike (x ∷ xs) [] number ranked few = caret_or_end x xs number ranked.0 (omega (arith, few))
snapshot_alike (x ∷ xs) (y ∷ ys) number ranked few =
    ap (ordering_then (letter_cmp x y)) (snapshot_alike xs ys number ranked.1 (omega (arith, few))) ∙ then_lowered (letter_cmp x y) (cmp xs ys)

-- it stands above the version
pub snapshot_above : (ys : List Letter) (number : ℕ) → cmp (ys ++ snapshot number) ys ≡ ordering.Greater
snapshot_above [] number = refl
snapshot_above (y ∷ ys) number = rw (tied_itself letter_total y) (snapshot_above ys number)

-- ---- a release and a number that is greater than its numbers

below_number : (x : Letter) (number : ℕ) → IsRanked x → x.number < number → letter_cmp x (count_letter number) ≡ ordering.Less
below_number x number ranked small = elim (cases_lt x.rank number_rank) [
  | inl low ↦ lower_rank x (count_letter number) low
  | inr high ↦ same_rank x (count_letter number) (omega (arith, high, ranked.0))
      ∙ ap (λ o. ordering_then o (slice_cmp nat_cmp x.text [])) (sym (nat_cmp_is x.number number ordering.Less small))
]

letters_below : (xs : List Letter) (number : ℕ) → AllByRecursion IsRanked xs → greatest_number xs < number → cmp xs (count_letter number ∷ []) ≡ ordering.Less
letters_below [] number ranked small = refl
letters_below (x ∷ xs) number ranked small = ap (λ o. ordering_then o (cmp xs [])) (below_number x number ranked.0 (omega (arith, small)))

abbrev pub ReleaseIsRanked : Option (List Letter) → Type 0
ReleaseIsRanked None = Unit {0}
ReleaseIsRanked (Some letters) = AllByRecursion IsRanked letters

abbrev pub NumbersBelow : ℕ → Option (List Letter) → Type 0
NumbersBelow number None = Unit {0}
NumbersBelow number (Some letters) = greatest_number letters < number

pub release_below : (release : Option (List Letter)) (number : ℕ) → ReleaseIsRanked release → NumbersBelow number release
    → cmp (release_key release) (release_key (Some (count_letter number ∷ []))) ≡ ordering.Less
release_below None number ranked small = refl
release_below (Some letters) number ranked small = letters_below letters number ranked small

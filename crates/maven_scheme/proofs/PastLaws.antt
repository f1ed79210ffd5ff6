-- A version is within the limit exactly where no numeral of its text is past it.
use Rattle.std.proofs.Common.{◌≡◌, ◌↔◌, ◌<◌, ◌≤◌, ◌+◌, ◌^◌, ◌++◌, ◌⊎◌, ◌≢◌, not, ℕ, zero, suc, Bool, true, false, if◌then◌else◌, List, [], ◌∷◌, length, map, refl, sym, ap, ◌∙◌, subst, None, inl, inr, arith, append-nil, codes, bytes_eq}
use Rattle.std.specs.List.{AllByRecursion, list_all}
use Rattle.std.specs.Char.{is_ascii_digit}
use Rattle.std.proofs.lemmas.Bool.{and_parts, cases_Bool, lt-ltb}
use Rattle.std.proofs.lemmas.Bool.Decides.{nat_tests}
use Rattle.vx_spec.specs.Numerals.{value}
use Rattle.vx_spec.specs.Runs.{begins, run, past}
use Rattle.vx_spec.proofs.RunLaws.{run_stays, run_past, past_begins, run_all, one_run}
use Rattle.vx_order.specs.declared.letter.Letter.{Letter}
use Rattle.vx_text.specs.Folding.{lowered}
use Rattle.vx_text.specs.Past.{is_past, first_past, NonePast}
use Rattle.vx_text.proofs.PastLaws.{none_past, none_after, none_run, run_front}
use Rattle.vx_order.specs.Letters.{LetterIsWithin}
use Rattle.maven_scheme.specs.Version.{Fields, IsWithin, plain_letter, alpha_rank, beta_rank, milestone_rank, candidate_rank, snapshot_rank, empty_rank, service_pack_rank, other_rank}
use Rattle.maven_scheme.specs.Tokens.{is_dot, is_word_byte, is_separator, behind_front, front_token, past_separator, next_token, behind_next, tokens_in, tokens_of}
use Rattle.maven_scheme.specs.Letters.{letter_of, letters_of, full_name, qualifier_letter}
use Rattle.maven_scheme.specs.Spelling.{Spells}
use Rattle.maven_scheme.proofs.NullLaws.{counted_each, counted_back}
use Rattle.maven_scheme.proofs.TokenLaws.{digits_letter, word_letter, empty_letter, behind_digits, behind_word, past_sign, past_none, next_less}

-- ---- versions without a numeral past the limit are within it

either : (b : Bool) (x y : Letter) → LetterIsWithin x → LetterIsWithin y → LetterIsWithin (if b then x else y)
either true x y p q = p
either false x y p q = q

-- a qualifier has no number
qualifier_within : (word : List ℕ) → LetterIsWithin (qualifier_letter word)
qualifier_within word =
    either (bytes_eq word (codes "alpha")) (plain_letter alpha_rank) _ (omega arith)
    (either (bytes_eq word (codes "beta")) (plain_letter beta_rank) _ (omega arith)
    (either (bytes_eq word (codes "milestone")) (plain_letter milestone_rank) _ (omega arith)
    (either (bytes_eq word (codes "rc")) (plain_letter candidate_rank) _ (omega arith)
    (either (bytes_eq word (codes "snapshot")) (plain_letter snapshot_rank) _ (omega arith)
    (either (bytes_eq word []) (plain_letter empty_rank) _ (omega arith)
    (either (bytes_eq word (codes "sp")) (plain_letter service_pack_rank) (record { rank = other_rank; number = 0; text = word }) (omega arith) (omega arith)))))))

-- a run is empty or not
empty_or : (text : List ℕ) → (text ≡ []) ⊎ (text ≢ [])
empty_or [] = inl refl
empty_or (b ∷ text) = inr (λ e. cc e)

front_fits : (is_dotted : Bool) (text : List ℕ) → NonePast text → LetterIsWithin (letter_of (front_token is_dotted text))
front_fits is_dotted text none = elim (cases_Bool (begins is_ascii_digit text)) [
  | inl is ↦ subst LetterIsWithin (sym (digits_letter is_dotted text is)) (none_run text none)
  | inr fails ↦ elim (empty_or (run is_word_byte text)) [
    | inl empty ↦ subst LetterIsWithin (sym (empty_letter is_dotted text fails empty)) (omega arith)
    | inr some ↦ subst LetterIsWithin (sym (word_letter is_dotted text fails some)) (qualifier_within (full_name (begins is_ascii_digit (past is_word_byte text)) (lowered (run is_word_byte text))))
  ]
]

none_front : (text : List ℕ) → NonePast text → NonePast (behind_front text)
none_front text none = elim (cases_Bool (begins is_ascii_digit text)) [
  | inl is ↦ subst NonePast (sym (behind_digits text is)) (none_after is_ascii_digit text none)
  | inr fails ↦ subst NonePast (sym (behind_word text fails)) (none_after is_word_byte text none)
]

none_separator : (b : ℕ) (rest : List ℕ) → NonePast (b ∷ rest) → NonePast (past_separator (b ∷ rest))
none_separator b rest none = elim (cases_Bool (is_separator b)) [
  | inl holds ↦ subst NonePast (sym (past_sign b rest holds)) none.1
  | inr fails ↦ subst NonePast (sym (past_none b rest fails)) none
]

letters_within : (n : ℕ) (rest : List ℕ) → NonePast rest → AllByRecursion LetterIsWithin (map letter_of (tokens_in n rest))
letters_within zero rest none = tt
letters_within (suc n) [] none = tt
letters_within (suc n) (b ∷ rest) none =
    let text = past_separator (b ∷ rest) in
    let here = none_separator b rest none in
    (front_fits (is_dot b) text here, letters_within n (behind_front text) (none_front text here))

text_within : (text : List ℕ) → NonePast text → AllByRecursion LetterIsWithin (letters_of text)
text_within text none =
    counted_each LetterIsWithin (map letter_of (tokens_of text))
    (front_fits true text none, letters_within (length (behind_front text)) (behind_front text) (none_front text none))

pub version_within : (text : List ℕ) (v : Fields) → Spells text v → NonePast text → IsWithin v
version_within text v s none = subst IsWithin (sym s.values) (text_within text none)

-- ---- and the other way round

not_past : (digits : List ℕ) → value digits < 2 ^ 128 → is_past digits ≡ false
not_past digits small = ap not (lt-ltb (value digits) (2 ^ 128) small)

first_none : (at : ℕ) (text : List ℕ) → NonePast text → first_past at text ≡ None
first_none at [] h = refl
first_none at (b ∷ text) h = rw (not_past (run is_ascii_digit (b ∷ text)) h.0) (first_none (at + 1) text h.1)

no_digit : (b : ℕ) (text : List ℕ) → is_ascii_digit b ≡ false → value (run is_ascii_digit (b ∷ text)) < 2 ^ 128
no_digit b text other = rw (run_stays is_ascii_digit b text other) (omega arith)

none_join : (xs ys : List ℕ) → begins is_ascii_digit ys ≡ false → NonePast xs → NonePast ys → NonePast (xs ++ ys)
none_join [] ys none p q = q
none_join (x ∷ xs) ys none p q = (subst (λ r. value r < 2 ^ 128) (sym (run_front (x ∷ xs) ys none)) p.0, none_join xs ys none p.1 q)

word_no_digit : (b : ℕ) → is_word_byte b ≡ true → is_ascii_digit b ≡ false
word_no_digit b is = grind (arith, nat_tests)

sign_no_digit : (b : ℕ) → is_separator b ≡ true → is_ascii_digit b ≡ false
sign_no_digit b holds = elim (cases_Bool (is_ascii_digit b)) [
  | inl digit ↦ cc (rw digit at holds)
  | inr other ↦ other
]

none_word : (word ys : List ℕ) → list_all is_word_byte word ≡ true → NonePast ys → NonePast (word ++ ys)
none_word [] ys all q = q
none_word (x ∷ word) ys all q =
    let a = and_parts (is_word_byte x) (list_all is_word_byte word) all in
    (no_digit x (word ++ ys) (word_no_digit x a.0), none_word word ys a.1 q)

none_digits : (digits : List ℕ) → list_all is_ascii_digit digits ≡ true → value digits < 2 ^ 128 → NonePast digits
none_digits [] all small = tt
none_digits (d ∷ digits) all small =
    let whole' : run is_ascii_digit (d ∷ digits) ≡ d ∷ digits = ap (run is_ascii_digit) (sym (append-nil (d ∷ digits))) ∙ (one_run is_ascii_digit (d ∷ digits) [] all refl).0 in
    let less : value digits < 2 ^ 128 = omega (arith, small) in
    (subst (λ r. value r < 2 ^ 128) (sym whole') small, none_digits digits (and_parts (is_ascii_digit d) (list_all is_ascii_digit digits) all).1 less)

-- a token within the limit, with nothing past the limit behind it
none_here : (is_dotted : Bool) (text : List ℕ) → LetterIsWithin (letter_of (front_token is_dotted text)) → NonePast (behind_front text) → NonePast text
none_here is_dotted text fits rest = elim (cases_Bool (begins is_ascii_digit text)) [
  | inl is ↦
      let digits = run is_ascii_digit text in
      let number : value digits < 2 ^ 128 = subst LetterIsWithin (digits_letter is_dotted text is) fits in
      let behind = subst NonePast (behind_digits text is) rest in
      subst NonePast (sym (run_past is_ascii_digit text))
      (none_join digits (past is_ascii_digit text) (past_begins is_ascii_digit text) (none_digits digits (run_all is_ascii_digit text) number) behind)
  | inr fails ↦
      let behind = subst NonePast (behind_word text fails) rest in
      subst NonePast (sym (run_past is_word_byte text)) (none_word (run is_word_byte text) (past is_word_byte text) (run_all is_word_byte text) behind)
]

none_next : (b : ℕ) (rest : List ℕ) → LetterIsWithin (letter_of (next_token (b ∷ rest))) → NonePast (behind_next (b ∷ rest)) → NonePast (b ∷ rest)
none_next b rest fits behind =
    let text = none_here (is_dot b) (past_separator (b ∷ rest)) fits behind in
    elim (cases_Bool (is_separator b)) [
      | inl holds ↦ (no_digit b rest (sign_no_digit b holds), subst NonePast (past_sign b rest holds) text)
      | inr fails ↦ subst NonePast (past_none b rest fails) text
    ]

none_letters : (n : ℕ) (rest : List ℕ) → length rest ≤ n → AllByRecursion LetterIsWithin (map letter_of (tokens_in n rest)) → NonePast rest
none_letters zero [] size all = tt
none_letters zero (b ∷ rest) size all = absurd (omega (arith, size))
none_letters (suc n) [] size all = tt
none_letters (suc n) (b ∷ rest) size all =
    none_next b rest all.0 (none_letters n (behind_next (b ∷ rest)) (omega (arith, next_less b rest, size)) all.1)

none_text : (text : List ℕ) → AllByRecursion LetterIsWithin (letters_of text) → NonePast text
none_text text fits =
    let all = counted_back (map letter_of (tokens_of text)) fits in
    none_here true text all.0 (none_letters (length (behind_front text)) (behind_front text) (omega arith) all.1)

pub version_none : (text : List ℕ) (v : Fields) → Spells text v → IsWithin v → NonePast text
version_none text v s fits = none_text text (subst IsWithin s.values fits)

-- a version is within the limit exactly where none of its numerals is past it
pub limits_agree : (text : List ℕ) (v : Fields) (at : ℕ) → Spells text v → IsWithin v ↔ (first_past at text ≡ None)
limits_agree text v at s = (λ fits. first_none at text (version_none text v s fits), λ none. version_within text v s (none_past at text none))

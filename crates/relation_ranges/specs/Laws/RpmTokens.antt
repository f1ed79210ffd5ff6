-- The letters of texts of RPM: of one that '^' and some '~' follow, and of a numeral.
use Rattle.std.proofs.Common.{◌≡◌, ◌≢◌, ◌≤◌, ◌++◌, ℕ, zero, suc, Bool, true, false, List, [], ◌∷◌, length, replicate, refl, sym, ap, ◌∙◌, inl, inr, arith, append_assoc, append-nil}
use Rattle.std.specs.Char.{is_ascii_digit, is_ascii_alphabetic}
use Rattle.std.specs.List.{list_all}
use Rattle.std.proofs.lemmas.Bool.{and_parts, cases_Bool}
use Rattle.vx_spec.specs.Numerals.{is_numeral, numeral_text, value}
use Rattle.vx_spec.specs.Runs.{begins, run, past}
use Rattle.vx_spec.proofs.NumeralLaws.{numeral_text_is, value-numeral_text}
use Rattle.vx_spec.proofs.RunLaws.{one_run, past_begins, run_all, run_past}
use Rattle.vx_text.proofs.PastLaws.{numeral_bytes}
use Rattle.vx_order.specs.Scanning.{behind_token}
use Rattle.vx_order.specs.Laws.Scanning.{behind_digits, behind_other, behind_word, scanned_step, token_number, token_takes_a_byte, token_word}
use Rattle.vx_spec.specs.Signs.{caret, tilde}
use Rattle.rpm_scheme.specs.Version.{tilde_rank, caret_rank, count_letter, sign_letter, sign_letters, word_letter, first_letters, letters_of}
use Rattle.relation_ranges.specs.Laws.RpmLetters.{snapshot}

-- the letters of a text's first token, then those of what stands behind it
letters_step : (part : List ℕ) → part ≢ [] → letters_of part ≡ first_letters part ++ letters_of (behind_token part)
letters_step = scanned_step first_letters behind_token token_takes_a_byte

-- ---- a text and what stands behind it

begins_behind : (test : ℕ → Bool) (text rest : List ℕ) → begins test text ≡ false → begins test rest ≡ false → begins test (text ++ rest) ≡ false
begins_behind test [] rest none stops = stops
begins_behind test (b ∷ text) rest none stops = none

-- a run ends before bytes that do not go on with it
run_before : (test : ℕ → Bool) (text rest : List ℕ) → begins test rest ≡ false → (run test (text ++ rest) ≡ run test text) × (past test (text ++ rest) ≡ past test text ++ rest)
run_before test text rest stops =
    let front = run test text in
    let behind = past test text in
    let one = one_run test front (behind ++ rest) (run_all test text) (begins_behind test behind rest (past_begins test text) stops) in
    let whole : text ++ rest ≡ front ++ (behind ++ rest) = ap (λ t. t ++ rest) (run_past test text) ∙ append_assoc front behind rest in
    (ap (run test) whole ∙ one.0, ap (past test) whole ∙ one.1)

-- bytes that go on with no run of digits and none of letters: they begin a token
abbrev IsParting : List ℕ → Type 0
IsParting rest = (begins is_ascii_digit rest ≡ false) × (begins is_ascii_alphabetic rest ≡ false)

token_before : (b : ℕ) (part rest : List ℕ) → IsParting rest
    → (first_letters (b ∷ (part ++ rest)) ≡ first_letters (b ∷ part)) × (behind_token (b ∷ (part ++ rest)) ≡ behind_token (b ∷ part) ++ rest)
token_before b part rest parts = elim (cases_Bool (is_ascii_digit b)) [
  | inl digit ↦
      let same = run_before is_ascii_digit (b ∷ part) rest parts.0 in (
        token_number count_letter word_letter sign_letters b (part ++ rest) digit ∙ ap (λ digits. count_letter (value digits) ∷ []) same.0 ∙ sym (token_number count_letter word_letter sign_letters b part digit),
        behind_digits b (part ++ rest) digit ∙ same.1 ∙ ap (λ t. t ++ rest) (sym (behind_digits b part digit)),
      )
  | inr other ↦ elim (cases_Bool (is_ascii_alphabetic b)) [
    | inl letter ↦
        let same = run_before is_ascii_alphabetic (b ∷ part) rest parts.1 in (
          token_word count_letter word_letter sign_letters b (part ++ rest) other letter ∙ ap (λ word. word_letter word ∷ []) same.0 ∙ sym (token_word count_letter word_letter sign_letters b part other letter),
          behind_word b (part ++ rest) other letter ∙ same.1 ∙ ap (λ t. t ++ rest) (sym (behind_word b part other letter)),
        )
    | inr sign ↦ (rw (other, sign) refl, behind_other b (part ++ rest) other sign ∙ ap (λ t. t ++ rest) (sym (behind_other b part other sign)))
  ]
]

some_byte : (b : ℕ) (part : List ℕ) → ◌≢◌ {A = List ℕ} (b ∷ part) []
some_byte b part e = cc e

-- the letters of a text, then those of what stands behind it
letters_up_to : (most : ℕ) (part rest : List ℕ) → length part ≤ most → IsParting rest → letters_of (part ++ rest) ≡ letters_of part ++ letters_of rest
letters_up_to most [] rest size parting = refl
letters_up_to zero (b ∷ part) rest size parting = absurd (omega (arith, size))
letters_up_to (suc most) (b ∷ part) rest size parting =
    let token = token_before b part rest parting in
    let behind = behind_token (b ∷ part) in
    let more = letters_up_to most behind rest (omega (arith, token_takes_a_byte b part, size)) parting in
    letters_step (b ∷ (part ++ rest)) (some_byte b (part ++ rest))
    ∙ (λ i. token.0 i ++ letters_of (token.1 i))
    ∙ ap (λ letters. first_letters (b ∷ part) ++ letters) more
    ∙ sym (append_assoc (first_letters (b ∷ part)) (letters_of behind) (letters_of rest))
    ∙ ap (λ letters. letters ++ letters_of rest) (sym (letters_step (b ∷ part) (some_byte b part)))

tildes_letters : (number : ℕ) → letters_of (replicate number tilde) ≡ replicate number (sign_letter tilde_rank)
tildes_letters zero = refl
tildes_letters (suc number) = ap (λ letters. sign_letter tilde_rank ∷ letters) (tildes_letters number)

-- '^' and so many times '~' behind a text
pub snapshot_letters : (part : List ℕ) (number : ℕ) → letters_of (part ++ caret ∷ replicate number tilde) ≡ letters_of part ++ snapshot number
snapshot_letters part number =
    letters_up_to (length part) part (caret ∷ replicate number tilde) (omega arith) (refl, refl)
    ∙ ap (λ letters. letters_of part ++ sign_letter caret_rank ∷ letters) (tildes_letters number)

-- ---- a numeral

digits_letters : (digits : List ℕ) → is_numeral digits ≡ true → letters_of digits ≡ count_letter (value digits) ∷ []
digits_letters [] is = cc is
digits_letters (b ∷ digits) is =
    let all = numeral_bytes (b ∷ digits) is in
    let digit = (and_parts (is_ascii_digit b) (list_all is_ascii_digit digits) all).0 in
    let one = one_run is_ascii_digit (b ∷ digits) [] all refl in
    let whole = append-nil (b ∷ digits) in
    letters_step (b ∷ digits) (some_byte b digits)
    ∙ ap (λ letters. letters ++ letters_of (behind_token (b ∷ digits))) (token_number count_letter word_letter sign_letters b digits digit ∙ ap (λ t. count_letter (value t) ∷ []) (ap (run is_ascii_digit) (sym whole) ∙ one.0))
    ∙ ap (λ t. count_letter (value (b ∷ digits)) ∷ letters_of t) (behind_digits b digits digit ∙ ap (past is_ascii_digit) (sym whole) ∙ one.1)

pub number_letters : (number : ℕ) → letters_of (numeral_text number) ≡ count_letter number ∷ []
number_letters number = digits_letters (numeral_text number) (numeral_text_is number) ∙ ap (λ n. count_letter n ∷ []) (value-numeral_text number)

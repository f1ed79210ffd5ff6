-- A suffix at the front of a text is taken off as it stands, with a separator that follows a word without a number.
use Rattle.std.proofs.Common.{◌≡◌, ◌++◌, ◌==◌, if◌then◌else◌, ℕ, Bool, true, false, List, [], ◌∷◌, Some, refl, ap, ◌∙◌, append_assoc, arith, inl, inr}
use Rattle.std.specs.Char.{is_ascii_digit, is_ascii_lowercase, to_ascii_lowercase}
use Rattle.std.specs.List.{list_all}
use Rattle.std.proofs.lemmas.Bool.{and_parts, cases_Bool, eqb-true}
use Rattle.std.proofs.lemmas.Bool.Decides.{nat_tests}
use Rattle.vx_spec.specs.Runs.{begins, past, run}
use Rattle.vx_spec.proofs.RunLaws.{one_run}
use Rattle.vx_text.specs.Folding.{lowered}
use Rattle.pep440_scheme.specs.declared.words.Mark.{Mark}
use Rattle.vx_spec.specs.Signs.{bang}
use Rattle.pep440_scheme.specs.Spelling.{Suffix, has_byte, is_closed, is_gap, is_pre_mark, is_separator, suffix_text}
use Rattle.pep440_scheme.specs.Words.{mark_of}
use Rattle.pep440_scheme.specs.Steps.Apart.{after_gap, is_dashed, suffix_at}
use Rattle.pep440_scheme.specs.Laws.FirstWords.{goes_on, word_begins, word_first, word_not_later}

-- a suffix with a word
pub record IsSuffix (mark : Mark) (s : Suffix) : Type 0 where
  pub lead : is_gap s.lead ≡ true
  pub word : mark_of (lowered s.word) ≡ Some mark
  pub gap : is_gap s.gap ≡ true
  pub digits : list_all is_ascii_digit s.digits ≡ true

-- ---- bytes

digit_no_gap : (b : ℕ) → is_ascii_digit b ≡ true → is_separator b ≡ false
digit_no_gap b is = grind (arith, nat_tests)

digit_no_letter : (b : ℕ) → is_ascii_digit b ≡ true → goes_on b ≡ false
digit_no_letter b is = grind (arith, nat_tests)

gap_no_letter : (b : ℕ) → is_separator b ≡ true → goes_on b ≡ false
gap_no_letter b is = grind (arith, nat_tests)

gap_no_digit : (b : ℕ) → is_separator b ≡ true → is_ascii_digit b ≡ false
gap_no_digit b is = grind (arith, nat_tests)

letter_no_gap : (b : ℕ) → is_ascii_lowercase (to_ascii_lowercase b) ≡ true → is_separator b ≡ false
letter_no_gap b is = grind (arith, nat_tests)

letter_no_digit : (b : ℕ) → is_ascii_lowercase (to_ascii_lowercase b) ≡ true → is_ascii_digit b ≡ false
letter_no_digit b is = grind (arith, nat_tests)

gap_no_bang : (b : ℕ) → is_separator b ≡ true → (b == bang) ≡ false
gap_no_bang b is = grind (arith, nat_tests)

letter_no_bang : (b : ℕ) → is_ascii_lowercase (to_ascii_lowercase b) ≡ true → (b == bang) ≡ false
letter_no_bang b is = grind (arith, nat_tests)

-- ---- a separator, or nothing

no_gap : (text : List ℕ) → begins is_separator text ≡ false → after_gap text ≡ text
no_gap [] none = refl
no_gap (b ∷ text) none = rw none refl

gap_append : (gap rest : List ℕ) → is_gap gap ≡ true → begins is_separator rest ≡ false → after_gap (gap ++ rest) ≡ rest
gap_append [] rest is none = no_gap rest none
gap_append (b ∷ []) rest is none = rw is refl
gap_append (b ∷ c ∷ gap) rest is none = cc is

-- a text behind a separator has the same suffix
pub suffix_behind : (text : List ℕ) → begins is_separator (after_gap text) ≡ false → suffix_at (after_gap text) ≡ suffix_at text
unfolding suffix_at
suffix_behind text none = rw (no_gap (after_gap text) none) refl

-- ---- a word

word_no_gap : (x rest : List ℕ) (mark : Mark) → mark_of (lowered x) ≡ Some mark → begins is_separator (x ++ rest) ≡ false
word_no_gap [] rest mark is = absurd (cc (word_begins [] mark is))
word_no_gap (b ∷ x) rest mark is = letter_no_gap b (word_begins (b ∷ x) mark is)

word_no_digit : (x rest : List ℕ) (mark : Mark) → mark_of (lowered x) ≡ Some mark → begins is_ascii_digit (x ++ rest) ≡ false
word_no_digit [] rest mark is = absurd (cc (word_begins [] mark is))
word_no_digit (b ∷ x) rest mark is = letter_no_digit b (word_begins (b ∷ x) mark is)

word_no_later : (x rest : List ℕ) (mark : Mark) → mark_of (lowered x) ≡ Some mark → is_pre_mark (Some mark) ≡ false → begins goes_on (x ++ rest) ≡ false
word_no_later [] rest mark is later = absurd (cc (word_begins [] mark is))
word_no_later (b ∷ x) rest mark is later = word_not_later (b ∷ x) mark is later

word_no_bang : (x rest : List ℕ) (mark : Mark) → mark_of (lowered x) ≡ Some mark → begins (λ b. b == bang) (x ++ rest) ≡ false
word_no_bang [] rest mark is = absurd (cc (word_begins [] mark is))
word_no_bang (b ∷ x) rest mark is = letter_no_bang b (word_begins (b ∷ x) mark is)

-- ---- the number behind it

digits_no_gap : (digits rest : List ℕ) → list_all is_ascii_digit digits ≡ true → has_byte digits ≡ true → begins is_separator (digits ++ rest) ≡ false
digits_no_gap [] rest all some = cc some
digits_no_gap (d ∷ digits) rest all some = digit_no_gap d (and_parts (is_ascii_digit d) (list_all is_ascii_digit digits) all).0

-- no word goes on with what follows it
behind_word : (gap digits rest : List ℕ) → is_gap gap ≡ true → list_all is_ascii_digit digits ≡ true → begins goes_on rest ≡ false → begins goes_on (gap ++ (digits ++ rest)) ≡ false
behind_word [] [] rest gap all none = none
behind_word [] (d ∷ digits) rest gap all none = digit_no_letter d (and_parts (is_ascii_digit d) (list_all is_ascii_digit digits) all).0
behind_word (b ∷ []) digits rest gap all none = gap_no_letter b gap
behind_word (b ∷ c ∷ gap') digits rest gap all none = cc gap

-- What is left behind a suffix: all that follows, but without a separator at its front where the suffix ends with its word.
abbrev pub left_behind : Suffix → List ℕ → List ℕ
left_behind s rest = if is_closed (Some s) then rest else after_gap rest

-- the number of a suffix, and what is left
pub record IsNumber (text digits left : List ℕ) : Type 0 where
  pub digits_are : run is_ascii_digit (after_gap text) ≡ digits
  pub left_is : past is_ascii_digit (after_gap text) ≡ left

by_run : (text digits rest : List ℕ) → after_gap text ≡ digits ++ rest → list_all is_ascii_digit digits ≡ true → begins is_ascii_digit rest ≡ false → IsNumber text digits rest
by_run text digits rest e all none = let r = one_run is_ascii_digit digits rest all none in record { digits_are = ap (run is_ascii_digit) e ∙ r.0; left_is = ap (past is_ascii_digit) e ∙ r.1 }

number_again : (lead word gap digits rest : List ℕ) → is_gap gap ≡ true → list_all is_ascii_digit digits ≡ true → begins is_ascii_digit rest ≡ false
    → (is_closed (Some (record { lead = lead; word = word; gap = gap; digits = digits })) ≡ false → begins is_ascii_digit (after_gap rest) ≡ false)
    → IsNumber (gap ++ (digits ++ rest)) digits (left_behind (record { lead = lead; word = word; gap = gap; digits = digits }) rest)
number_again lead word [] [] rest is all none open' = by_run rest [] (after_gap rest) refl refl (open' refl)
number_again lead word [] (d ∷ digits) rest is all none open' = by_run ((d ∷ digits) ++ rest) (d ∷ digits) rest (no_gap ((d ∷ digits) ++ rest) (digits_no_gap (d ∷ digits) rest all refl)) all none
number_again lead word (b ∷ []) [] rest is all none open' = by_run (b ∷ rest) [] rest (rw is refl) all none
number_again lead word (b ∷ []) (d ∷ digits) rest is all none open' = by_run (b ∷ ((d ∷ digits) ++ rest)) (d ∷ digits) rest (rw is refl) all none
number_again lead word (b ∷ c ∷ gap) digits rest is all none open' = cc is

-- ---- the suffix

-- the parts, one behind the other
pub suffix_parts : (s : Suffix) (rest : List ℕ) → suffix_text s ++ rest ≡ s.lead ++ (s.word ++ (s.gap ++ (s.digits ++ rest)))
suffix_parts s rest =
    append_assoc s.lead (s.word ++ (s.gap ++ s.digits)) rest
    ∙ ap (λ (t : List ℕ). s.lead ++ t) (append_assoc s.word (s.gap ++ s.digits) rest)
    ∙ ap (λ (t : List ℕ). s.lead ++ (s.word ++ t)) (append_assoc s.gap s.digits rest)

pub suffix_again : (mark : Mark) (s : Suffix) (rest : List ℕ) → IsSuffix mark s → begins is_ascii_digit rest ≡ false → begins goes_on rest ≡ false
    → (is_closed (Some s) ≡ false → begins is_ascii_digit (after_gap rest) ≡ false)
    → suffix_at (suffix_text s ++ rest) ≡ Some (record { mark = mark; digits = s.digits; rest = left_behind s rest })
unfolding suffix_at
suffix_again mark s rest is none no_letter open' =
    let behind = s.gap ++ (s.digits ++ rest) in
    let front = gap_append s.lead (s.word ++ behind) is.lead (word_no_gap s.word behind mark is.word) in
    let word = word_first s.word behind mark is.word (behind_word s.gap s.digits rest is.gap is.digits no_letter) in
    let number = number_again s.lead s.word s.gap s.digits rest is.gap is.digits none open' in
    rw (suffix_parts s rest, front, word, number.digits_are, number.left_is) refl

-- ---- what a text with a suffix at its front begins with

-- a text that begins with no number, with or without the separator at its front
pub record StandsApart (text : List ℕ) : Type 0 where
  pub no_digit : begins is_ascii_digit text ≡ false
  pub no_bang : begins (λ b. b == bang) text ≡ false
  pub no_digit_behind : begins is_ascii_digit (after_gap text) ≡ false
  pub no_gap_behind : begins is_separator (after_gap text) ≡ false

gap_or : (test : ℕ → Bool) (gap rest : List ℕ) → is_gap gap ≡ true → ((b : ℕ) → is_separator b ≡ true → test b ≡ false) → begins test rest ≡ false → begins test (gap ++ rest) ≡ false
gap_or test [] rest is none other = other
gap_or test (b ∷ []) rest is none other = none b is
gap_or test (b ∷ c ∷ gap) rest is none other = cc is

suffix_front : (mark : Mark) (s : Suffix) (rest : List ℕ) → IsSuffix mark s → after_gap (s.lead ++ (s.word ++ (s.gap ++ (s.digits ++ rest)))) ≡ s.word ++ (s.gap ++ (s.digits ++ rest))
suffix_front mark s rest is = let behind = s.gap ++ (s.digits ++ rest) in gap_append s.lead (s.word ++ behind) is.lead (word_no_gap s.word behind mark is.word)

pub suffix_apart : (mark : Mark) (s : Suffix) (rest : List ℕ) → IsSuffix mark s → StandsApart (suffix_text s ++ rest)
suffix_apart mark s rest is =
    let behind = s.gap ++ (s.digits ++ rest) in
    let front = suffix_front mark s rest is in
    rw (suffix_parts s rest) (record {
      no_digit = gap_or is_ascii_digit s.lead (s.word ++ behind) is.lead gap_no_digit (word_no_digit s.word behind mark is.word);
      no_bang = gap_or (λ b. b == bang) s.lead (s.word ++ behind) is.lead gap_no_bang (word_no_bang s.word behind mark is.word);
      no_digit_behind = rw front (word_no_digit s.word behind mark is.word);
      no_gap_behind = rw front (word_no_gap s.word behind mark is.word);
    })

-- and, but for a pre-release, with no letter that a word goes on by
pub suffix_no_letter : (mark : Mark) (s : Suffix) (rest : List ℕ) → IsSuffix mark s → is_pre_mark (Some mark) ≡ false → begins goes_on (suffix_text s ++ rest) ≡ false
suffix_no_letter mark s rest is later =
    let behind = s.gap ++ (s.digits ++ rest) in
    rw (suffix_parts s rest) (gap_or goes_on s.lead (s.word ++ behind) is.lead gap_no_letter (word_no_later s.word behind mark is.word later))

-- such a text has no '-' and a digit at its front
pub no_dash : (text : List ℕ) → begins is_ascii_digit (after_gap text) ≡ false → is_dashed text ≡ false
no_dash [] none = refl
no_dash (b ∷ text) none = elim (cases_Bool (b == 45)) [
  | inl is ↦ let e = eqb-true b 45 is in rw (is) (rw e at none)
  | inr other ↦ rw other refl
]

pub no_dash_behind : (text : List ℕ) → begins is_separator (after_gap text) ≡ false → is_dashed (after_gap text) ≡ false
no_dash_behind text none = plain_text (after_gap text) none
  where
    plain_text : (t : List ℕ) → begins is_separator t ≡ false → is_dashed t ≡ false
    plain_text [] other = refl
    plain_text (b ∷ t) other = let no : (b == 45) ≡ false = grind (arith, nat_tests) in rw no refl

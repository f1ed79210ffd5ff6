-- The segments of a text, one by one, with '-' not written out.
use Rattle.std.proofs.Common.{◌≡◌, ◌≤◌, ◌++◌, ℕ, zero, suc, List, [], ◌∷◌, length, Bool, true, false, eqb, refl, sym, ap, ◌∙◌, inl, inr, arith}
use Rattle.std.specs.List.{AllByRecursion, list_all}
use Rattle.std.specs.Char.{is_ascii_digit, is_ascii_alphabetic}
use Rattle.std.proofs.lemmas.Bool.{cases_Bool, and_parts, eqb-true}
use Rattle.std.proofs.lemmas.Bool.Decides.{nat_tests}
use Rattle.vx_spec.specs.Numerals.{value}
use Rattle.vx_spec.specs.Runs.{begins, run, past}
use Rattle.vx_spec.proofs.RunLaws.{one_run, past_less, past_step, past_stays, run_step, run_stays}
use Rattle.vx_scheme.specs.declared.ident.Ident.{Ident}
use Rattle.vx_scheme.specs.declared.ident.Ident.TheVariants.{Number, Word}
use Rattle.vx_spec.specs.Signs.{dot, hyphen}
use Rattle.vx_order.specs.Laws.Scanning.{scanned_number, scanned_other, scanned_word}
use Rattle.vx_order.specs.Scanning.{behind_token, scanned}
use Rattle.gem_scheme.specs.Spelling.{written_out, first_segments, segments_of}
use Rattle.gem_scheme.specs.Version.{SegmentIsWithin}
use Rattle.gem_scheme.specs.Steps.Tokens.{front_segments, sign_segments}

-- ---- runs of a text that is written out

written_other : (b : ℕ) (text : List ℕ) → eqb b hyphen ≡ false → written_out (b ∷ text) ≡ b ∷ written_out text
written_other b text other = rw other refl

not_hyphen : (test : ℕ → Bool) (b : ℕ) → test hyphen ≡ false → test b ≡ true → eqb b hyphen ≡ false
not_hyphen test b fails is = elim (cases_Bool (eqb b hyphen)) [
  | inl e ↦ absurd (let same = eqb-true b hyphen e in cc (ap test same, fails, is))
  | inr other ↦ other
]

module _ (test : ℕ → Bool) (no_hyphen : test hyphen ≡ false) (no_dot : test dot ≡ false) where
  written_stops : (b : ℕ) (text : List ℕ) → test b ≡ false → begins test (written_out (b ∷ text)) ≡ false
  written_stops b text other = elim (cases_Bool (eqb b hyphen)) [
    | inl is ↦ rw is no_dot
    | inr differs ↦ rw differs other
  ]

  -- a run that stands in front of what does not begin with such a byte
  stays : (text : List ℕ) → begins test text ≡ false → (run test text ≡ []) × (past test text ≡ text)
  stays text none = one_run test [] text refl none

  pub run_written : (text : List ℕ) → run test (written_out text) ≡ run test text
  run_written [] = refl
  run_written (b ∷ text) = elim (cases_Bool (test b)) [
    | inl is ↦
        rw (written_other b text (not_hyphen test b no_hyphen is))
        (run_step test b (written_out text) is ∙ ap (λ (bytes : List ℕ). b ∷ bytes) (run_written text) ∙ sym (run_step test b text is))
    | inr other ↦ (stays (written_out (b ∷ text)) (written_stops b text other)).0 ∙ sym (run_stays test b text other)
  ]

  pub past_written : (text : List ℕ) → past test (written_out text) ≡ written_out (past test text)
  past_written [] = refl
  past_written (b ∷ text) = elim (cases_Bool (test b)) [
    | inl is ↦
        rw (written_other b text (not_hyphen test b no_hyphen is))
        (past_step test b (written_out text) is ∙ past_written text ∙ ap written_out (sym (past_step test b text is)))
    | inr other ↦ (stays (written_out (b ∷ text)) (written_stops b text other)).1 ∙ ap written_out (sym (past_stays test b text other))
  ]

-- ---- the segments of a text, whose '-' stand for the word 'pre'

-- ---- segments, one by one

-- the segments of a text that is written out
abbrev scan : List ℕ → List Ident
scan text = scanned first_segments behind_token text

scanned_pre : (text : List ℕ) → scan (dot ∷ 112 ∷ 114 ∷ 101 ∷ dot ∷ text) ≡ Word (112 ∷ 114 ∷ 101 ∷ []) ∷ scan text
scanned_pre text =
    scanned_other Number Word (λ b. []) dot (112 ∷ 114 ∷ 101 ∷ dot ∷ text) refl refl
    ∙ scanned_word Number Word (λ b. []) 112 (114 ∷ 101 ∷ dot ∷ text) refl refl
    ∙ ap (λ segments. Word (112 ∷ 114 ∷ 101 ∷ []) ∷ segments) (scanned_other Number Word (λ b. []) dot text refl refl)

pub of_digits : (b : ℕ) (text : List ℕ) → is_ascii_digit b ≡ true → segments_of (b ∷ text) ≡ Number (value (run is_ascii_digit (b ∷ text))) ∷ segments_of (past is_ascii_digit (b ∷ text))
of_digits b text digit =
    let written = written_other b text (not_hyphen is_ascii_digit b refl digit) in
    ap scan written ∙ scanned_number Number Word (λ c. []) b (written_out text) digit
    ∙ ap (λ (bytes : List ℕ). Number (value (run is_ascii_digit bytes)) ∷ scan (past is_ascii_digit bytes)) (sym written)
    ∙ ap (λ (bytes : List ℕ). Number (value bytes) ∷ scan (past is_ascii_digit (written_out (b ∷ text)))) (run_written is_ascii_digit refl refl (b ∷ text))
    ∙ ap (λ (rest : List ℕ). Number (value (run is_ascii_digit (b ∷ text))) ∷ scan rest) (past_written is_ascii_digit refl refl (b ∷ text))

of_word : (b : ℕ) (text : List ℕ) → is_ascii_digit b ≡ false → is_ascii_alphabetic b ≡ true → segments_of (b ∷ text) ≡ Word (run is_ascii_alphabetic (b ∷ text)) ∷ segments_of (past is_ascii_alphabetic (b ∷ text))
of_word b text other letter =
    let written = written_other b text (not_hyphen is_ascii_alphabetic b refl letter) in
    ap scan written ∙ scanned_word Number Word (λ c. []) b (written_out text) other letter
    ∙ ap (λ (bytes : List ℕ). Word (run is_ascii_alphabetic bytes) ∷ scan (past is_ascii_alphabetic bytes)) (sym written)
    ∙ ap (λ (bytes : List ℕ). Word bytes ∷ scan (past is_ascii_alphabetic (written_out (b ∷ text)))) (run_written is_ascii_alphabetic refl refl (b ∷ text))
    ∙ ap (λ (rest : List ℕ). Word (run is_ascii_alphabetic (b ∷ text)) ∷ scan rest) (past_written is_ascii_alphabetic refl refl (b ∷ text))

of_sign : (b : ℕ) (text : List ℕ) → is_ascii_digit b ≡ false → is_ascii_alphabetic b ≡ false → segments_of (b ∷ text) ≡ sign_segments b ++ segments_of text
of_sign b text other sign = elim (cases_Bool (eqb b hyphen)) [
  | inl is ↦ rw is (scanned_pre (written_out text))
  | inr differs ↦ rw differs (scanned_other Number Word (λ c. []) b (written_out text) other sign)
]

-- the segments of a text are scanned from it with '-' standing for "pre"
segments_up_to : (most : ℕ) (text : List ℕ) → length text ≤ most → segments_of text ≡ scanned front_segments behind_token text
segments_up_to most [] size = refl
segments_up_to zero (b ∷ text) size = absurd (omega (arith, size))
segments_up_to (suc most) (b ∷ text) size = elim (cases_Bool (is_ascii_digit b)) [
  | inl digit ↦
      let more = segments_up_to most (past is_ascii_digit (b ∷ text)) (omega (arith, past_less is_ascii_digit b text digit, size)) in
      of_digits b text digit ∙ ap (λ segments. Number (value (run is_ascii_digit (b ∷ text))) ∷ segments) more ∙ sym (scanned_number Number Word sign_segments b text digit)
  | inr other ↦ elim (cases_Bool (is_ascii_alphabetic b)) [
    | inl letter ↦
        let more = segments_up_to most (past is_ascii_alphabetic (b ∷ text)) (omega (arith, past_less is_ascii_alphabetic b text letter, size)) in
        of_word b text other letter ∙ ap (λ segments. Word (run is_ascii_alphabetic (b ∷ text)) ∷ segments) more ∙ sym (scanned_word Number Word sign_segments b text other letter)
    | inr sign ↦
        let more = segments_up_to most text (omega (arith, size)) in
        of_sign b text other sign ∙ ap (λ segments. sign_segments b ++ segments) more ∙ sym (scanned_other Number Word sign_segments b text other sign)
  ]
]

pub segments_scanned : (text : List ℕ) → segments_of text ≡ scanned front_segments behind_token text
segments_scanned text = segments_up_to (length text) text (omega arith)

-- a segment that another byte stands for is within the limit
pub sign_within : (b : ℕ) → AllByRecursion SegmentIsWithin (sign_segments b)
sign_within b = elim (cases_Bool (eqb b hyphen)) [
  | inl is ↦ rw is (tt, tt)
  | inr other ↦ rw other tt
]

-- ---- digits or letters, with another byte or nothing behind them

pub digits_in_front : (b : ℕ) (digits behind : List ℕ) → list_all is_ascii_digit (b ∷ digits) ≡ true → begins is_ascii_digit behind ≡ false
    → segments_of ((b ∷ digits) ++ behind) ≡ Number (value (b ∷ digits)) ∷ segments_of behind
digits_in_front b digits behind all none =
    let digit = (and_parts (is_ascii_digit b) (list_all is_ascii_digit digits) all).0 in
    let one = one_run is_ascii_digit (b ∷ digits) behind all none in
    of_digits b (digits ++ behind) digit
    ∙ ap (λ (bytes : List ℕ). Number (value bytes) ∷ segments_of (past is_ascii_digit (b ∷ (digits ++ behind)))) one.0
    ∙ ap (λ (rest : List ℕ). Number (value (b ∷ digits)) ∷ segments_of rest) one.1

letter_no_digit : (b : ℕ) → is_ascii_alphabetic b ≡ true → is_ascii_digit b ≡ false
letter_no_digit b is = grind (arith, nat_tests)

pub word_in_front : (b : ℕ) (word behind : List ℕ) → list_all is_ascii_alphabetic (b ∷ word) ≡ true → begins is_ascii_alphabetic behind ≡ false
    → segments_of ((b ∷ word) ++ behind) ≡ Word (b ∷ word) ∷ segments_of behind
word_in_front b word behind all none =
    let letter = (and_parts (is_ascii_alphabetic b) (list_all is_ascii_alphabetic word) all).0 in
    let one = one_run is_ascii_alphabetic (b ∷ word) behind all none in
    of_word b (word ++ behind) (letter_no_digit b letter) letter
    ∙ ap (λ (bytes : List ℕ). Word bytes ∷ segments_of (past is_ascii_alphabetic (b ∷ (word ++ behind)))) one.0
    ∙ ap (λ (rest : List ℕ). Word (b ∷ word) ∷ segments_of rest) one.1

pub dot_in_front : (text : List ℕ) → segments_of (dot ∷ text) ≡ segments_of text
dot_in_front text = of_sign dot text refl refl

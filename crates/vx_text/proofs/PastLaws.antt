-- Numerals past the limit, and how they are found.
use Rattle.std.proofs.Common.{◌≡◌, ◌<◌, ◌≤◌, ◌+◌, ◌^◌, ◌++◌, not, ℕ, zero, suc, Bool, true, false, List, [], ◌∷◌, length, drop, refl, sym, ap, ◌∙◌, subst, inl, inr, Some, None, arith, nat_lt, append-nil, length-append}
use Rattle.std.specs.List.{list_all, prefix_len}
use Rattle.std.specs.Char.{is_ascii_alphabetic, is_ascii_digit}
use Rattle.std.specs.Str.{IsUtf8}
use Rattle.std.proofs.lemmas.Bool.{cases_Bool, and_parts, ltb-true, lt-ltb}
use Rattle.std.proofs.lemmas.Bool.Decides.{nat_tests}
use Rattle.vx_spec.specs.Numerals.{is_numeral, value}
use Rattle.vx_spec.specs.Runs.{begins, run, past}
use Rattle.vx_spec.proofs.RunLaws.{run_step, run_stays, run_past, past_begins, run_all, one_run}
use Rattle.vx_spec.proofs.TextLaws.{each_by_test, utf8_by_each}
use Rattle.vx_text.specs.Past.{is_past, first_past, NonePast}
use Rattle.vx_text.proofs.ValueLaws.{few_within}

-- digits are UTF-8
digit_byte : (b : ℕ) → is_ascii_digit b ≡ true → b < 128
digit_byte b is = grind (arith, nat_tests)

pub digits_utf8 : (text : List ℕ) → list_all is_ascii_digit text ≡ true → IsUtf8 text
digits_utf8 text all = utf8_by_each text (each_by_test (λ b. b < 128) is_ascii_digit text digit_byte all)

-- and so are letters
letter_byte : (b : ℕ) → is_ascii_alphabetic b ≡ true → b < 128
letter_byte b is = grind (arith, nat_tests)

pub word_utf8 : (text : List ℕ) → list_all is_ascii_alphabetic text ≡ true → IsUtf8 text
word_utf8 text all = utf8_by_each text (each_by_test (λ b. b < 128) is_ascii_alphabetic text letter_byte all)

-- a numeral is made of digits
pub numeral_bytes : (text : List ℕ) → is_numeral text ≡ true → list_all is_ascii_digit text ≡ true
numeral_bytes text is = (and_parts (nat_lt 0 (length text)) (list_all is_ascii_digit text) is).1

-- ---- finding the first

fine : (digits : List ℕ) → is_past digits ≡ false → value digits < 2 ^ 128
fine digits is = elim (cases_Bool (nat_lt (value digits) (2 ^ 128))) [
  | inl small ↦ ltb-true (value digits) (2 ^ 128) small
  | inr other ↦ absurd (cc (ap not other, is))
]

not_past : (digits : List ℕ) → value digits < 2 ^ 128 → is_past digits ≡ false
not_past digits small = ap not (lt-ltb (value digits) (2 ^ 128) small)

-- a numeral within the limit is passed over
pass_digits : (at : ℕ) (digits rest : List ℕ) → list_all is_ascii_digit digits ≡ true → begins is_ascii_digit rest ≡ false → value digits < 2 ^ 128
    → first_past at (digits ++ rest) ≡ first_past (at + length digits) rest
pass_digits at [] rest all none small = ap (λ i. first_past i rest) (omega arith)
pass_digits at (d ∷ digits) rest all none small =
    let whole' = one_run is_ascii_digit (d ∷ digits) rest all none in
    let here : is_past (run is_ascii_digit (d ∷ (digits ++ rest))) ≡ false = ap is_past whole'.0 ∙ not_past (d ∷ digits) small in
    let less : value digits < 2 ^ 128 = omega (arith, small) in
    let place : at + 1 + length digits ≡ at + length (d ∷ digits) = omega arith in
    rw here (pass_digits (at + 1) digits rest (and_parts (is_ascii_digit d) (list_all is_ascii_digit digits) all).1 none less ∙ ap (λ i. first_past i rest) place)

pub pass_run : (at : ℕ) (text : List ℕ) → is_past (run is_ascii_digit text) ≡ false → first_past at text ≡ first_past (at + length (run is_ascii_digit text)) (past is_ascii_digit text)
pass_run at text is =
    ap (first_past at) (run_past is_ascii_digit text) ∙ pass_digits at (run is_ascii_digit text) (past is_ascii_digit text) (run_all is_ascii_digit text) (past_begins is_ascii_digit text) (fine _ is)

pub here_past : (at b : ℕ) (text : List ℕ) → is_past (run is_ascii_digit (b ∷ text)) ≡ true → first_past at (b ∷ text) ≡ Some at
here_past at b text is = rw is refl

-- ---- none past

pub none_past : (at : ℕ) (text : List ℕ) → first_past at text ≡ None → NonePast text
none_past at [] e = tt
none_past at (b ∷ text) e = elim (cases_Bool (is_past (run is_ascii_digit (b ∷ text)))) [
  | inl past' ↦ absurd (cc (rw past' at e))
  | inr other ↦ (fine (run is_ascii_digit (b ∷ text)) other, none_past (at + 1) text (rw other at e))
]

pub none_behind : (xs ys : List ℕ) → NonePast (xs ++ ys) → NonePast ys
none_behind [] ys h = h
none_behind (x ∷ xs) ys h = none_behind xs ys h.1

none_drop : (n : ℕ) (text : List ℕ) → NonePast text → NonePast (drop n text)
none_drop zero text h = h
none_drop (suc n) [] h = tt
none_drop (suc n) (b ∷ text) h = none_drop n text h.1

pub none_after : (test : ℕ → Bool) (text : List ℕ) → NonePast text → NonePast (past test text)
none_after test text h = none_drop (prefix_len test text) text h

pub run_front : (xs ys : List ℕ) → begins is_ascii_digit ys ≡ false → run is_ascii_digit (xs ++ ys) ≡ run is_ascii_digit xs
run_front [] [] none = refl
run_front [] (y ∷ ys) none = run_stays is_ascii_digit y ys none
run_front (x ∷ xs) ys none = elim (cases_Bool (is_ascii_digit x)) [
  | inl digit ↦ run_step is_ascii_digit x (xs ++ ys) digit ∙ ap (λ (r : List ℕ). x ∷ r) (run_front xs ys none) ∙ sym (run_step is_ascii_digit x xs digit)
  | inr other ↦ run_stays is_ascii_digit x (xs ++ ys) other ∙ sym (run_stays is_ascii_digit x xs other)
]

pub none_front : (xs ys : List ℕ) → begins is_ascii_digit ys ≡ false → NonePast (xs ++ ys) → NonePast xs
none_front [] ys none h = tt
none_front (x ∷ xs) ys none h = (subst (λ r. value r < 2 ^ 128) (run_front (x ∷ xs) ys none) h.0, none_front xs ys none h.1)

pub none_run : (text : List ℕ) → NonePast text → value (run is_ascii_digit text) < 2 ^ 128
none_run [] h = omega arith
none_run (b ∷ text) h = h.0

whole_run : (digits : List ℕ) → list_all is_ascii_digit digits ≡ true → run is_ascii_digit digits ≡ digits
whole_run digits all = ap (run is_ascii_digit) (sym (append-nil digits)) ∙ (one_run is_ascii_digit digits [] all refl).0

pub numeral_within : (text : List ℕ) → is_numeral text ≡ true → NonePast text → value text < 2 ^ 128
numeral_within text is none = subst (λ r. value r < 2 ^ 128) (whole_run text (numeral_bytes text is)) (none_run text none)

-- ---- texts put together of parts in which none is past

pub first_none : (at : ℕ) (text : List ℕ) → NonePast text → first_past at text ≡ None
first_none at [] h = refl
first_none at (b ∷ text) h = rw (not_past (run is_ascii_digit (b ∷ text)) h.0) (first_none (at + 1) text h.1)

-- too few bytes for a numeral past the limit
run_most : (text : List ℕ) → length (run is_ascii_digit text) ≤ length text
run_most text = omega (arith, ap length (run_past is_ascii_digit text), length-append (run is_ascii_digit text) (past is_ascii_digit text))

few_none : (text : List ℕ) → length text < 39 → NonePast text
few_none [] few = tt
few_none (b ∷ text) few = (
  few_within (run is_ascii_digit (b ∷ text)) (run_all is_ascii_digit (b ∷ text)) (omega (arith, run_most (b ∷ text), few)),
  few_none text (omega arith),
)

pub few_first : (at : ℕ) (text : List ℕ) → length text < 39 → first_past at text ≡ None
few_first at text few = first_none at text (few_none text few)

pub no_digit : (b : ℕ) (text : List ℕ) → is_ascii_digit b ≡ false → value (run is_ascii_digit (b ∷ text)) < 2 ^ 128
no_digit b text other = rw (run_stays is_ascii_digit b text other) (omega arith)

pub none_join : (xs ys : List ℕ) → begins is_ascii_digit ys ≡ false → NonePast xs → NonePast ys → NonePast (xs ++ ys)
none_join [] ys none p q = q
none_join (x ∷ xs) ys none p q = (subst (λ r. value r < 2 ^ 128) (sym (run_front (x ∷ xs) ys none)) p.0, none_join xs ys none p.1 q)

-- bytes that are no digits in front
pub none_others : (test : ℕ → Bool) → ((b : ℕ) → test b ≡ true → is_ascii_digit b ≡ false) → (xs ys : List ℕ) → list_all test xs ≡ true → NonePast ys → NonePast (xs ++ ys)
none_others test other [] ys all q = q
none_others test other (x ∷ xs) ys all q =
    let a = and_parts (test x) (list_all test xs) all in
    (no_digit x (xs ++ ys) (other x a.0), none_others test other xs ys a.1 q)

letter_no_digit : (b : ℕ) → is_ascii_alphabetic b ≡ true → is_ascii_digit b ≡ false
letter_no_digit b is = grind (arith, nat_tests)

pub none_word : (word ys : List ℕ) → list_all is_ascii_alphabetic word ≡ true → NonePast ys → NonePast (word ++ ys)
none_word word ys all q = none_others is_ascii_alphabetic letter_no_digit word ys all q

pub none_digits : (digits : List ℕ) → list_all is_ascii_digit digits ≡ true → value digits < 2 ^ 128 → NonePast digits
none_digits [] all small = tt
none_digits (d ∷ digits) all small =
    let less : value digits < 2 ^ 128 = omega (arith, small) in
    (subst (λ r. value r < 2 ^ 128) (sym (whole_run (d ∷ digits) all)) small, none_digits digits (and_parts (is_ascii_digit d) (list_all is_ascii_digit digits) all).1 less)

-- digits within the limit in front of what begins with no digit
pub none_number : (digits ys : List ℕ) → list_all is_ascii_digit digits ≡ true → begins is_ascii_digit ys ≡ false → value digits < 2 ^ 128 → NonePast ys → NonePast (digits ++ ys)
none_number digits ys all none small q = none_join digits ys none (none_digits digits all small) q

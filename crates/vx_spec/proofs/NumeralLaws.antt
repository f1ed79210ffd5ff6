-- Numerals: their value, what `parse` gives for them, and the numeral of a number.
use Rattle.std.proofs.Common.{◌≡◌, ◌<◌, ◌≤◌, ◌^◌, ℕ, List, length, Result, Ok, Err, true, rules, arith, inl, inr, ◌≢◌, ◌+◌, ◌/◌, ◌%◌, ◌++◌, [], ◌∷◌, get_or, map, refl, ap, ◌∙◌}
use Rattle.std.specs.List.{list_all}
use Rattle.std.specs.Char.{is_ascii_digit, digit_value}
use Rattle.std.specs.Str.Parse.{ParsesUnsigned}
use Rattle.std.proofs.lemmas.Bool.{cases_lt, and_parts, ltb-true, cases_eq, and_from, ne_eqb, lt-ltb}
use Rattle.std.proofs.lemmas.Result.{OkIff-at_ok, OkIff-at_err}
use Rattle.std.proofs.lemmas.Str.Parse.{IsNumeralModel, numerals_by_weight, parse_digits}
use Rattle.vx_spec.specs.Numerals.{is_numeral, value, numeral_text}
use Rattle.std.specs.Fmt.{decimal}
use Rattle.std.specs.Int.Digits.{digits_of, number_from_digits, AllBelowBase}
use Rattle.std.proofs.lemmas.Bool.Decides.{nat_tests}
use Rattle.std.proofs.lemmas.List.{map-append, length-map, get_or-map}
use Rattle.std.proofs.lemmas.Fmt.{decimal_by_steps_wide}
use Rattle.std.proofs.lemmas.Int.Digits.{number_digits_of, first_digits_of, all_below_base_digits_of, digits_of_step, length-digits_of_step, digits_value_is}

-- digits and their value, as std's lemmas on `parse` know them
pub own : IsNumeralModel (λ ds. list_all is_ascii_digit ds ≡ true) value
own = numerals_by_weight _ (search rules) value (search rules)

pub parsed : {E : Type 0} (text : List ℕ) (r : Result ℕ E) (number : ℕ) → is_numeral text ≡ true → ParsesUnsigned 128 10 text r → r ≡ Ok number
    → (value text < 2 ^ 128) × (number ≡ value text)
parsed text r number is p ok =
    let h = OkIff-at_ok r _ _ number (parse_digits own 128 text r p (and_parts _ _ is).1) ok in
    (h.0.1, h.1)

pub not_parsed : {E : Type 0} (text : List ℕ) (r : Result ℕ E) (e : E) → is_numeral text ≡ true → ParsesUnsigned 128 10 text r → r ≡ Err e
    → 2 ^ 128 ≤ value text
not_parsed text r e is p err = let a = and_parts _ _ is in elim (cases_lt (value text) (2 ^ 128)) [
  | inl small ↦ absurd (OkIff-at_err r _ _ e (parse_digits own 128 text r p a.1) err (ltb-true _ _ a.0, small))
  | inr large ↦ large
]

abbrev glyphs : List ℕ → List ℕ
glyphs ds = map (λ d. 48 + d) ds

digits_glyphs : (ds : List ℕ) → AllBelowBase 10 ds → list_all is_ascii_digit (glyphs ds) ≡ true
digits_glyphs [] below = refl
digits_glyphs (d ∷ ds) below = and_from _ _ (let l : d < 10 = below.0 in grind (arith, nat_tests)) (digits_glyphs ds below.1)

read_glyphs : (ds : List ℕ) → AllBelowBase 10 ds → map digit_value (glyphs ds) ≡ ds
read_glyphs [] below = refl
read_glyphs (d ∷ ds) below =
    let l : d < 10 = below.0 in
    let e : digit_value (48 + d) ≡ d = grind (arith, nat_tests) in
    cc (e, read_glyphs ds below.1)

value_glyphs : (ds : List ℕ) → AllBelowBase 10 ds → value (glyphs ds) ≡ number_from_digits 10 ds
value_glyphs ds below =
    own.same (glyphs ds) (own.to (glyphs ds) (digits_glyphs ds below)) ∙ digits_value_is 10 (glyphs ds) ∙ ap (number_from_digits 10) (read_glyphs ds below)

two : 2 ≤ 10
two = omega arith

pub value-numeral_text : (n : ℕ) → value (numeral_text n) ≡ n
unfolding numeral_text
value-numeral_text n = elim (cases_eq n 0) [
  | inl none ↦ rw (none) refl
  | inr some ↦ rw (ne_eqb n 0 some) (value_glyphs (digits_of 10 n) (all_below_base_digits_of 10 n two) ∙ number_digits_of 10 n two)
]

pub numeral_text_is : (n : ℕ) → is_numeral (numeral_text n) ≡ true
unfolding numeral_text
numeral_text_is n = elim (cases_eq n 0) [
  | inl none ↦ rw (none) refl
  | inr some ↦
      let some' : 0 < length (glyphs (digits_of 10 n)) =
      omega (arith, length-map (digits_of 10 n) (λ d. 48 + d), length-digits_of_step 10 n two (omega arith)) in
      rw (ne_eqb n 0 some) (and_from _ _ (lt-ltb _ _ some') (digits_glyphs (digits_of 10 n) (all_below_base_digits_of 10 n two)))
]

-- a zero stands first only alone
pub numeral_text_first : (n : ℕ) → get_or (numeral_text n) 0 0 ≡ 48 → length (numeral_text n) ≡ 1
unfolding numeral_text
numeral_text_first n = elim (cases_eq n 0) [
  | inl none ↦ rw (none) (λ _. refl)
  | inr some ↦
      let size = length-digits_of_step 10 n two (omega arith) in
      let first = first_digits_of 10 n two (omega arith) in
      let e = get_or-map (λ d. 48 + d) (digits_of 10 n) 0 0 0 (omega arith) in
      rw (ne_eqb n 0 some) (λ z. absurd (omega (arith, first, e, z)))
]

abbrev IsText : ℕ → List ℕ → Type 0
IsText n ds = ds ≡ numeral_text n

one_digit : (n : ℕ) → n < 10 → IsText n ((48 + n) ∷ [])
unfolding numeral_text
one_digit n small = elim (cases_eq n 0) [
  | inl none ↦ rw (none) refl
  | inr some ↦
      let top : n / 10 ≡ 0 = omega arith in
      let low : n % 10 ≡ n = omega arith in
      rw (ne_eqb n 0 some, digits_of_step 10 n two (omega arith), top, low) refl
]

more_digits : (n : ℕ) (ds : List ℕ) → 10 ≤ n → IsText (n / 10) ds → IsText n (ds ++ ((48 + n % 10) ∷ []))
unfolding numeral_text
more_digits n ds big front =
    let some : n ≢ 0 = omega arith in
    let above : n / 10 ≢ 0 = omega arith in
    let front' : ds ≡ glyphs (digits_of 10 (n / 10)) = rw (ne_eqb (n / 10) 0 above) at front in
    rw (ne_eqb n 0 some, digits_of_step 10 n two (omega arith), map-append, front') refl

-- what `{n}` prints
pub decimal_is : (n : ℕ) → n < 2 ^ 128 → decimal n ≡ numeral_text n
decimal_is n small = decimal_by_steps_wide IsText one_digit more_digits n (omega arith)

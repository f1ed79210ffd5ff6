-- Comparators that are printed are read by `semver` as those comparators.
use Rattle.std.proofs.Common.{◌≡◌, ◌<◌, ◌≤◌, ◌^◌, ◌%◌, ℕ, zero, suc, ◌+◌, ◌==◌, ◌++◌, List, [], ◌∷◌, length, Ok, Some, None, false, refl, sym, ap, ◌∙◌, arith, append_assoc, append-nil, map}
use Rattle.std.specs.Fmt.{decimal}
use Rattle.std.proofs.lemmas.Bool.Decides.{nat_tests}
use Rattle.std.proofs.lemmas.Fmt.{decimal_by_steps}
use Rattle.semver.specs.Identifiers.{parts_text}
use Rattle.semver.specs.Parse.{Held, comparator_of, req_from, req_of, op_of, strip_spaces, wildcard_of}
use Rattle.semver.specs.declared.error.Position.TheVariants as place
use Rattle.semver.proofs.Numerals.{numeric-of_text, starts_digit}
use Rattle.semver.proofs.Requirements.{req-end, req-more}
use Rattle.cargo_range.specs.declared.back.Sign.{Sign}
use Rattle.cargo_range.specs.declared.back.Sign.TheVariants as sign
use Rattle.cargo_range.specs.Back.{Bound, ArePlain, sign_text, bound_text, requirement_text, operator_of, construct_of}
use Rattle.cargo_range.specs.Version.{IsPlain}
use Rattle.cargo_range.specs.Holds.{held_of}
use Rattle.cargo_range.specs.Reading.{Reads, forms_of}

-- ---- numbers

-- a text that starts with a digit
abbrev StartsDigit : List ℕ → Type 0
StartsDigit digits = (b : ℕ) × (rest : List ℕ) × (digits ≡ b ∷ rest) × (48 ≤ b) × (b ≤ 57)

decimal_starts : (n : ℕ) → n < 2 ^ 64 → StartsDigit (decimal n)
decimal_starts = decimal_by_steps (λ n digits. StartsDigit digits)
    (λ k low. (48 + k, [], refl, omega arith, omega arith))
    (λ k digits big more. (more.0, more.1 ++ (48 + k % 10) ∷ [], ap (λ (l : List ℕ). l ++ (48 + k % 10) ∷ []) more.2, more.3, more.4))

-- before a digit there is no space to strip, and no wildcard
strip_digit : (n : ℕ) (rest : List ℕ) → n < 2 ^ 64 → strip_spaces (decimal n ++ rest) ≡ decimal n ++ rest
unfolding strip_spaces
strip_digit n rest fits =
    let d = decimal_starts n fits in
    let other : (d.0 == 32) ≡ false = grind (arith, nat_tests, d.3) in
    rw (d.2, other) refl

wildcard_digit : (n : ℕ) (rest : List ℕ) → n < 2 ^ 64 → wildcard_of (decimal n ++ rest) ≡ None
wildcard_digit n rest fits =
    let d = decimal_starts n fits in
    let star : (d.0 == 42) ≡ false = grind (arith, nat_tests, d.3) in
    let small : (d.0 == 120) ≡ false = grind (arith, nat_tests, d.4) in
    let large : (d.0 == 88) ≡ false = grind (arith, nat_tests, d.4) in
    rw (d.2, star, small, large) refl

-- ---- signs

-- the sign is read off
op_sign : (s : Sign) (n : ℕ) (rest : List ℕ) → n < 2 ^ 64 → op_of (sign_text s ++ (decimal n ++ rest)) ≡ (operator_of s, decimal n ++ rest)
op_sign sign.Exact n rest fits = refl
op_sign sign.GreaterEqual n rest fits = refl
op_sign sign.LessEqual n rest fits = refl
op_sign sign.Greater n rest fits =
    let d = decimal_starts n fits in
    let other : (d.0 == 61) ≡ false = grind (arith, nat_tests, d.4) in
    rw (d.2, other) refl
op_sign sign.Less n rest fits =
    let d = decimal_starts n fits in
    let other : (d.0 == 61) ≡ false = grind (arith, nat_tests, d.4) in
    rw (d.2, other) refl

-- it takes some bytes
sign_takes : (s : Sign) (text : List ℕ) → (length (sign_text s ++ text) == length text) ≡ false
sign_takes sign.Exact text = grind (arith, nat_tests)
sign_takes sign.Greater text = grind (arith, nat_tests)
sign_takes sign.GreaterEqual text = grind (arith, nat_tests)
sign_takes sign.Less text = grind (arith, nat_tests)
sign_takes sign.LessEqual text = grind (arith, nat_tests)

-- before it there is no space to strip, and no wildcard
strip_sign : (s : Sign) (rest : List ℕ) → strip_spaces (sign_text s ++ rest) ≡ sign_text s ++ rest
unfolding strip_spaces
strip_sign sign.Exact rest = refl
strip_sign sign.Greater rest = refl
strip_sign sign.GreaterEqual rest = refl
strip_sign sign.Less rest = refl
strip_sign sign.LessEqual rest = refl

wildcard_sign : (s : Sign) (rest : List ℕ) → wildcard_of (sign_text s ++ rest) ≡ None
wildcard_sign sign.Exact rest = refl
wildcard_sign sign.Greater rest = refl
wildcard_sign sign.GreaterEqual rest = refl
wildcard_sign sign.Less rest = refl
wildcard_sign sign.LessEqual rest = refl

-- ---- one comparator

-- what may follow a printed comparator: the end, or a comma
abbrev Follows : List ℕ → Type 0
Follows [] = Unit {0}
Follows (b ∷ rest) = b ≡ 44

no_digit : (rest : List ℕ) → Follows rest → starts_digit rest ≡ false
no_digit [] follows = refl
no_digit (b ∷ rest) follows = rw follows refl

-- three numbers, and what stands behind them
abbrev numbers_text : ℕ → ℕ → ℕ → List ℕ → List ℕ
numbers_text i j k rest = decimal i ++ (46 ∷ (decimal j ++ (46 ∷ (decimal k ++ rest))))

comparator_numbers : (s : Sign) (i j k : ℕ) (rest : List ℕ) → i < 2 ^ 64 → j < 2 ^ 64 → k < 2 ^ 64 → Follows rest
    → comparator_of (sign_text s ++ numbers_text i j k rest) ≡ Ok (operator_of s, i, Some j, Some k, [], place.Patch, rest)
unfolding strip_spaces
comparator_numbers s i j k [] fi fj fk follows =
    let opened = op_sign s i (46 ∷ (decimal j ++ (46 ∷ (decimal k ++ [])))) fi in
    let first = numeric-of_text place.Major i (46 ∷ (decimal j ++ (46 ∷ (decimal k ++ [])))) fi refl in
    let second = numeric-of_text place.Minor j (46 ∷ (decimal k ++ [])) fj refl in
    let third = numeric-of_text place.Patch k [] fk refl in
    rw (
      opened,
      sign_takes s (numbers_text i j k []),
      strip_digit i (46 ∷ (decimal j ++ (46 ∷ (decimal k ++ [])))) fi,
      first,
      wildcard_digit j (46 ∷ (decimal k ++ [])) fj,
      second,
      wildcard_digit k [] fk,
      third,
    ) refl
comparator_numbers s i j k (b ∷ more) fi fj fk follows =
    let rest = b ∷ more in
    let opened = op_sign s i (46 ∷ (decimal j ++ (46 ∷ (decimal k ++ rest)))) fi in
    let first = numeric-of_text place.Major i (46 ∷ (decimal j ++ (46 ∷ (decimal k ++ rest)))) fi refl in
    let second = numeric-of_text place.Minor j (46 ∷ (decimal k ++ rest)) fj refl in
    let third = numeric-of_text place.Patch k rest fk (no_digit rest follows) in
    rw (
      opened,
      sign_takes s (numbers_text i j k rest),
      strip_digit i (46 ∷ (decimal j ++ (46 ∷ (decimal k ++ rest)))) fi,
      first,
      wildcard_digit j (46 ∷ (decimal k ++ rest)) fj,
      second,
      wildcard_digit k rest fk,
      third,
      follows,
    ) refl

-- the text of a bound at a release, and what stands behind it
plain_text : (i j k : ℕ) (rest : List ℕ) → parts_text (i, j, k, [], []) ++ rest ≡ numbers_text i j k rest
plain_text i j k rest = simp (append_assoc, append-nil)

bound_is : (bound : Bound) (rest : List ℕ) → IsPlain bound.version
    → bound_text bound ++ rest ≡ sign_text bound.sign ++ numbers_text bound.version.0 bound.version.1 bound.version.2 rest
bound_is bound rest plain =
    append_assoc (sign_text bound.sign) _ rest
    ∙ ap (λ (pre : List ℕ). sign_text bound.sign ++ (parts_text (bound.version.0, bound.version.1, bound.version.2, pre, []) ++ rest)) plain.pre
    ∙ ap (λ (text : List ℕ). sign_text bound.sign ++ text) (plain_text bound.version.0 bound.version.1 bound.version.2 rest)

-- a comparator without a pre-release
abbrev plain_held : Bound → Held
plain_held bound = (operator_of bound.sign, bound.version.0, Some bound.version.1, Some bound.version.2, [])

bound_read : (bound : Bound) (rest : List ℕ) → IsPlain bound.version → Follows rest
    → comparator_of (bound_text bound ++ rest)
    ≡ Ok (operator_of bound.sign, bound.version.0, Some bound.version.1, Some bound.version.2, [], place.Patch, rest)
bound_read bound rest plain follows =
    ap comparator_of (bound_is bound rest plain)
    ∙ comparator_numbers bound.sign bound.version.0 bound.version.1 bound.version.2 rest plain.version.0 plain.version.1 plain.version.2 follows

-- ---- a requirement

-- the text of the bounds behind the first one, as it stands behind a comma
abbrev rest_text : List Bound → List ℕ
rest_text [] = []
rest_text (bound ∷ bounds) = 44 ∷ 32 ∷ requirement_text (bound ∷ bounds)

first_and_rest : (bound : Bound) (bounds : List Bound) → requirement_text (bound ∷ bounds) ≡ bound_text bound ++ rest_text bounds
first_and_rest bound [] = sym (append-nil (bound_text bound))
first_and_rest bound (next ∷ bounds) = refl

rest_follows : (bounds : List Bound) → Follows (rest_text bounds)
rest_follows [] = tt
rest_follows (bound ∷ bounds) = refl

-- a requirement begins with a sign
begins_with_sign : (bound : Bound) (bounds : List Bound)
    → (text : List ℕ) × (requirement_text (bound ∷ bounds) ≡ sign_text bound.sign ++ text)
begins_with_sign bound bounds = (_, first_and_rest bound bounds ∙ append_assoc (sign_text bound.sign) _ (rest_text bounds))

strip_text : (bound : Bound) (bounds : List Bound) → strip_spaces (requirement_text (bound ∷ bounds)) ≡ requirement_text (bound ∷ bounds)
strip_text bound bounds =
    let begins = begins_with_sign bound bounds in
    ap strip_spaces begins.1 ∙ strip_sign bound.sign begins.0 ∙ sym begins.1

strip_next : (bound : Bound) (bounds : List Bound)
    → strip_spaces (32 ∷ requirement_text (bound ∷ bounds)) ≡ requirement_text (bound ∷ bounds)
unfolding strip_spaces
strip_next bound bounds = strip_text bound bounds

wildcard_text : (bound : Bound) (bounds : List Bound) → wildcard_of (requirement_text (bound ∷ bounds)) ≡ None
wildcard_text bound bounds =
    let begins = begins_with_sign bound bounds in
    ap wildcard_of begins.1 ∙ wildcard_sign bound.sign begins.0

bounds_from : (n : ℕ) (bound : Bound) (bounds : List Bound) → length bounds < n → ArePlain (bound ∷ bounds)
    → req_from n (requirement_text (bound ∷ bounds)) ≡ Ok (map plain_held (bound ∷ bounds))
bounds_from zero bound bounds few plain = absurd (omega arith)
bounds_from (suc n) bound [] few plain =
    rw (first_and_rest bound []) (req-end n (bound_text bound ++ []) _ (bound_read bound [] plain.0 tt) refl)
bounds_from (suc n) bound (next ∷ bounds) few plain =
    let rest = rest_text (next ∷ bounds) in
    let stripped = strip_next next bounds in
    let after = bounds_from n next bounds (omega arith) plain.1 in
    req-more n (bound_text bound ++ rest) _ (requirement_text (next ∷ bounds)) (bound_read bound rest plain.0 refl) (rw stripped refl) ∙ rw after refl

plain_reads : (bounds : List Bound) → length bounds ≤ 32 → ArePlain bounds → req_of (requirement_text bounds) ≡ Ok (map plain_held bounds)
unfolding strip_spaces
plain_reads [] few plain = refl
plain_reads (bound ∷ bounds) few plain =
    rw (strip_text bound bounds, wildcard_text bound bounds) (bounds_from 32 bound bounds (omega arith) plain)

-- the comparators are those that were printed
held_alike : (bounds : List Bound) → ArePlain bounds → map plain_held bounds ≡ map held_of (map construct_of bounds)
held_alike [] plain = refl
held_alike (bound ∷ bounds) plain =
    λ i. (operator_of bound.sign, bound.version.0, Some bound.version.1, Some bound.version.2, sym plain.0.pre i) ∷ held_alike bounds plain.1 i

forms_alike : (bounds : List Bound) → ArePlain bounds → forms_of (map held_of (map construct_of bounds)) ≡ Some (map construct_of bounds)
forms_alike [] plain = refl
forms_alike (bound ∷ bounds) plain =
    rw (plain.0.version.3, forms_alike bounds plain.1)
    (ap (λ (build : List ℕ). Some (construct_of (record { sign = bound.sign; version = (bound.version.0, bound.version.1, bound.version.2, bound.version.3, build) }) ∷ map construct_of bounds)) (sym plain.0.build))

-- what is printed is read as the comparators that were printed
pub printed_is_read : (bounds : List Bound) → length bounds ≤ 32 → ArePlain bounds
    → req_of (requirement_text bounds) ≡ Ok (map held_of (map construct_of bounds))
printed_is_read bounds few plain = plain_reads bounds few plain ∙ ap Ok (held_alike bounds plain)

pub printed_reads : (bounds : List Bound) → length bounds ≤ 32 → ArePlain bounds → Reads (requirement_text bounds) (map construct_of bounds)
printed_reads bounds few plain = record {
  held = map held_of (map construct_of bounds);
  read = printed_is_read bounds few plain;
  formed = forms_alike bounds plain;
}

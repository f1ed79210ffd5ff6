-- The value of digits, one digit after another.
use Rattle.std.proofs.Common.{◌≡◌, ◌<◌, ◌≤◌, ◌+◌, ◌-◌, ◌*◌, ◌^◌, ◌++◌, ℕ, true, List, [], ◌∷◌, length, get_or, take, arith, ap, ◌∙◌, add-one, length-append}
use Rattle.std.proofs.Math.Nat.{mul-le-mul_right, pow-le-pow_right}
use Rattle.std.proofs.Math.Seq.{take-suc}
use Rattle.std.specs.List.{list_all}
use Rattle.std.proofs.lemmas.Bool.{and_parts}
use Rattle.std.proofs.lemmas.Bool.Decides.{nat_tests}
use Rattle.std.proofs.lemmas.Grind.{pow_more}
use Rattle.std.specs.Char.{is_ascii_digit}
use Rattle.vx_spec.specs.Numerals.{value}

-- one digit more
value-append : (digits : List ℕ) (d : ℕ) → value (digits ++ d ∷ []) ≡ value digits * 10 + (d - 48)
value-append [] d = omega arith
value-append (x ∷ digits) d =
    let size : length (digits ++ d ∷ []) ≡ length digits + 1 = length-append digits (d ∷ []) in
    rw (size, pow_more 10 (length digits), value-append digits d) (omega arith)

pub value_more : (text : List ℕ) (i : ℕ) → i < length text → value (take (i + 1) text) ≡ value (take i text) * 10 + (get_or text i 0 - 48)
value_more text i inside = rw (add-one, take-suc text i 0 inside) (value-append (take i text) (get_or text i 0))

-- so few digits that one more fits 64 bits
pub few_digits : (number i : ℕ) → number < 10 ^ i → i < 19 → number < 10 ^ 18
few_digits number i below few =
    let most : 10 ^ i ≤ 10 ^ 18 = pow-le-pow_right {n = 10} (omega arith) {i = i} {j = 18} (omega arith) in
    omega (arith, below, most)

-- no digit is above '9'
pub digit_most : (b : ℕ) → is_ascii_digit b ≡ true → b ≤ 57
digit_most b is = grind (arith, nat_tests)

-- digits are worth less than the power of ten of their number
value_below : (digits : List ℕ) → list_all is_ascii_digit digits ≡ true → value digits < 10 ^ length digits
value_below [] all = omega arith
value_below (d ∷ digits) all =
    let a = and_parts (is_ascii_digit d) (list_all is_ascii_digit digits) all in
    let most : d ≤ 57 = digit_most d a.0 in
    let digit : d - 48 ≤ 9 = omega arith in
    let head : (d - 48) * 10 ^ length digits ≤ 9 * 10 ^ length digits = mul-le-mul_right (10 ^ length digits) digit in
    let rest : value digits < 10 ^ length digits = value_below digits a.1 in
    let size : length (d ∷ digits) ≡ length digits + 1 = omega arith in
    omega (arith, head, rest, ap (λ (n : ℕ). 10 ^ n) size ∙ pow_more 10 (length digits))

-- so few digits that they do not pass the limit
pub few_within : (digits : List ℕ) → list_all is_ascii_digit digits ≡ true → length digits < 39 → value digits < 2 ^ 128
few_within digits all few =
    let most : 10 ^ length digits ≤ 10 ^ 38 = pow-le-pow_right {n = 10} (omega arith) {i = length digits} {j = 38} (omega arith) in
    omega (arith, value_below digits all, most)

-- What reading a numeral within 128 bits answers.
use Rattle.std.specs.Prelude.{◌≡◌, ◌^◌, ◌<◌, ◌≤◌, ℕ, true, false, List, Result, Ok, Err}
use Rattle.vx_spec.specs.Numerals.{is_numeral, value}
use Rattle.vx_text.specs.declared.numerals.NumeralFault.{NumeralFault}
use Rattle.vx_text.specs.declared.numerals.NumeralFault.TheVariants.{NotDigits, TooLarge}

abbrev pub IsReadAs : List ℕ → Result ℕ NumeralFault → Type 0
IsReadAs text (Ok number) = (is_numeral text ≡ true) × (value text < 2 ^ 128) × (number ≡ value text)
IsReadAs text (Err NotDigits) = is_numeral text ≡ false
IsReadAs text (Err TooLarge) = (is_numeral text ≡ true) × (2 ^ 128 ≤ value text)

-- Texts of NuGet's versions hold no blank, no comma and no sign of a bracket.
use Rattle.std.proofs.Common.{◌≡◌, ◌≢◌, ℕ, nat_lt, length, true, List, [], ◌∷◌, ◌++◌, ◌∙◌, sym, subst, arith, refl}
use Rattle.std.specs.List.{AllByRecursion, join_with_byte, list_all}
use Rattle.std.specs.Char.{is_ascii_digit}
use Rattle.std.proofs.lemmas.Bool.{and_parts}
use Rattle.std.proofs.lemmas.Bool.Decides.{nat_tests}
use Rattle.vx_spec.specs.Numerals.{is_numeral}
use Rattle.vx_spec.proofs.TextLaws.{each_append, each_by_test, each_joined, each_part, test_by_each}
use Rattle.vx_spec.specs.Signs.{dot, hyphen, plus}
use Rattle.vx_order.specs.Dotted.{tail}
use Rattle.vx_order.specs.Identifiers.{is_identifier, is_identifier_byte}
use Rattle.nuget_scheme.specs.Version.{Fields}
use Rattle.nuget_scheme.specs.Spelling.{Spells}
use Rattle.bracket_ranges.specs.Words.{IsWord, is_word_byte}

abbrev IsWordByte : ℕ → Type 0
IsWordByte b = is_word_byte b ≡ true

digit_word : (b : ℕ) → is_ascii_digit b ≡ true → is_word_byte b ≡ true
digit_word b is = grind (arith, nat_tests)

label_byte_word : (b : ℕ) → is_identifier_byte b ≡ true → is_word_byte b ≡ true
label_byte_word b is = grind (arith, nat_tests)

numeral_word : (text : List ℕ) → is_numeral text ≡ true → AllByRecursion IsWordByte text
numeral_word text is = each_by_test IsWordByte is_ascii_digit text digit_word (and_parts (nat_lt 0 (length text)) (list_all is_ascii_digit text) is).1

label_word : (text : List ℕ) → is_identifier text ≡ true → AllByRecursion IsWordByte text
label_word text is = each_by_test IsWordByte is_identifier_byte text label_byte_word (and_parts (nat_lt 0 (length text)) (list_all is_identifier_byte text) is).1

tail_word : (mark : ℕ) → is_word_byte mark ≡ true → (xs : List (List ℕ)) → AllByRecursion (AllByRecursion IsWordByte) xs → AllByRecursion IsWordByte (tail mark xs)
tail_word mark word [] all = tt
tail_word mark word (x ∷ xs) all = (word, each_joined IsWordByte dot refl (x ∷ xs) all)

-- each byte of a version's text is of words
spelled_bytes : (text : List ℕ) (v : Fields) → Spells text v → AllByRecursion IsWordByte text
spelled_bytes text v s =
    let p = s.parts in
    let numbers = each_joined IsWordByte dot refl p.numbers (each_part IsWordByte is_numeral p.numbers numeral_word s.form.numerals) in
    let labels = tail_word hyphen refl p.labels (each_part IsWordByte is_identifier p.labels label_word s.form.labels) in
    let build = tail_word plus refl p.build (each_part IsWordByte is_identifier p.build label_word s.form.build) in
    subst (AllByRecursion IsWordByte) (sym s.joined)
    (each_append IsWordByte (join_with_byte dot p.numbers ++ tail hyphen p.labels) (tail plus p.build)
    (each_append IsWordByte (join_with_byte dot p.numbers) (tail hyphen p.labels) numbers labels) build)

-- and there is one, of the first number
some_byte : (numbers : List (List ℕ)) (labels build : List ℕ) → nat_lt 0 (length numbers) ≡ true → list_all is_numeral numbers ≡ true → (join_with_byte dot numbers ++ labels) ++ build ≢ []
some_byte [] labels build some all e = cc some
some_byte ([] ∷ numbers) labels build some all e = let none = (and_parts (is_numeral []) (list_all is_numeral numbers) all).0 in cc none
some_byte ((b ∷ number) ∷ []) labels build some all e = cc e
some_byte ((b ∷ number) ∷ next ∷ numbers) labels build some all e = cc e

pub spelled_word : (text : List ℕ) (v : Fields) → Spells text v → IsWord text
spelled_word text v s = record {
  bytes = test_by_each IsWordByte is_word_byte text (λ b is. is) (spelled_bytes text v s);
  some = λ e. some_byte s.parts.numbers (tail hyphen s.parts.labels) (tail plus s.parts.build) s.form.some s.form.numerals (sym s.joined ∙ e);
}

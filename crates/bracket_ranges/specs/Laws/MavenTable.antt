-- Texts of Maven's versions are ASCII, and hold no blank, no comma and no sign of a bracket.
use Rattle.std.proofs.Common.{◌≡◌, ◌<◌, ℕ, nat_lt, length, true, List, ap, sym, ◌∙◌, arith}
use Rattle.std.specs.List.{list_all}
use Rattle.std.specs.Str.{IsUtf8}
use Rattle.std.proofs.lemmas.Bool.{and_parts}
use Rattle.std.proofs.lemmas.Bool.Decides.{nat_tests}
use Rattle.vx_spec.proofs.TextLaws.{each_by_test, test_by_each, utf8_by_each}
use Rattle.maven_scheme.specs.Version.{Fields}
use Rattle.maven_scheme.specs.Spelling.{Spells, is_version_byte, is_version_text}
use Rattle.bracket_ranges.specs.Words.{IsWord, is_word_byte}

byte_word : (b : ℕ) → is_version_byte b ≡ true → is_word_byte b ≡ true
byte_word b is = grind (arith, nat_tests)

byte_ascii : (b : ℕ) → is_version_byte b ≡ true → b < 128
byte_ascii b is = grind (arith, nat_tests)

text_bytes : (text : List ℕ) (v : Fields) → Spells text v → list_all is_version_byte text ≡ true
text_bytes text v s = (and_parts (nat_lt 0 (length text)) (list_all is_version_byte text) s.form).1

pub spelled_utf8 : (text : List ℕ) (v : Fields) → Spells text v → IsUtf8 text
spelled_utf8 text v s = utf8_by_each text (each_by_test (λ b. b < 128) is_version_byte text byte_ascii (text_bytes text v s))

pub spelled_word : (text : List ℕ) (v : Fields) → Spells text v → IsWord text
spelled_word text v s = record {
  bytes = test_by_each (λ b. is_word_byte b ≡ true) is_word_byte text (λ b is. is) (each_by_test (λ b. is_word_byte b ≡ true) is_version_byte text byte_word (text_bytes text v s));
  some = λ e. let none = sym (ap is_version_text e) ∙ s.form in cc none;
}

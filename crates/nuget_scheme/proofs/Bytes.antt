-- The bytes of a version's text.
use Rattle.std.proofs.Common.{◌≡◌, ◌<◌, ℕ, List, ◌++◌, true, sym, subst, arith}
use Rattle.std.specs.List.{AllByRecursion, join_with_byte}
use Rattle.std.specs.Char.{is_ascii_digit}
use Rattle.std.specs.Str.{IsUtf8}
use Rattle.std.proofs.lemmas.Bool.Decides.{nat_tests}
use Rattle.vx_spec.specs.Numerals.{is_numeral}
use Rattle.vx_spec.proofs.TextLaws.{each_append, each_joined, each_part, utf8_by_each}
use Rattle.vx_spec.specs.Signs.{dot, hyphen, plus}
use Rattle.vx_order.specs.Dotted.{tail}
use Rattle.vx_order.specs.Laws.Identifiers.{IsAsciiByte, identifiers_ascii, made_ascii}
use Rattle.nuget_scheme.specs.Version.{Fields}
use Rattle.nuget_scheme.specs.Spelling.{Spells}

digit_ascii : (b : ℕ) → is_ascii_digit b ≡ true → b < 128
digit_ascii b is = grind (arith, nat_tests)

-- each byte of a version's text is ASCII
pub spelled_ascii : (text : List ℕ) (v : Fields) → Spells text v → AllByRecursion IsAsciiByte text
spelled_ascii text v s =
    let p = s.parts in
    let numbers = each_joined IsAsciiByte dot (omega arith) p.numbers (each_part IsAsciiByte is_numeral p.numbers (made_ascii is_ascii_digit digit_ascii) s.form.numerals) in
    let labels = identifiers_ascii hyphen (omega arith) p.labels s.form.labels in
    let build = identifiers_ascii plus (omega arith) p.build s.form.build in
    subst (AllByRecursion IsAsciiByte) (sym s.joined)
    (each_append IsAsciiByte (join_with_byte dot p.numbers ++ tail hyphen p.labels) (tail plus p.build)
    (each_append IsAsciiByte (join_with_byte dot p.numbers) (tail hyphen p.labels) numbers labels) build)

-- so it is UTF-8
pub spelled_utf8 : (text : List ℕ) (v : Fields) → Spells text v → IsUtf8 text
spelled_utf8 text v s = utf8_by_each text (spelled_ascii text v s)

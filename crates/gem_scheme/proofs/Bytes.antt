-- The bytes of a version's text.
use Rattle.std.proofs.Common.{◌≡◌, ◌<◌, ℕ, List, ◌++◌, true, sym, subst, arith}
use Rattle.std.specs.List.{AllByRecursion}
use Rattle.std.specs.Char.{is_ascii_alphanumeric, is_ascii_digit}
use Rattle.std.specs.Str.{IsUtf8}
use Rattle.std.proofs.lemmas.Bool.Decides.{nat_tests}
use Rattle.vx_spec.proofs.TextLaws.{each_append, each_part, utf8_by_each}
use Rattle.vx_spec.specs.Signs.{dot, hyphen}
use Rattle.vx_order.specs.Dotted.{tail}
use Rattle.vx_order.specs.Laws.Identifiers.{IsAsciiByte, identifiers_ascii, made_ascii, tail_ascii}
use Rattle.gem_scheme.specs.Version.{Fields}
use Rattle.gem_scheme.specs.Spelling.{Spells, is_piece}

digit_ascii : (b : ℕ) → is_ascii_digit b ≡ true → b < 128
digit_ascii b is = grind (arith, nat_tests)

piece_byte_ascii : (b : ℕ) → is_ascii_alphanumeric b ≡ true → b < 128
piece_byte_ascii b is = grind (arith, nat_tests)

-- each byte of a version's text is ASCII
pub spelled_ascii : (text : List ℕ) (v : Fields) → Spells text v → AllByRecursion IsAsciiByte text
spelled_ascii text v s =
    let p = s.parts in
    let number = made_ascii is_ascii_digit digit_ascii p.number s.form.number in
    let pieces = tail_ascii dot (omega arith) p.pieces (each_part IsAsciiByte is_piece p.pieces (made_ascii is_ascii_alphanumeric piece_byte_ascii) s.form.pieces) in
    let labels = identifiers_ascii hyphen (omega arith) p.labels s.form.labels in
    subst (AllByRecursion IsAsciiByte) (sym s.joined) (each_append IsAsciiByte (p.number ++ tail dot p.pieces) (tail hyphen p.labels) (each_append IsAsciiByte p.number (tail dot p.pieces) number pieces) labels)

-- so it is UTF-8
pub spelled_utf8 : (text : List ℕ) (v : Fields) → Spells text v → IsUtf8 text
spelled_utf8 text v s = utf8_by_each text (spelled_ascii text v s)

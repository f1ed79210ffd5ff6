-- The bytes of a version's text.
use Rattle.std.proofs.Common.{◌≡◌, ◌<◌, ℕ, List, true, sym, subst, arith}
use Rattle.std.specs.List.{AllByRecursion}
use Rattle.std.specs.Char.{is_ascii_digit}
use Rattle.std.specs.Str.{IsUtf8}
use Rattle.std.proofs.lemmas.Bool.Decides.{nat_tests}
use Rattle.vx_spec.proofs.TextLaws.{each_by_test, utf8_by_each}
use Rattle.rpm_scheme.specs.Version.{Fields}
use Rattle.vx_text.proofs.EpochLaws.{last_each, whole_each}
use Rattle.rpm_scheme.specs.Laws.Unique.{part_bytes}
use Rattle.rpm_scheme.specs.Spelling.{Spells, is_part, is_part_byte}

-- an ASCII byte
abbrev pub IsAsciiByte : ℕ → Type 0
IsAsciiByte b = b < 128

digit_ascii : (b : ℕ) → is_ascii_digit b ≡ true → b < 128
digit_ascii b is = grind (arith, nat_tests)

byte_ascii : (b : ℕ) → is_part_byte b ≡ true → b < 128
byte_ascii b is = grind (arith, nat_tests)

part_ascii : (part : List ℕ) → is_part part ≡ true → AllByRecursion IsAsciiByte part
part_ascii part is = each_by_test IsAsciiByte is_part_byte part byte_ascii (part_bytes part is)

-- each byte of a version's text is ASCII
pub spelled_ascii : (text : List ℕ) (v : Fields) → Spells text v → AllByRecursion IsAsciiByte text
spelled_ascii text v s =
    let p = s.parts in
    let all = whole_each IsAsciiByte digit_ascii (omega arith) p s.form.epoch (part_ascii p.main s.form.main) (last_each IsAsciiByte is_part part_ascii (omega arith) p.last s.form.last) in
    subst (AllByRecursion IsAsciiByte) (sym s.joined) all

-- so it is UTF-8
pub spelled_utf8 : (text : List ℕ) (v : Fields) → Spells text v → IsUtf8 text
spelled_utf8 text v s = utf8_by_each text (spelled_ascii text v s)

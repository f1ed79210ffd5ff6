-- RPM's relations are words: what is written of terms is read as these terms.
use Rattle.std.proofs.Common.{◌≡◌, ℕ, true, false, List, refl, sym, subst}
use Rattle.std.specs.List.{AllByRecursion}
use Rattle.std.specs.Char.{is_ascii_digit}
use Rattle.std.proofs.Common.{arith}
use Rattle.std.proofs.lemmas.Bool.Decides.{nat_tests}
use Rattle.vx_spec.proofs.TextLaws.{each_by_test, test_by_each}
use Rattle.vx_text.proofs.EpochLaws.{last_each, whole_each}
use Rattle.rpm_scheme.specs.Version.{Fields}
use Rattle.rpm_scheme.specs.Spelling.{IsVersion, Spells, is_part, is_part_byte}
use Rattle.rpm_scheme.specs.Writing.{normal}
use Rattle.rpm_scheme.specs.Laws.Texts.{rpm_texts}
use Rattle.rpm_scheme.specs.Laws.Unique.{part_bytes}
use Rattle.relation_ranges.specs.declared.comparison.Strict.TheVariants.{Single}
use Rattle.relation_ranges.specs.Comparison.{is_sign}
use Rattle.relation_ranges.specs.Rpm.Reading.{HasSigns, RpmRelation, Reads, signs_of}
use Rattle.relation_ranges.specs.Rpm.Back.{range_text}
use Rattle.relation_ranges.specs.Laws.Comparison.{compared_table}
use Rattle.relation_ranges.specs.Laws.Written as written
use Rattle.relation_ranges.specs.Laws.Written.{IsWord, IsWritable, is_word_byte, some_text}

-- ---- the bytes of a version's text

abbrev IsWordByte : ℕ → Type 0
IsWordByte b = is_word_byte b ≡ true

digit_word : (b : ℕ) → is_ascii_digit b ≡ true → is_word_byte b ≡ true
digit_word b is = grind (arith, nat_tests)

part_word : (b : ℕ) → is_part_byte b ≡ true → is_word_byte b ≡ true
part_word b is = grind (arith, nat_tests)

part_words : (part : List ℕ) → is_part part ≡ true → AllByRecursion IsWordByte part
part_words part is = each_by_test IsWordByte is_part_byte part part_word (part_bytes part is)

text_words : (v : Fields) → IsVersion v → AllByRecursion IsWordByte (normal v)
text_words v is =
    let p = is.parts in
    let all = whole_each IsWordByte digit_word refl p is.form.epoch (part_words p.main is.form.main) (last_each IsWordByte is_part part_words refl p.last is.form.last) in
    subst (AllByRecursion IsWordByte) (sym is.joined) all

text_word : (v : Fields) → IsVersion v → IsWord (normal v)
text_word v is = record {
  bytes = test_by_each IsWordByte is_word_byte (normal v) (λ b h. h) (text_words v is);
  some = some_text (normal v) (rpm_texts.normal_spells v is).not_empty;
}

rpm_table : IsWritable is_sign signs_of HasSigns Spells normal IsVersion
rpm_table = compared_table Single Spells normal IsVersion text_word (λ v is. is)

-- one relation, of a version
abbrev pub TermIs : List RpmRelation → Type 0
TermIs = written.IsTerm IsVersion false

-- What is written of terms of one relation each is read as these terms.
pub written_read : (terms : List (List RpmRelation)) → AllByRecursion TermIs terms → Reads (range_text terms) terms
written_read terms all = written.written_read is_sign signs_of HasSigns Spells normal IsVersion rpm_table false terms all

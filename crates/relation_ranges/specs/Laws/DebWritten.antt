-- Debian's relations are words: what is written of terms is read as these terms.
use Rattle.std.proofs.Common.{◌≡◌, ℕ, true, List, [], ◌∷◌, refl, arith}
use Rattle.std.specs.List.{list_all, AllByRecursion}
use Rattle.std.proofs.lemmas.Bool.{and_parts, and_from}
use Rattle.std.proofs.lemmas.Bool.Decides.{nat_tests}
use Rattle.deb_scheme.specs.Version.{Fields}
use Rattle.deb_scheme.specs.Spelling.{IsVersion, Spells}
use Rattle.deb_scheme.specs.Writing.{normal}
use Rattle.deb_scheme.specs.Laws.Texts.{deb_texts}
use Rattle.deb_scheme.proofs.Bytes.{is_version_byte, spelled_bytes}
use Rattle.relation_ranges.specs.declared.comparison.Strict.TheVariants.{Doubled}
use Rattle.relation_ranges.specs.Deb.Operators.{HasSigns, signs_of}
use Rattle.relation_ranges.specs.Comparison.{is_sign}
use Rattle.relation_ranges.specs.Deb.Reading.{DebRelation, Reads}
use Rattle.relation_ranges.specs.Deb.Back.{range_text}
use Rattle.relation_ranges.specs.Laws.Comparison.{compared_table}
use Rattle.relation_ranges.specs.Laws.Written as written
use Rattle.relation_ranges.specs.Laws.Written.{IsWord, IsWritable, is_word_byte, some_text}

byte_word : (b : ℕ) → is_version_byte b ≡ true → is_word_byte b ≡ true
byte_word b is = grind (arith, nat_tests)

all_words : (text : List ℕ) → list_all is_version_byte text ≡ true → list_all is_word_byte text ≡ true
all_words [] all = refl
all_words (b ∷ text) all =
    let a = and_parts (is_version_byte b) (list_all is_version_byte text) all in
    and_from (is_word_byte b) (list_all is_word_byte text) (byte_word b a.0) (all_words text a.1)

text_word : (v : Fields) → IsVersion v → IsWord (normal v)
text_word v is = record { bytes = all_words v.text (spelled_bytes v.text v is); some = some_text v.text (deb_texts.normal_spells v is).not_empty }

deb_table : IsWritable is_sign signs_of HasSigns Spells normal IsVersion
deb_table = compared_table Doubled Spells normal IsVersion text_word (λ v is. is)

-- one relation or two, of versions
abbrev pub TermIs : List DebRelation → Type 0
TermIs = written.IsTerm IsVersion true

-- What is written of terms of one or two relations is read as these terms.
pub written_read : (terms : List (List DebRelation)) → AllByRecursion TermIs terms → Reads (range_text terms) terms
written_read terms all = written.written_read is_sign signs_of HasSigns Spells normal IsVersion deb_table true terms all

-- RubyGems' requirements are words: what is written of terms is read as these terms.
use Rattle.std.proofs.Common.{◌≡◌, ℕ, true, false, List, [], ◌∷◌, refl, map, inl, arith, nat_lt, length}
use Rattle.std.specs.List.{list_all, AllByRecursion}
use Rattle.std.specs.Char.{is_ascii_alphabetic, is_ascii_digit}
use Rattle.std.proofs.lemmas.Bool.{and_parts}
use Rattle.std.proofs.lemmas.Bool.Decides.{nat_tests}
use Rattle.vx_spec.specs.Numerals.{numeral_text}
use Rattle.vx_spec.proofs.NumeralLaws.{numeral_text_is}
use Rattle.vx_spec.proofs.TextLaws.{each_by_test, each_joined, test_by_each}
use Rattle.vx_scheme.specs.declared.ident.Ident.{Ident}
use Rattle.vx_scheme.specs.declared.ident.Ident.TheVariants.{Number, Word}
use Rattle.gem_scheme.specs.Version.{Fields, IsVersion, is_segment}
use Rattle.vx_spec.specs.Signs.{dot}
use Rattle.gem_scheme.specs.Spelling.{Spells}
use Rattle.gem_scheme.specs.Writing.{normal, segment_text}
use Rattle.gem_scheme.specs.Laws.Texts.{gem_texts, normal_is}
use Rattle.relation_ranges.specs.declared.comparison.Comparison.TheVariants.{Less, LessOrEqual, Equal, GreaterOrEqual, Greater}
use Rattle.relation_ranges.specs.declared.comparison.Strict.TheVariants.{Single}
use Rattle.relation_ranges.specs.declared.gem.operators.Operator.{Operator}
use Rattle.relation_ranges.specs.declared.gem.operators.Operator.TheVariants.{Compares, NotEqual, Twiddle}
use Rattle.relation_ranges.specs.Gem.Operators.{HasSigns, is_sign, signs_of}
use Rattle.relation_ranges.specs.Gem.Reading.{GemRelation, Reads}
use Rattle.relation_ranges.specs.Gem.Back.{range_text}
use Rattle.relation_ranges.specs.Laws.Comparison as comparison
use Rattle.relation_ranges.specs.Laws.Written as written
use Rattle.relation_ranges.specs.Laws.Written.{IsWord, IsWritable, is_word_byte, some_text}

-- ---- the bytes of a normal text

abbrev IsWordByte : ℕ → Type 0
IsWordByte b = is_word_byte b ≡ true

digit_word : (b : ℕ) → is_ascii_digit b ≡ true → is_word_byte b ≡ true
digit_word b is = grind (arith, nat_tests)

letter_word : (b : ℕ) → is_ascii_alphabetic b ≡ true → is_word_byte b ≡ true
letter_word b is = grind (arith, nat_tests)

segment_word : (segment : Ident) → is_segment segment ≡ true → AllByRecursion IsWordByte (segment_text segment)
segment_word (Number n) is = each_by_test IsWordByte is_ascii_digit (numeral_text n) digit_word (and_parts (nat_lt 0 (length (numeral_text n))) (list_all is_ascii_digit (numeral_text n)) (numeral_text_is n)).1
segment_word (Word w) is = each_by_test IsWordByte is_ascii_alphabetic w letter_word (and_parts (nat_lt 0 (length w)) (list_all is_ascii_alphabetic w) is).1

segments_words : (segments : List Ident) → list_all is_segment segments ≡ true → AllByRecursion (AllByRecursion IsWordByte) (map segment_text segments)
segments_words [] all = tt
segments_words (segment ∷ segments) all =
    let a = and_parts (is_segment segment) (list_all is_segment segments) all in
    (segment_word segment a.0, segments_words segments a.1)

text_word : (v : Fields) → IsVersion v → IsWord (normal v)
text_word v is = record {
  bytes = test_by_each IsWordByte is_word_byte (normal v) (λ b h. h) (each_joined IsWordByte dot refl (map segment_text v.segments) (segments_words v.segments is.segments));
  some = some_text (normal v) (gem_texts.normal_spells v is).not_empty;
}

-- ---- the signs

signs_all : (o : Operator) → list_all is_sign (signs_of o) ≡ true
signs_all (Compares Less) = refl
signs_all (Compares LessOrEqual) = refl
signs_all (Compares Equal) = refl
signs_all (Compares GreaterOrEqual) = refl
signs_all (Compares Greater) = refl
signs_all NotEqual = refl
signs_all Twiddle = refl

signs_word : (o : Operator) → IsWord (signs_of o)
signs_word (Compares how) = comparison.signs_word Single how
signs_word NotEqual = record { bytes = refl; some = refl }
signs_word Twiddle = record { bytes = refl; some = refl }

gem_table : IsWritable is_sign signs_of HasSigns Spells normal IsVersion
gem_table = record {
  no_blank = refl;
  signs_all = signs_all;
  signs_word = signs_word;
  signs_are = λ operator. inl refl;
  text_word = text_word;
  spelled = normal_is;
}

-- one requirement, of a version
abbrev pub TermIs : List GemRelation → Type 0
TermIs = written.IsTerm IsVersion false

-- What is written of terms of one requirement each is read as these terms.
pub written_read : (terms : List (List GemRelation)) → AllByRecursion TermIs terms → Reads (range_text terms) terms
written_read terms all = written.written_read is_sign signs_of HasSigns Spells normal IsVersion gem_table false terms all

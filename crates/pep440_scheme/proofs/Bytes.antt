-- The bytes of a version's text are ASCII.
use Rattle.std.proofs.Common.{◌≡◌, ◌++◌, ◌&&◌, ◌==◌, ◌<◌, nat_lt, ℕ, Bool, true, List, [], ◌∷◌, length, Option, Some, None, refl, sym, subst, inl, inr, arith}
use Rattle.std.specs.Char.{is_ascii_alphanumeric, is_ascii_digit, is_ascii_lowercase, to_ascii_lowercase}
use Rattle.std.specs.List.{AllByRecursion, flat_map, join_with_byte, list_all}
use Rattle.std.specs.Str.{IsUtf8, bytes_eq}
use Rattle.std.proofs.lemmas.Bool.{and_parts, cases_Bool, eqb-true}
use Rattle.std.proofs.lemmas.Bool.Decides.{nat_tests}
use Rattle.std.proofs.lemmas.Slice.Eq.{bytes_eq-Decides}
use Rattle.vx_spec.specs.Marks.{in_front}
use Rattle.vx_spec.specs.Numerals.{is_numeral}
use Rattle.vx_spec.specs.Runs.{is_blank}
use Rattle.vx_spec.proofs.TextLaws.{each_append, each_by_test, each_joined, each_part, utf8_by_each}
use Rattle.vx_text.specs.Folding.{lowered}
use Rattle.pep440_scheme.specs.declared.words.Mark.{Mark}
use Rattle.pep440_scheme.specs.Version.{Fields}
use Rattle.vx_spec.specs.Signs.{bang, dot, plus}
use Rattle.vx_text.specs.EpochParts.{is_epoch}
use Rattle.pep440_scheme.specs.Spelling.{AreVersionParts, LocalPart, Parts, Spells, Suffix, are_locals, core, is_dev, is_gap, is_implicit, is_later_local, is_local_text, is_post, is_pre, is_separator, is_v, local_text, option_text, suffix_text, suffixes, whole}
use Rattle.pep440_scheme.specs.Laws.Suffixes.{IsSuffix}
use Rattle.pep440_scheme.specs.Laws.Behind.{dash_form, dev_form, post_form, pre_form}
use Rattle.pep440_scheme.specs.Laws.Solid.{word_letters}
use Rattle.pep440_scheme.specs.Steps.Apart.{small_v}

-- an ASCII byte
abbrev pub IsAsciiByte : ℕ → Type 0
IsAsciiByte b = b < 128

abbrev AreAscii : List ℕ → Type 0
AreAscii = AllByRecursion IsAsciiByte

by_test : (test : ℕ → Bool) (text : List ℕ) → ((b : ℕ) → test b ≡ true → b < 128) → list_all test text ≡ true → AreAscii text
by_test test text byte all = each_by_test IsAsciiByte test text byte all

blank_byte : (b : ℕ) → is_blank b ≡ true → b < 128
blank_byte b is = grind (arith, nat_tests)

digit_byte : (b : ℕ) → is_ascii_digit b ≡ true → b < 128
digit_byte b is = grind (arith, nat_tests)

letter_byte : (b : ℕ) → is_ascii_lowercase (to_ascii_lowercase b) ≡ true → b < 128
letter_byte b is = grind (arith, nat_tests)

gap_byte : (b : ℕ) → is_separator b ≡ true → b < 128
gap_byte b is = grind (arith, nat_tests)

alphanumeric_byte : (b : ℕ) → is_ascii_alphanumeric b ≡ true → b < 128
alphanumeric_byte b is = grind (arith, nat_tests)

numeral_bytes : (digits : List ℕ) → is_numeral digits ≡ true → AreAscii digits
numeral_bytes digits is =
    by_test is_ascii_digit digits digit_byte (and_parts (nat_lt 0 (length digits)) (list_all is_ascii_digit digits) is).1

gap_bytes : (gap : List ℕ) → is_gap gap ≡ true → AreAscii gap
gap_bytes [] is = tt
gap_bytes (b ∷ []) is = (gap_byte b is, tt)
gap_bytes (b ∷ c ∷ gap) is = absurd (cc is)

letter_bytes : (x : List ℕ) → list_all is_ascii_lowercase (lowered x) ≡ true → AreAscii x
letter_bytes [] all = tt
letter_bytes (b ∷ x) all = let a = and_parts (is_ascii_lowercase (to_ascii_lowercase b)) (list_all is_ascii_lowercase (lowered x)) all in (letter_byte b a.0, letter_bytes x a.1)

suffix_bytes : (mark : Mark) (s : Suffix) → IsSuffix mark s → AreAscii (suffix_text s)
suffix_bytes mark s is =
    each_append IsAsciiByte s.lead (s.word ++ (s.gap ++ s.digits)) (gap_bytes s.lead is.lead)
    (each_append IsAsciiByte s.word (s.gap ++ s.digits) (letter_bytes s.word (word_letters mark s is)) (each_append IsAsciiByte s.gap s.digits (gap_bytes s.gap is.gap) (by_test is_ascii_digit s.digits digit_byte is.digits)))

pre_bytes : (pre : Option Suffix) → is_pre pre ≡ true → AreAscii (option_text pre)
pre_bytes None is = tt
pre_bytes (Some s) is = let form = pre_form s is in suffix_bytes _ s form.1

post_bytes : (post : Option Suffix) → is_post post ≡ true → AreAscii (option_text post)
post_bytes None is = tt
post_bytes (Some s) is = elim (cases_Bool (is_implicit s)) [
  | inl dash ↦ let form = dash_form s dash in rw form.text_is (omega arith, numeral_bytes s.digits form.digits)
  | inr other ↦ suffix_bytes _ s (post_form s (rw other at is))
]

dev_bytes : (dev : Option Suffix) → is_dev dev ≡ true → AreAscii (option_text dev)
dev_bytes None is = tt
dev_bytes (Some s) is = suffix_bytes _ s (dev_form s is)

part_bytes : (text : List ℕ) → is_local_text text ≡ true → AreAscii text
part_bytes text is =
    by_test is_ascii_alphanumeric text alphanumeric_byte (and_parts (nat_lt 0 (length text)) (list_all is_ascii_alphanumeric text) is).1

later_bytes : (parts : List LocalPart) → list_all is_later_local parts ≡ true → AreAscii (flat_map local_text parts)
later_bytes [] all = tt
later_bytes (part ∷ parts) all =
    let a = and_parts (is_later_local part) (list_all is_later_local parts) all in
    let b = and_parts (is_separator part.sign) (is_local_text part.text) a.0 in
    (gap_byte part.sign b.0, each_append IsAsciiByte part.text (flat_map local_text parts) (part_bytes part.text b.1) (later_bytes parts a.1))

local_bytes : (parts : List LocalPart) → are_locals parts ≡ true → AreAscii (flat_map local_text parts)
local_bytes [] all = tt
local_bytes (part ∷ parts) all =
    let a = and_parts (part.sign == plus && is_local_text part.text) (list_all is_later_local parts) all in
    let b = and_parts (part.sign == plus) (is_local_text part.text) a.0 in
    let sign : part.sign < 128 = rw (eqb-true part.sign plus b.0) (omega arith) in
    (sign, each_append IsAsciiByte part.text (flat_map local_text parts) (part_bytes part.text b.1) (later_bytes parts a.1))

front_bytes : (epoch : Option (List ℕ)) (rest : List ℕ) → is_epoch epoch ≡ true → AreAscii rest → AreAscii (in_front bang epoch rest)
front_bytes None rest is all = all
front_bytes (Some part) rest is all = each_append IsAsciiByte part (bang ∷ rest) (numeral_bytes part is) (omega arith, all)

v_letter : (v : List ℕ) → lowered v ≡ small_v ∷ [] → AreAscii v
v_letter [] e = tt
v_letter (b ∷ []) e = let is : to_ascii_lowercase b ≡ small_v = cc e in (letter_byte b (rw is refl), tt)
v_letter (b ∷ c ∷ v) e = absurd (cc e)

v_bytes : (v : List ℕ) → is_v v ≡ true → AreAscii v
v_bytes v is = elim (cases_Bool (bytes_eq v [])) [
  | inl none ↦ rw ((bytes_eq-Decides v []).0 none) tt
  | inr other ↦ let one : bytes_eq (lowered v) (small_v ∷ []) ≡ true = rw other at is in v_letter v ((bytes_eq-Decides (lowered v) (small_v ∷ [])).0 one)
]

core_bytes : (p : Parts) → AreVersionParts p → AreAscii (core p)
core_bytes p form =
    let locals = local_bytes p.locals form.locals in
    let dev = each_append IsAsciiByte (option_text p.dev) _ (dev_bytes p.dev form.dev) locals in
    let post = each_append IsAsciiByte (option_text p.post) _ (post_bytes p.post form.post) dev in
    let pre = each_append IsAsciiByte (option_text p.pre) _ (pre_bytes p.pre form.pre) post in
    let dot_byte : dot < 128 = omega arith in
    let release = each_joined IsAsciiByte dot dot_byte p.release (each_part IsAsciiByte is_numeral p.release numeral_bytes form.numerals) in
    front_bytes p.epoch _ form.epoch (each_append IsAsciiByte (join_with_byte dot p.release) (suffixes p) release pre)

whole_bytes : (p : Parts) → AreVersionParts p → AreAscii (whole p)
whole_bytes p form =
    let inner = each_append IsAsciiByte p.v (core p) (v_bytes p.v form.v) (core_bytes p form) in
    let behind = each_append IsAsciiByte (p.v ++ core p) p.behind inner (by_test is_blank p.behind blank_byte form.behind) in
    each_append IsAsciiByte p.before ((p.v ++ core p) ++ p.behind) (by_test is_blank p.before blank_byte form.before) behind

-- each byte of a version's text is ASCII
pub spelled_ascii : (text : List ℕ) (v : Fields) → Spells text v → AllByRecursion IsAsciiByte text
spelled_ascii text v s = subst AreAscii (sym s.joined) (whole_bytes s.parts s.form)

-- so it is UTF-8
pub spelled_utf8 : (text : List ℕ) (v : Fields) → Spells text v → IsUtf8 text
spelled_utf8 text v s = utf8_by_each text (spelled_ascii text v s)

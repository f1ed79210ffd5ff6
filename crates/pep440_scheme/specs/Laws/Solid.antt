-- No byte of a version's text between its blanks is a blank, and none before its label is a '+'.
use Rattle.std.proofs.Common.{◌≡◌, ◌++◌, ◌&&◌, ◌==◌, nat_lt, ℕ, true, false, List, [], ◌∷◌, length, Option, Some, None, refl, sym, ap, ◌∙◌, append_assoc, inl, inr, arith}
use Rattle.std.specs.Char.{is_ascii_alphanumeric, is_ascii_digit, is_ascii_lowercase, to_ascii_lowercase}
use Rattle.std.specs.List.{AllByRecursion, flat_map, join_with_byte, list_all}
use Rattle.std.specs.Str.{bytes_eq}
use Rattle.std.proofs.lemmas.Bool.{and_parts, cases_Bool, eqb-true}
use Rattle.std.proofs.lemmas.Bool.Decides.{nat_tests}
use Rattle.std.proofs.lemmas.Slice.Eq.{bytes_eq-Decides}
use Rattle.vx_spec.specs.Marks.{in_front}
use Rattle.vx_spec.specs.Numerals.{is_numeral}
use Rattle.vx_spec.specs.Runs.{begins, is_blank}
use Rattle.vx_spec.proofs.TextLaws.{each_append, each_by_test, each_joined, each_part}
use Rattle.vx_text.specs.Folding.{lowered}
use Rattle.pep440_scheme.specs.declared.words.Mark.{Mark}
use Rattle.vx_spec.specs.Signs.{bang, dot, plus}
use Rattle.vx_text.specs.EpochParts.{is_epoch}
use Rattle.pep440_scheme.specs.Spelling.{AreVersionParts, LocalPart, Parts, Suffix, are_locals, core, is_dev, is_gap, is_implicit, is_later_local, is_local_text, is_post, is_pre, is_separator, is_v, local_text, option_text, suffix_text}
use Rattle.pep440_scheme.specs.Words.{MarkWord, mark_words}
use Rattle.pep440_scheme.specs.Laws.Ends.{ends}
use Rattle.pep440_scheme.specs.Laws.FirstWords.{mark_in_has}
use Rattle.pep440_scheme.specs.Laws.Suffixes.{IsSuffix}
use Rattle.pep440_scheme.specs.Laws.Behind.{dash_form, dev_form, post_form, pre_form}
use Rattle.pep440_scheme.specs.Steps.Apart.{small_v}

abbrev pub IsSolid : ℕ → Type 0
IsSolid b = is_blank b ≡ false

abbrev pub AreSolid : List ℕ → Type 0
AreSolid = AllByRecursion IsSolid

pub solid_begins : (text : List ℕ) → AreSolid text → begins is_blank text ≡ false
solid_begins [] all = refl
solid_begins (b ∷ text) all = all.0

pub solid_ends : (text : List ℕ) → AreSolid text → ends is_blank text ≡ false
solid_ends [] all = refl
solid_ends (b ∷ []) all = all.0
solid_ends (b ∷ c ∷ text) all = solid_ends (c ∷ text) all.1

-- a byte of what stands before a label
abbrev pub IsInner : ℕ → Type 0
IsInner b = (is_blank b ≡ false) × ((b == plus) ≡ false)

abbrev pub AreInner : List ℕ → Type 0
AreInner = AllByRecursion IsInner

inner_solid : (text : List ℕ) → AreInner text → AreSolid text
inner_solid [] all = tt
inner_solid (b ∷ text) all = (all.0.0, inner_solid text all.1)

digit_inner : (b : ℕ) → is_ascii_digit b ≡ true → IsInner b
digit_inner b is = (grind (arith, nat_tests), grind (arith, nat_tests))

letter_inner : (b : ℕ) → is_ascii_lowercase (to_ascii_lowercase b) ≡ true → IsInner b
letter_inner b is = (grind (arith, nat_tests), grind (arith, nat_tests))

gap_inner : (b : ℕ) → is_separator b ≡ true → IsInner b
gap_inner b is = (grind (arith, nat_tests), grind (arith, nat_tests))

alphanumeric_solid : (b : ℕ) → is_ascii_alphanumeric b ≡ true → IsSolid b
alphanumeric_solid b is = grind (arith, nat_tests)

digits_inner : (digits : List ℕ) → list_all is_ascii_digit digits ≡ true → AreInner digits
digits_inner digits all = each_by_test IsInner is_ascii_digit digits digit_inner all

numeral_inner : (digits : List ℕ) → is_numeral digits ≡ true → AreInner digits
numeral_inner digits is = digits_inner digits (and_parts (nat_lt 0 (length digits)) (list_all is_ascii_digit digits) is).1

gaps_inner : (gap : List ℕ) → is_gap gap ≡ true → AreInner gap
gaps_inner [] is = tt
gaps_inner (b ∷ []) is = (gap_inner b is, tt)
gaps_inner (b ∷ c ∷ gap) is = absurd (cc is)

letters_inner : (x : List ℕ) → list_all is_ascii_lowercase (lowered x) ≡ true → AreInner x
letters_inner [] all = tt
letters_inner (b ∷ x) all = let a = and_parts (is_ascii_lowercase (to_ascii_lowercase b)) (list_all is_ascii_lowercase (lowered x)) all in (letter_inner b a.0, letters_inner x a.1)

-- the letters of a suffix's word
pub word_letters : (mark : Mark) (s : Suffix) → IsSuffix mark s → list_all is_ascii_lowercase (lowered s.word) ≡ true
word_letters mark s is = mark_in_has (λ (entry : MarkWord). list_all is_ascii_lowercase entry.word) mark_words (lowered s.word) mark refl is.word

suffix_inner : (mark : Mark) (s : Suffix) → IsSuffix mark s → AreInner (suffix_text s)
suffix_inner mark s is =
    each_append IsInner s.lead (s.word ++ (s.gap ++ s.digits)) (gaps_inner s.lead is.lead)
    (each_append IsInner s.word (s.gap ++ s.digits) (letters_inner s.word (word_letters mark s is)) (each_append IsInner s.gap s.digits (gaps_inner s.gap is.gap) (digits_inner s.digits is.digits)))

pre_inner : (pre : Option Suffix) → is_pre pre ≡ true → AreInner (option_text pre)
pre_inner None is = tt
pre_inner (Some s) is = let form = pre_form s is in suffix_inner _ s form.1

post_inner : (post : Option Suffix) → is_post post ≡ true → AreInner (option_text post)
post_inner None is = tt
post_inner (Some s) is = elim (cases_Bool (is_implicit s)) [
  | inl dash ↦ let form = dash_form s dash in rw form.text_is ((refl, refl), numeral_inner s.digits form.digits)
  | inr other ↦ suffix_inner _ s (post_form s (rw other at is))
]

dev_inner : (dev : Option Suffix) → is_dev dev ≡ true → AreInner (option_text dev)
dev_inner None is = tt
dev_inner (Some s) is = suffix_inner _ s (dev_form s is)

part_solid : (text : List ℕ) → is_local_text text ≡ true → AreSolid text
part_solid text is = each_by_test IsSolid is_ascii_alphanumeric text alphanumeric_solid (and_parts (nat_lt 0 (length text)) (list_all is_ascii_alphanumeric text) is).1

later_solid : (parts : List LocalPart) → list_all is_later_local parts ≡ true → AreSolid (flat_map local_text parts)
later_solid [] all = tt
later_solid (part ∷ parts) all =
    let a = and_parts (is_later_local part) (list_all is_later_local parts) all in
    let b = and_parts (is_separator part.sign) (is_local_text part.text) a.0 in
    ((gap_inner part.sign b.0).0, each_append IsSolid part.text (flat_map local_text parts) (part_solid part.text b.1) (later_solid parts a.1))

pub locals_solid : (parts : List LocalPart) → are_locals parts ≡ true → AreSolid (flat_map local_text parts)
locals_solid [] all = tt
locals_solid (part ∷ parts) all =
    let a = and_parts (part.sign == plus && is_local_text part.text) (list_all is_later_local parts) all in
    let b = and_parts (part.sign == plus) (is_local_text part.text) a.0 in
    (rw (eqb-true part.sign plus b.0) refl, each_append IsSolid part.text (flat_map local_text parts) (part_solid part.text b.1) (later_solid parts a.1))

release_inner : (parts : List (List ℕ)) → list_all is_numeral parts ≡ true → AreInner (join_with_byte dot parts)
release_inner parts all = each_joined IsInner dot (refl, refl) parts (each_part IsInner is_numeral parts numeral_inner all)

front_inner : (epoch : Option (List ℕ)) (rest : List ℕ) → is_epoch epoch ≡ true → AreInner rest → AreInner (in_front bang epoch rest)
front_inner None rest is all = all
front_inner (Some part) rest is all = each_append IsInner part (bang ∷ rest) (numeral_inner part is) ((refl, refl), all)

-- the text without the blanks, the 'v' and the label
abbrev pub public_core : Parts → List ℕ
public_core p = in_front bang p.epoch (join_with_byte dot p.release ++ (option_text p.pre ++ (option_text p.post ++ option_text p.dev)))

pub public_inner : (p : Parts) → AreVersionParts p → AreInner (public_core p)
public_inner p form =
    let post = each_append IsInner (option_text p.post) (option_text p.dev) (post_inner p.post form.post) (dev_inner p.dev form.dev) in
    let pre = each_append IsInner (option_text p.pre) (option_text p.post ++ option_text p.dev) (pre_inner p.pre form.pre) post in
    front_inner p.epoch _ form.epoch (each_append IsInner (join_with_byte dot p.release) _ (release_inner p.release form.numerals) pre)

front_append : (epoch : Option (List ℕ)) (rest label : List ℕ) → in_front bang epoch rest ++ label ≡ in_front bang epoch (rest ++ label)
front_append None rest label = refl
front_append (Some part) rest label = append_assoc part (bang ∷ rest) label

-- the label stands behind
pub core_parts : (p : Parts) → core p ≡ public_core p ++ flat_map local_text p.locals
core_parts p =
    let locals = flat_map local_text p.locals in
    let release = join_with_byte dot p.release in
    sym (front_append p.epoch (release ++ (option_text p.pre ++ (option_text p.post ++ option_text p.dev))) locals
    ∙ ap (in_front bang p.epoch) (append_assoc release (option_text p.pre ++ (option_text p.post ++ option_text p.dev)) locals
    ∙ ap (λ (t : List ℕ). release ++ t) (append_assoc (option_text p.pre) (option_text p.post ++ option_text p.dev) locals
    ∙ ap (λ (t : List ℕ). option_text p.pre ++ t) (append_assoc (option_text p.post) (option_text p.dev) locals))))

pub core_solid : (p : Parts) → AreVersionParts p → AreSolid (core p)
core_solid p form = rw (core_parts p) (each_append IsSolid (public_core p) (flat_map local_text p.locals) (inner_solid (public_core p) (public_inner p form)) (locals_solid p.locals form.locals))

one_v_inner : (v : List ℕ) → lowered v ≡ small_v ∷ [] → AreInner v
one_v_inner [] e = tt
one_v_inner (b ∷ []) e = let is : to_ascii_lowercase b ≡ small_v = cc e in (letter_inner b (rw is refl), tt)
one_v_inner (b ∷ c ∷ v) e = absurd (cc e)

pub v_inner : (v : List ℕ) → is_v v ≡ true → AreInner v
v_inner v is = elim (cases_Bool (bytes_eq v [])) [
  | inl none ↦ rw ((bytes_eq-Decides v []).0 none) tt
  | inr other ↦ let one : bytes_eq (lowered v) (small_v ∷ []) ≡ true = rw other at is in one_v_inner v ((bytes_eq-Decides (lowered v) (small_v ∷ [])).0 one)
]

pub v_solid : (v : List ℕ) → is_v v ≡ true → AreSolid v
v_solid v is = inner_solid v (v_inner v is)

-- What is written of constructs is read as these constructs.
use Rattle.std.proofs.Common.{◌≡◌, ◌≢◌, ◌+◌, ◌==◌, ◌&&◌, nat_lt, ℕ, true, false, List, [], ◌∷◌, ◌++◌, length, codes, map, refl, sym, ap, ◌∙◌, subst, inl, inr, Option, Some, None, arith, append-nil, append_assoc}
use Rattle.std.specs.Char.{is_ascii_digit}
use Rattle.std.specs.List.{AllByRecursion, list_all}
use Rattle.std.specs.Str.{bytes_eq}
use Rattle.std.proofs.Math.Bool.{and-false}
use Rattle.std.proofs.lemmas.Bool.{and_parts, cases_Bool}
use Rattle.std.proofs.lemmas.Bool.Decides.{nat_tests}
use Rattle.vx_spec.specs.Each.{AreEach}
use Rattle.vx_spec.specs.Marks.{Lacks}
use Rattle.vx_spec.specs.Numerals.{numeral_text}
use Rattle.vx_spec.specs.Runs.{begins, is_blank, past, trimmed, without_end}
use Rattle.vx_spec.proofs.NumeralLaws.{numeral_text_is}
use Rattle.vx_spec.proofs.RunLaws.{past_stays}
use Rattle.vx_spec.proofs.TextLaws.{each_append, each_by_test, each_joined}
use Rattle.vx_text.proofs.Joins.{split_join}
use Rattle.vx_scheme.specs.declared.ident.Ident.{Ident}
use Rattle.vx_scheme.specs.declared.ident.Ident.TheVariants.{Number, Word}
use Rattle.vx_range.specs.Lists.{Plain, group_of, groups_of, is_some, not_empty, pieces_of}
use Rattle.vx_range.specs.Reading as ranges
use Rattle.pep440_scheme.specs.declared.version.PreKind.{PreKind}
use Rattle.pep440_scheme.specs.declared.version.PreKind.TheVariants.{A, B, Rc}
use Rattle.pep440_scheme.specs.declared.version.PrePart.{PrePart}
use Rattle.pep440_scheme.specs.Version.{Fields, IsPublic, IsRelease, IsVersion, is_local, is_word_byte}
use Rattle.vx_spec.specs.Signs.{bang, dot}
use Rattle.pep440_scheme.specs.Writing.{ends_text, epoch_text, ident_text, kind_text, locals_text, normal, pre_text, release_text, suffixes_text, word_text}
use Rattle.pep440_scheme.specs.Laws.Behind.{numeral_begins}
use Rattle.pep440_scheme.specs.Laws.Ends.{without_end_append}
use Rattle.pep440_scheme.specs.Laws.Solid.{AreSolid, solid_ends}
use Rattle.pep440_scheme.specs.Laws.Texts.{normal_is}
use Rattle.pep440_range.specs.declared.construct.Comparison.{Comparison}
use Rattle.pep440_range.specs.declared.construct.Comparison.TheVariants.{Compatible, LessOrEqual, GreaterOrEqual, Less, Greater}
use Rattle.pep440_range.specs.declared.construct.Construct.{Construct}
use Rattle.pep440_range.specs.declared.construct.Construct.TheVariants.{Compares, Equal, NotEqual, Within, NotWithin, Identical}
use Rattle.pep440_range.specs.declared.construct.Operator.{Operator}
use Rattle.pep440_range.specs.declared.construct.Operator.TheVariants as operator_of
use Rattle.pep440_range.specs.Reading.{IsCut, ReadsAs, ReadsBy, Takes, TakesEither, before_star, has_numbers, operator_at}
use Rattle.pep440_range.specs.Back.{construct_text, comparison_signs, range_text}

-- ---- the bytes of a normal text

-- neither a blank nor a comma nor '*'
abbrev IsPlainByte : ℕ → Type 0
IsPlainByte b = (is_blank b ≡ false) × ((b == 44) ≡ false) × ((b == 42) ≡ false)

abbrev ArePlain : List ℕ → Type 0
ArePlain = AllByRecursion IsPlainByte

digit_plain : (b : ℕ) → is_ascii_digit b ≡ true → IsPlainByte b
digit_plain b is = (grind (arith, nat_tests), grind (arith, nat_tests), grind (arith, nat_tests))

word_plain : (b : ℕ) → is_word_byte b ≡ true → IsPlainByte b
word_plain b is = (grind (arith, nat_tests), grind (arith, nat_tests), grind (arith, nat_tests))

numeral_plain : (n : ℕ) → ArePlain (numeral_text n)
numeral_plain n = each_by_test IsPlainByte is_ascii_digit (numeral_text n) digit_plain
    (and_parts (nat_lt 0 (length (numeral_text n))) (list_all is_ascii_digit (numeral_text n)) (numeral_text_is n)).1

epoch_plain : (epoch : ℕ) → ArePlain (epoch_text epoch)
epoch_plain epoch = elim (cases_Bool (epoch == 0)) [
  | inl none ↦ rw none tt
  | inr some ↦ rw some (each_append IsPlainByte (numeral_text epoch) (bang ∷ []) (numeral_plain epoch) ((refl, refl, refl), tt))
]

numbers_plain : (numbers : List ℕ) → AllByRecursion ArePlain (map numeral_text numbers)
numbers_plain [] = tt
numbers_plain (n ∷ numbers) = (numeral_plain n, numbers_plain numbers)

kind_plain : (kind : PreKind) → ArePlain (kind_text kind)
kind_plain A = ((refl, refl, refl), tt)
kind_plain B = ((refl, refl, refl), tt)
kind_plain Rc = ((refl, refl, refl), ((refl, refl, refl), tt))

pre_plain : (pre : Option PrePart) → ArePlain (pre_text pre)
pre_plain None = tt
pre_plain (Some pre) =
    each_append IsPlainByte (kind_text pre.kind) (numeral_text pre.number) (kind_plain pre.kind) (numeral_plain pre.number)

number_plain : (word : List ℕ) (number : Option ℕ) → ArePlain word → ArePlain (word_text word number)
number_plain word None is = tt
number_plain word (Some n) is = each_append IsPlainByte word (numeral_text n) is (numeral_plain n)

ident_plain : (ident : Ident) → is_local ident ≡ true → ArePlain (ident_text ident)
ident_plain (Number n) is = numeral_plain n
ident_plain (Word w) is =
    each_by_test IsPlainByte is_word_byte w word_plain
    (and_parts (nat_lt 0 (length w)) (list_all is_word_byte w) (and_parts (nat_lt 0 (length w) && list_all is_word_byte w) _ is).0).1

idents_plain : (idents : List Ident) → list_all is_local idents ≡ true → AllByRecursion ArePlain (map ident_text idents)
idents_plain [] all = tt
idents_plain (ident ∷ idents) all =
    let a = and_parts (is_local ident) (list_all is_local idents) all in
    (ident_plain ident a.0, idents_plain idents a.1)

locals_plain : (idents : List Ident) → list_all is_local idents ≡ true → ArePlain (locals_text idents)
locals_plain [] all = tt
locals_plain (ident ∷ idents) all = (
  (refl, refl, refl),
  each_joined IsPlainByte dot (refl, refl, refl) (map ident_text (ident ∷ idents)) (idents_plain (ident ∷ idents) all),
)

ends_plain : (v : Fields) → IsVersion v → ArePlain (ends_text v)
ends_plain v is =
    each_append IsPlainByte (word_text (codes ".dev") v.dev) (locals_text v.local)
    (number_plain (codes ".dev") v.dev ((refl, refl, refl), ((refl, refl, refl), ((refl, refl, refl), ((refl, refl, refl), tt)))))
    (locals_plain v.local is.local)

suffixes_plain : (v : Fields) → IsVersion v → ArePlain (suffixes_text v)
suffixes_plain v is =
    each_append IsPlainByte (pre_text v.pre) (word_text (codes ".post") v.post ++ ends_text v) (pre_plain v.pre)
    (each_append IsPlainByte (word_text (codes ".post") v.post) (ends_text v)
    (number_plain (codes ".post") v.post
    ((refl, refl, refl), ((refl, refl, refl), ((refl, refl, refl), ((refl, refl, refl), ((refl, refl, refl), tt)))))) (ends_plain v is))

normal_plain : (v : Fields) → IsVersion v → ArePlain (normal v)
normal_plain v is =
    each_append IsPlainByte (epoch_text v.epoch) (release_text v.release ++ suffixes_text v) (epoch_plain v.epoch)
    (each_append IsPlainByte (release_text v.release) (suffixes_text v)
    (each_joined IsPlainByte dot (refl, refl, refl) (map numeral_text v.release) (numbers_plain v.release)) (suffixes_plain v is))

-- it begins with a digit
abbrev StartsDigit : List ℕ → Type 0
StartsDigit text = begins is_ascii_digit text ≡ true

numeral_starts : (n : ℕ) (rest : List ℕ) → StartsDigit (numeral_text n ++ rest)
numeral_starts n rest = numeral_begins (numeral_text n) rest (numeral_text_is n)

release_starts : (release rest : List ℕ) → nat_lt 0 (length release) ≡ true → StartsDigit (release_text release ++ rest)
release_starts [] rest some = cc some
release_starts (n ∷ []) rest some = numeral_starts n rest
release_starts (n ∷ m ∷ release) rest some = rw (append_assoc (numeral_text n) (dot ∷ release_text (m ∷ release)) rest) (numeral_starts n _)

normal_starts : (v : Fields) → IsVersion v → StartsDigit (normal v)
normal_starts v is = elim (cases_Bool (v.epoch == 0)) [
  | inl none ↦ rw none (release_starts v.release (suffixes_text v) is.release)
  | inr some ↦ rw some (rw (append_assoc (numeral_text v.epoch) (bang ∷ []) (release_text v.release ++ suffixes_text v))
      (numeral_starts v.epoch _))
]

star_starts : (r : Fields) → IsVersion r → StartsDigit (normal r ++ codes ".*")
star_starts r is = more (normal r) (normal_starts r is)
  where
    more : (text : List ℕ) → StartsDigit text → StartsDigit (text ++ codes ".*")
    more [] starts = cc starts
    more (b ∷ text) starts = starts

-- ---- what is said of such texts

plain_solid : (text : List ℕ) → ArePlain text → AreSolid text
plain_solid [] all = tt
plain_solid (b ∷ text) all = (all.0.0, plain_solid text all.1)

not_byte : (b c : ℕ) → (b == c) ≡ false → b ≢ c
not_byte b c is e = grind (arith, nat_tests)

past_solid : (text : List ℕ) → AreSolid text → past is_blank text ≡ text
past_solid [] all = refl
past_solid (b ∷ text) all = past_stays is_blank b text all.0

end_solid : (text : List ℕ) → AreSolid text → without_end is_blank text ≡ text
end_solid text all = ap (without_end is_blank) (sym (append-nil text)) ∙ without_end_append is_blank text [] refl (solid_ends text all)

trimmed_solid : (text : List ℕ) → AreSolid text → trimmed text ≡ text
trimmed_solid text all = ap (without_end is_blank) (past_solid text all) ∙ end_solid text all

-- no such text ends with '.*'
other_end : (text : List ℕ) → ArePlain text → bytes_eq text (codes ".*") ≡ false
other_end [] all = refl
other_end (b ∷ []) all = and-false (b == 46)
other_end (b ∷ c ∷ []) all = rw (all.1.0.2) (and-false (b == 46))
other_end (b ∷ c ∷ d ∷ text) all = rw (all.1.0.2) (and-false (b == 46))

no_star : (text : List ℕ) → ArePlain text → before_star text ≡ None
no_star [] all = refl
no_star (b ∷ text) all = rw (other_end (b ∷ text) all, no_star text all.1) refl

longer_end : (b : ℕ) (text : List ℕ) → bytes_eq (b ∷ (text ++ codes ".*")) (codes ".*") ≡ false
longer_end b [] = and-false (b == 46)
longer_end b (c ∷ []) = rw (and-false (c == 42)) (and-false (b == 46))
longer_end b (c ∷ d ∷ text) = rw (and-false (c == 42)) (and-false (b == 46))

star_again : (text : List ℕ) → before_star (text ++ codes ".*") ≡ Some text
star_again [] = refl
star_again (b ∷ text) = rw (longer_end b text, star_again text) refl

-- ---- operators

equal_at : (text : List ℕ) → StartsDigit text
    → operator_at (codes "==" ++ text) ≡ Some (record { operator = operator_of.Equal; rest = text })
equal_at [] is = absurd (cc is)
equal_at (b ∷ text) is = let other : (b == 61) ≡ false = grind (arith, nat_tests) in rw other refl

-- a digit is no sign, so no longer operator stands there
signs_at : (how : Comparison) (text : List ℕ) → StartsDigit text
    → operator_at (comparison_signs how ++ text) ≡ Some (record { operator = operator_of.Compares how; rest = text })
signs_at how [] is = absurd (cc is)
signs_at Compatible (b ∷ text) is = refl
signs_at LessOrEqual (b ∷ text) is = refl
signs_at GreaterOrEqual (b ∷ text) is = refl
signs_at Less (b ∷ text) is = let other : (b == 61) ≡ false = grind (arith, nat_tests) in rw other refl
signs_at Greater (b ∷ text) is = let other : (b == 61) ≡ false = grind (arith, nat_tests) in rw other refl

-- ---- operands

version_again : (of_version of_release : Fields → Construct) (v : Fields) → IsVersion v
    → TakesEither of_version of_release (normal v) (before_star (normal v)) (of_version v)
version_again of_version of_release v is =
    subst (λ star. TakesEither of_version of_release (normal v) star (of_version v)) (sym (no_star (normal v) (normal_plain v is)))
    (v, normal_is v is, refl)

release_again : (of_version of_release : Fields → Construct) (r : Fields) → IsVersion r → IsRelease r
    → TakesEither of_version of_release (normal r ++ codes ".*") (before_star (normal r ++ codes ".*")) (of_release r)
release_again of_version of_release r is alone =
    subst (λ star. TakesEither of_version of_release (normal r ++ codes ".*") star (of_release r)) (sym (star_again (normal r)))
    (r, record { spelled = normal_is r is; alone = alone; tight = end_solid (normal r) (plain_solid (normal r) (normal_plain r is)) }, refl)

-- ---- constructs

-- The construct of versions: of public ones where the operator takes a public version, and of releases before '.*'.
abbrev pub IsWritten : Construct → Type 0
IsWritten (Compares how v) = IsVersion v × IsPublic v × (has_numbers how v ≡ true)
IsWritten (Equal v) = IsVersion v
IsWritten (NotEqual v) = IsVersion v
IsWritten (Within r) = IsVersion r × IsRelease r
IsWritten (NotWithin r) = IsVersion r × IsRelease r
IsWritten (Identical text) = ⊥

-- neither a blank nor a comma
abbrev IsPieceByte : ℕ → Type 0
IsPieceByte b = (is_blank b ≡ false) × ((b == 44) ≡ false)

piece_bytes : (text : List ℕ) → ArePlain text → AllByRecursion IsPieceByte text
piece_bytes [] all = tt
piece_bytes (b ∷ text) all = ((all.0.0, all.0.1), piece_bytes text all.1)

normal_bytes : (v : Fields) → IsVersion v → AllByRecursion IsPieceByte (normal v)
normal_bytes v is = piece_bytes (normal v) (normal_plain v is)

star_bytes : (r : Fields) → IsVersion r → AllByRecursion IsPieceByte (normal r ++ codes ".*")
star_bytes r is = each_append IsPieceByte (normal r) (codes ".*") (normal_bytes r is) ((refl, refl), ((refl, refl), tt))

construct_bytes : (c : Construct) → IsWritten c → AllByRecursion IsPieceByte (construct_text c)
construct_bytes (Compares Compatible v) is = ((refl, refl), ((refl, refl), normal_bytes v is.0))
construct_bytes (Compares LessOrEqual v) is = ((refl, refl), ((refl, refl), normal_bytes v is.0))
construct_bytes (Compares GreaterOrEqual v) is = ((refl, refl), ((refl, refl), normal_bytes v is.0))
construct_bytes (Compares Less v) is = ((refl, refl), normal_bytes v is.0)
construct_bytes (Compares Greater v) is = ((refl, refl), normal_bytes v is.0)
construct_bytes (Equal v) is = ((refl, refl), ((refl, refl), normal_bytes v is))
construct_bytes (NotEqual v) is = ((refl, refl), ((refl, refl), normal_bytes v is))
construct_bytes (Within r) is = ((refl, refl), ((refl, refl), star_bytes r is.0))
construct_bytes (NotWithin r) is = ((refl, refl), ((refl, refl), star_bytes r is.0))
construct_bytes (Identical text) is = absurd is

bytes_solid : (text : List ℕ) → AllByRecursion IsPieceByte text → AreSolid text
bytes_solid [] all = tt
bytes_solid (b ∷ text) all = (all.0.0, bytes_solid text all.1)

bytes_lack : (text : List ℕ) → AllByRecursion IsPieceByte text → Lacks 44 text
bytes_lack [] all = tt
bytes_lack (b ∷ text) all = (not_byte b 44 all.0.1, bytes_lack text all.1)

construct_some : (c : Construct) → IsWritten c → is_some (construct_text c) ≡ true
construct_some (Compares Compatible v) is = refl
construct_some (Compares LessOrEqual v) is = refl
construct_some (Compares GreaterOrEqual v) is = refl
construct_some (Compares Less v) is = refl
construct_some (Compares Greater v) is = refl
construct_some (Equal v) is = refl
construct_some (NotEqual v) is = refl
construct_some (Within r) is = refl
construct_some (NotWithin r) is = refl
construct_some (Identical text) is = absurd is

-- the operator with what stands behind it
begun_reads : (text : List ℕ) (operator : Operator) (rest : List ℕ) (c : Construct)
    → operator_at text ≡ Some (record { operator = operator; rest = rest }) → AllByRecursion IsPieceByte rest → Takes operator rest c
    → ReadsBy (operator_at text) c
begun_reads text operator rest c e bytes takes =
    subst (λ found. ReadsBy found c) (sym e)
    (subst (λ (t : List ℕ). Takes operator t c) (sym (past_solid rest (bytes_solid rest bytes))) takes)

construct_reads : (c : Construct) → IsWritten c → ReadsBy (operator_at (construct_text c)) c
construct_reads (Compares how v) is =
    begun_reads (construct_text (Compares how v)) (operator_of.Compares how) (normal v) (Compares how v)
    (signs_at how (normal v) (normal_starts v is.0)) (normal_bytes v is.0)
    (record { version = v; spelled = normal_is v is.0; public' = is.1; numbers = is.2; is = refl })
construct_reads (Equal v) is =
    begun_reads (construct_text (Equal v)) operator_of.Equal (normal v) (Equal v) (equal_at (normal v) (normal_starts v is))
    (normal_bytes v is) (version_again Equal Within v is)
construct_reads (NotEqual v) is =
    begun_reads (construct_text (NotEqual v)) operator_of.NotEqual (normal v) (NotEqual v) refl (normal_bytes v is)
    (version_again NotEqual NotWithin v is)
construct_reads (Within r) is =
    begun_reads (construct_text (Within r)) operator_of.Equal (normal r ++ codes ".*") (Within r)
    (equal_at (normal r ++ codes ".*") (star_starts r is.0)) (star_bytes r is.0) (release_again Equal Within r is.0 is.1)
construct_reads (NotWithin r) is =
    begun_reads (construct_text (NotWithin r)) operator_of.NotEqual (normal r ++ codes ".*") (NotWithin r) refl (star_bytes r is.0)
    (release_again NotEqual NotWithin r is.0 is.1)
construct_reads (Identical text) is = absurd is

-- ---- all constructs

-- a term of its own
abbrev pub one : Construct → List Construct
one c = c ∷ []

one_more : (at : ℕ) (bytes : List ℕ) (pieces : List Plain) (c : Construct) (cs : List Construct) → bytes ≡ construct_text c → IsWritten c
    → AreEach (AreEach ReadsAs) (map (group_of None) (not_empty pieces)) (map one cs)
    → AreEach (AreEach ReadsAs) (map (group_of None) (not_empty (record { kind = tt; at = at; bytes = bytes } ∷ pieces)))
    (one c ∷ map one cs)
one_more at bytes pieces c cs e is rest =
    let some : is_some bytes ≡ true = ap is_some e ∙ construct_some c is in
    rw some ((subst (λ (t : List ℕ). ReadsBy (operator_at t) c) (sym e) (construct_reads c is), tt), rest)

pieces_read : (at : ℕ) (cs : List Construct) → AllByRecursion IsWritten cs
    → AreEach (AreEach ReadsAs) (map (group_of None) (not_empty (pieces_of at (map construct_text cs)))) (map one cs)
pieces_read at [] all = tt
pieces_read at (c ∷ cs) all =
    one_more _ (trimmed (construct_text c)) (pieces_of (at + length (construct_text c) + 1) (map construct_text cs)) c cs
    (trimmed_solid (construct_text c) (bytes_solid (construct_text c) (construct_bytes c all.0))) all.0
    (pieces_read (at + length (construct_text c) + 1) cs all.1)

texts_lack : (cs : List Construct) → AllByRecursion IsWritten cs → AllByRecursion (Lacks 44) (map construct_text cs)
texts_lack [] all = tt
texts_lack (c ∷ cs) all = (bytes_lack (construct_text c) (construct_bytes c all.0), texts_lack cs all.1)

all_read : (cs : List Construct) → AllByRecursion IsWritten cs → AreEach (AreEach ReadsAs) (groups_of None (range_text cs)) (map one cs)
all_read [] all = tt
all_read (c ∷ cs) all =
    subst (λ (parts : List (List ℕ)). AreEach (AreEach ReadsAs) (map (group_of None) (not_empty (pieces_of 0 parts))) (map one (c ∷ cs)))
    (sym (split_join 44 (construct_text c) (map construct_text cs) (texts_lack (c ∷ cs) all))) (pieces_read 0 (c ∷ cs) all)

-- What is written of constructs is read as these constructs.
pub written_reads : (cs : List Construct) → AllByRecursion IsWritten cs → ranges.Reads IsCut ReadsAs (range_text cs) (map one cs)
written_reads cs all = record { groups = groups_of None (range_text cs); cut = refl; each = all_read cs all }

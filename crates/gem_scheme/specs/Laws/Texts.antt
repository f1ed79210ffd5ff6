-- What texts spell, and which: exactly the versions.
use Rattle.std.proofs.Common.{◌≡◌, ◌≢◌, ℕ, zero, suc, nat_lt, List, [], ◌∷◌, ◌++◌, length, map, Bool, true, false, refl, sym, ap, ◌∙◌, inl, inr, arith, append-nil, append_assoc}
use Rattle.std.specs.Char.{is_ascii_digit, is_ascii_alphabetic, is_ascii_alphanumeric}
use Rattle.std.specs.Cmp.{tied_itself}
use Rattle.std.specs.List.{list_all, join_with_byte}
use Rattle.std.proofs.lemmas.Bool.{cases_Bool, and_parts, and_from, lt-ltb}
use Rattle.std.proofs.lemmas.Bool.Decides.{nat_tests}
use Rattle.vx_spec.specs.Numerals.{is_numeral, numeral_text, value}
use Rattle.vx_spec.specs.Runs.{begins, run}
use Rattle.vx_spec.proofs.NumeralLaws.{numeral_text_is, value-numeral_text}
use Rattle.vx_spec.proofs.RunLaws.{run_all, run_step}
use Rattle.vx_scheme.specs.Scheme.{TextLaws}
use Rattle.vx_scheme.specs.declared.ident.Ident.{Ident}
use Rattle.vx_scheme.specs.declared.ident.Ident.TheVariants.{Number, Word}
use Rattle.vx_spec.specs.Signs.{dot, hyphen}
use Rattle.vx_order.specs.Dotted.{tail}
use Rattle.vx_order.specs.Laws.Scanning.{token_number, token_other, token_word}
use Rattle.vx_order.specs.Scanning.{behind_token, scanned_in}
use Rattle.gem_scheme.specs.Version.{Fields, IsVersion, IsWithin, begins_with_number, is_segment}
use Rattle.gem_scheme.specs.Spelling.{Parts, Spells, is_piece, segments_of, first_segments, written_out}
use Rattle.gem_scheme.specs.Writing.{segment_text, normal}
use Rattle.gem_scheme.specs.Order.{order_of, order_total}
use Rattle.gem_scheme.specs.Laws.Scanning.{of_digits, digits_in_front, word_in_front, dot_in_front}

-- ---- the segments of the normal text are the version's

digits_back : (digits behind : List ℕ) → is_numeral digits ≡ true → begins is_ascii_digit behind ≡ false → segments_of (digits ++ behind) ≡ Number (value digits) ∷ segments_of behind
digits_back [] behind is none = cc is
digits_back (b ∷ digits) behind is none = digits_in_front b digits behind (and_parts (nat_lt 0 (length (b ∷ digits))) (list_all is_ascii_digit (b ∷ digits)) is).1 none

word_back : (word behind : List ℕ) → is_segment (Word word) ≡ true → begins is_ascii_alphabetic behind ≡ false → segments_of (word ++ behind) ≡ Word word ∷ segments_of behind
word_back [] behind is none = cc is
word_back (b ∷ word) behind is none = word_in_front b word behind (and_parts (nat_lt 0 (length (b ∷ word))) (list_all is_ascii_alphabetic (b ∷ word)) is).1 none

-- one segment's text, and behind it nothing or a byte that is in no segment
segment_back : (segment : Ident) (behind : List ℕ) → is_segment segment ≡ true → begins is_ascii_digit behind ≡ false → begins is_ascii_alphabetic behind ≡ false
    → segments_of (segment_text segment ++ behind) ≡ segment ∷ segments_of behind
segment_back (Number n) behind is no_digit no_letter =
    digits_back (numeral_text n) behind (numeral_text_is n) no_digit ∙ ap (λ m. Number m ∷ segments_of behind) (value-numeral_text n)
segment_back (Word w) behind is no_digit no_letter = word_back w behind is no_letter

-- what stands behind the first segment
abbrev behind : List Ident → List ℕ
behind segments = tail dot (map segment_text segments)

joined_first : (segment : Ident) (segments : List Ident) → join_with_byte dot (map segment_text (segment ∷ segments)) ≡ segment_text segment ++ behind segments
joined_first segment [] = sym (append-nil (segment_text segment))
joined_first segment (next ∷ segments) = refl

behind_no_digit : (segments : List Ident) → begins is_ascii_digit (behind segments) ≡ false
behind_no_digit [] = refl
behind_no_digit (segment ∷ segments) = refl

behind_no_letter : (segments : List Ident) → begins is_ascii_alphabetic (behind segments) ≡ false
behind_no_letter [] = refl
behind_no_letter (segment ∷ segments) = refl

all_back : (segment : Ident) (segments : List Ident) → list_all is_segment (segment ∷ segments) ≡ true
    → segments_of (segment_text segment ++ behind segments) ≡ segment ∷ segments
all_back segment [] all = segment_back segment [] (and_parts (is_segment segment) true all).0 refl refl
all_back segment (next ∷ segments) all =
    let a = and_parts (is_segment segment) (list_all is_segment (next ∷ segments)) all in
    segment_back segment (behind (next ∷ segments)) a.0 (behind_no_digit (next ∷ segments)) (behind_no_letter (next ∷ segments))
    ∙ ap (λ more. segment ∷ more) (dot_in_front (join_with_byte dot (map segment_text (next ∷ segments))) ∙ ap segments_of (joined_first next segments) ∙ all_back next segments a.1)

-- ---- a version's normal text spells it

digit_alphanumeric : (b : ℕ) → is_ascii_digit b ≡ true → is_ascii_alphanumeric b ≡ true
digit_alphanumeric b is = rw is refl

letter_alphanumeric : (b : ℕ) → is_ascii_alphabetic b ≡ true → is_ascii_alphanumeric b ≡ true
letter_alphanumeric b is = grind (arith, nat_tests)

all_other : (test other : ℕ → Bool) → ((b : ℕ) → test b ≡ true → other b ≡ true) → (text : List ℕ) → list_all test text ≡ true → list_all other text ≡ true
all_other test other gives [] all = refl
all_other test other gives (b ∷ text) all =
    let a = and_parts (test b) (list_all test text) all in
    and_from (other b) (list_all other text) (gives b a.0) (all_other test other gives text a.1)

piece_of_segment : (segment : Ident) → is_segment segment ≡ true → is_piece (segment_text segment) ≡ true
piece_of_segment (Number n) is =
    let a = and_parts (nat_lt 0 (length (numeral_text n))) (list_all is_ascii_digit (numeral_text n)) (numeral_text_is n) in
    and_from (nat_lt 0 (length (numeral_text n))) (list_all is_ascii_alphanumeric (numeral_text n)) a.0 (all_other is_ascii_digit is_ascii_alphanumeric digit_alphanumeric (numeral_text n) a.1)
piece_of_segment (Word w) is =
    let a = and_parts (nat_lt 0 (length w)) (list_all is_ascii_alphabetic w) is in
    and_from (nat_lt 0 (length w)) (list_all is_ascii_alphanumeric w) a.0 (all_other is_ascii_alphabetic is_ascii_alphanumeric letter_alphanumeric w a.1)

pieces_of_segments : (segments : List Ident) → list_all is_segment segments ≡ true → list_all is_piece (map segment_text segments) ≡ true
pieces_of_segments [] all = refl
pieces_of_segments (segment ∷ segments) all =
    let a = and_parts (is_segment segment) (list_all is_segment segments) all in
    and_from (is_piece (segment_text segment)) (list_all is_piece (map segment_text segments)) (piece_of_segment segment a.0) (pieces_of_segments segments a.1)

abbrev normal_parts : ℕ → List Ident → Parts
normal_parts n segments = record { number = numeral_text n; pieces = map segment_text segments; labels = [] }

spelled_by : (segments : List Ident) → begins_with_number segments ≡ true → list_all is_segment segments ≡ true → Spells (normal (record { segments = segments })) (record { segments = segments })
spelled_by [] first all = cc first
spelled_by (Word w ∷ segments) first all = cc first
spelled_by (Number n ∷ segments) first all = record {
  parts = normal_parts n segments;
  joined = joined_first (Number n) segments ∙ sym (append-nil (numeral_text n ++ behind segments));
  form = record { number = numeral_text_is n; pieces = pieces_of_segments segments (and_parts true (list_all is_segment segments) all).1; labels = refl };
  values = λ i. record { segments = sym (ap segments_of (joined_first (Number n) segments) ∙ all_back (Number n) segments all) i };
}

pub normal_is : (v : Fields) → IsVersion v → Spells (normal v) v
normal_is v is = spelled_by v.segments is.first is.segments

-- ---- what a text spells is a version

-- a run that begins is not empty
word_is : (b : ℕ) (text : List ℕ) → is_ascii_alphabetic b ≡ true → is_segment (Word (run is_ascii_alphabetic (b ∷ text))) ≡ true
word_is b text letter =
    let some : nat_lt 0 (length (run is_ascii_alphabetic (b ∷ text))) ≡ true =
    ap (λ (word : List ℕ). nat_lt 0 (length word)) (run_step is_ascii_alphabetic b text letter) ∙ lt-ltb 0 (suc (length (run is_ascii_alphabetic text))) (omega arith) in
    and_from (nat_lt 0 (length (run is_ascii_alphabetic (b ∷ text)))) (list_all is_ascii_alphabetic (run is_ascii_alphabetic (b ∷ text))) some (run_all is_ascii_alphabetic (b ∷ text))

first_are : (b : ℕ) (text : List ℕ) → list_all is_segment (first_segments (b ∷ text)) ≡ true
first_are b text = elim (cases_Bool (is_ascii_digit b)) [
  | inl digit ↦ ap (list_all is_segment) (token_number Number Word (λ c. []) b text digit)
  | inr other ↦ elim (cases_Bool (is_ascii_alphabetic b)) [
    | inl letter ↦ ap (list_all is_segment) (token_word Number Word (λ c. []) b text other letter) ∙ and_from (is_segment (Word (run is_ascii_alphabetic (b ∷ text)))) true (word_is b text letter) refl
    | inr sign ↦ ap (list_all is_segment) (token_other Number Word (λ c. []) b text other sign)
  ]
]

all_append : (xs ys : List Ident) → list_all is_segment xs ≡ true → list_all is_segment ys ≡ true → list_all is_segment (xs ++ ys) ≡ true
all_append [] ys p q = q
all_append (x ∷ xs) ys p q =
    let a = and_parts (is_segment x) (list_all is_segment xs) p in
    and_from (is_segment x) (list_all is_segment (xs ++ ys)) a.0 (all_append xs ys a.1 q)

scanned_are : (n : ℕ) (text : List ℕ) → list_all is_segment (scanned_in first_segments behind_token n text) ≡ true
scanned_are zero text = refl
scanned_are (suc n) [] = refl
scanned_are (suc n) (b ∷ text) = all_append (first_segments (b ∷ text)) (scanned_in first_segments behind_token n (behind_token (b ∷ text))) (first_are b text) (scanned_are n (behind_token (b ∷ text)))

begun : (number behind : List ℕ) → is_numeral number ≡ true → begins_with_number (segments_of (number ++ behind)) ≡ true
begun [] behind is = cc is
begun (b ∷ number) behind is =
    let digit = (and_parts (is_ascii_digit b) (list_all is_ascii_digit number) (and_parts (nat_lt 0 (length (b ∷ number))) (list_all is_ascii_digit (b ∷ number)) is).1).0 in
    ap begins_with_number (of_digits b (number ++ behind) digit)

pub spelled_version : (text : List ℕ) (v : Fields) → Spells text v → IsVersion v
spelled_version text v s = record {
  first = ap (λ w. begins_with_number w.segments) s.values ∙ ap (λ t. begins_with_number (segments_of t)) s.joined ∙ ap (λ t. begins_with_number (segments_of t)) (append_assoc s.parts.number (tail dot s.parts.pieces) (tail hyphen s.parts.labels)) ∙ begun s.parts.number (tail dot s.parts.pieces ++ tail hyphen s.parts.labels) s.form.number;
  segments = ap (λ w. list_all is_segment w.segments) s.values ∙ scanned_are (length (written_out text)) (written_out text);
}

not_empty : (segments : List Ident) → begins_with_number segments ≡ true → join_with_byte dot (map segment_text segments) ≢ []
not_empty [] first e = cc first
not_empty (Word w ∷ segments) first e = cc first
not_empty (Number n ∷ segments) first e = some (numeral_text n) (behind segments) (numeral_text_is n) (sym (joined_first (Number n) segments) ∙ e)
  where
    some : (digits more : List ℕ) → is_numeral digits ≡ true → digits ++ more ≢ []
    some [] more is e = cc is
    some (b ∷ digits) more is e = cc e

pub gem_texts : TextLaws order_of IsVersion IsWithin Spells normal
gem_texts = record {
  version_spelled = λ v is. record { text = normal v; spelled = normal_is v is };
  spelled_version = spelled_version;
  spells_one = λ text v w s t. s.values ∙ sym t.values;
  normal_spells = λ v is. record { not_empty = not_empty v.segments is.first; version = v; spelled = normal_is v is; order_equal = tied_itself order_total v; same_text = refl; within = λ w. w };
}

-- How the texts of sides and points are cut up and read.
use Rattle.std.proofs.Common.{◌≡◌, ◌≢◌, ◌<◌, lit<, ◌&&◌, ◌||◌, ◌-◌, not, arith, length-append, ℕ, List, [], ◌∷◌, ◌++◌, Bool, true, false, true≢false, eqb, ltb, length, refl, sym, ap, ◌∙◌, inl, inr, subst, append_assoc, append-nil}
use Rattle.std.specs.List.{list_all, AllByRecursion}
use Rattle.std.specs.Char.{is_ascii_digit}
use Rattle.std.proofs.lemmas.Bool.{cases_Bool, and_parts, ne_eqb}
use Rattle.std.proofs.Math.Bool.{and-true}
use Rattle.std.proofs.lemmas.Bool.Decides.{nat_tests}
use Rattle.std.proofs.lemmas.List.{take_at}
use Rattle.vx_spec.specs.Numerals.{is_numeral, numeral_text}
use Rattle.vx_spec.specs.Runs.{is_blank, is_solid, begins, run, past}
use Rattle.vx_spec.proofs.NumeralLaws.{numeral_text_is}
use Rattle.vx_spec.proofs.RunLaws.{one_run, run_step, run_stays}
use Rattle.vx_spec.specs.Each.{AreEach}
use Rattle.vx_range.specs.Pieces.{Written}
use Rattle.vx_spec.proofs.TextLaws.{each_by_test, each_append, each_joined, each_part, test_by_each}
use Rattle.vx_order.specs.Dotted.{tail}
use Rattle.vx_order.specs.Identifiers.{is_identifier, is_identifier_byte}
use Rattle.npm_scheme.specs.Version.{Fields, IsVersion, without_build}
use Rattle.npm_scheme.specs.Spelling.{Parts, AreVersionParts, whole, core, is_plain_numeral, is_pre_identifier, has_leading_zero}
use Rattle.npm_scheme.specs.Writing.{normal}
use Rattle.npm_scheme.specs.Laws.Texts.{normal_is}
use Rattle.npm_range.specs.declared.construct.Construct.{Construct}
use Rattle.npm_range.specs.declared.cutting.Kind.TheVariants.{Plain}
use Rattle.npm_range.specs.declared.construct.Operator.{Operator}
use Rattle.npm_range.specs.declared.construct.Partial.{Partial}
use Rattle.npm_range.specs.declared.construct.Partial.TheVariants.{Any, Full}
use Rattle.npm_range.specs.Holds.{holds, holds_by}
use Rattle.npm_range.specs.Reading.{IsOperator, IsPartial, ReadsAs, without}
use Rattle.npm_range.specs.declared.cutting.Kind.{Kind}
use Rattle.npm_range.specs.Cutting.{is_bar, is_sign, place, before_end, piece_from, word_from, behind_piece, first_piece, ArePieces, next_from, IsHyphenRange, IsMadeOf}

-- Bytes.

-- a byte of a word: ASCII, no blank and no bar
pub record IsInner (b : ℕ) : Type 0 where
  pub ascii : b < 128
  pub solid : is_solid b ≡ true
  pub bar : is_bar b ≡ false

other_than : (test : ℕ → Bool) (c b : ℕ) → test c ≡ false → test b ≡ true → b ≢ c
other_than test c b other is = λ e. true≢false (sym is ∙ ap test e ∙ other)

-- what passes a test that no blank, no bar and no byte beyond ASCII passes
inner : (test : ℕ → Bool) → test 32 ≡ false → test 9 ≡ false → test 124 ≡ false → (b : ℕ) → b < 128 → test b ≡ true → IsInner b
inner test space tab bar b ascii is = record {
  ascii = ascii;
  solid = rw (ne_eqb b 32 (other_than test 32 b space is), ne_eqb b 9 (other_than test 9 b tab is)) refl;
  bar = ne_eqb b 124 (other_than test 124 b bar is);
}

inner_digit : (b : ℕ) → is_ascii_digit b ≡ true → IsInner b
inner_digit b is = inner is_ascii_digit refl refl refl b (grind (arith, nat_tests)) is

inner_identifier : (b : ℕ) → is_identifier_byte b ≡ true → IsInner b
inner_identifier b is = inner is_identifier_byte refl refl refl b (grind (arith, nat_tests)) is

-- a sign, and a byte that a word may begin with: a digit or '*'
abbrev pub is_first : ℕ → Bool
is_first b = is_ascii_digit b || eqb b 42

inner_sign : (b : ℕ) → is_sign b ≡ true → IsInner b
inner_sign b is = inner is_sign refl refl refl b (grind (arith, nat_tests)) is

inner_first : (b : ℕ) → is_first b ≡ true → IsInner b
inner_first b is = inner is_first refl refl refl b (grind (arith, nat_tests)) is

not_blank : (b : ℕ) → IsInner b → is_blank b ≡ false
not_blank b is = elim (cases_Bool (is_blank b)) [
  | inl blank ↦ absurd (true≢false (sym is.solid ∙ ap not blank))
  | inr other ↦ other
]

-- Each byte of a version's text is one of a word.
numeral_bytes : (x : List ℕ) → is_plain_numeral x ≡ true → AllByRecursion IsInner x
numeral_bytes x is = each_by_test IsInner is_ascii_digit x inner_digit (and_parts _ (list_all is_ascii_digit x) (and_parts (is_numeral x) (not (has_leading_zero x)) is).0).1

build_bytes : (x : List ℕ) → is_identifier x ≡ true → AllByRecursion IsInner x
build_bytes x is = each_by_test IsInner is_identifier_byte x inner_identifier (and_parts _ (list_all is_identifier_byte x) is).1

pre_bytes : (x : List ℕ) → is_pre_identifier x ≡ true → AllByRecursion IsInner x
pre_bytes x is = build_bytes x (and_parts (is_identifier x) (not (is_numeral x && has_leading_zero x)) is).0

tail_bytes : (mark : ℕ) (xs : List (List ℕ)) → IsInner mark → AllByRecursion (AllByRecursion IsInner) xs → AllByRecursion IsInner (tail mark xs)
tail_bytes mark [] one p = tt
tail_bytes mark (x ∷ xs) one p = (one, each_joined IsInner 46 (record { ascii = lit< tt; solid = refl; bar = refl }) (x ∷ xs) p)

pub whole_bytes : (p : Parts) → AreVersionParts p → AllByRecursion IsInner (whole p)
whole_bytes p f =
    let dot : IsInner 46 = record { ascii = lit< tt; solid = refl; bar = refl } in
    let first = each_append IsInner p.major (46 ∷ (p.minor ++ (46 ∷ p.patch))) (numeral_bytes p.major f.major)
    (dot, each_append IsInner p.minor (46 ∷ p.patch) (numeral_bytes p.minor f.minor) (dot, numeral_bytes p.patch f.patch)) in
    let second = tail_bytes 45 p.pre (record { ascii = lit< tt; solid = refl; bar = refl }) (each_part IsInner is_pre_identifier p.pre pre_bytes f.pre) in
    let third = tail_bytes 43 p.build (record { ascii = lit< tt; solid = refl; bar = refl }) (each_part IsInner is_identifier p.build build_bytes f.build) in
    each_append IsInner (core p.major p.minor p.patch ++ tail 45 p.pre) (tail 43 p.build) (each_append IsInner (core p.major p.minor p.patch) (tail 45 p.pre) first second) third

-- Words.

-- the word stands for the partial, has the bytes of a word and begins with a digit or '*'
pub record IsWord (word : List ℕ) (partial : Partial) : Type 0 where
  pub first : begins is_first word ≡ true
  pub inner : AllByRecursion IsInner word
  pub stands : IsPartial word partial

numeral_first : (x rest : List ℕ) → is_numeral x ≡ true → begins is_first (x ++ rest) ≡ true
numeral_first [] rest is = absurd (true≢false (sym is))
numeral_first (b ∷ x) rest is = rw (and_parts (is_ascii_digit b) (list_all is_ascii_digit x) (and_parts (ltb 0 (length (b ∷ x))) (list_all is_ascii_digit (b ∷ x)) is).1).0 refl

-- the normal text of a version is a word that stands for it, without its build
pub version_word : (v : Fields) → IsVersion v → IsWord (normal v) (Full (without_build v))
version_word v is =
    let s = normal_is v is in
    record {
      first = rw (append_assoc (numeral_text v.major) (46 ∷ (numeral_text v.minor ++ (46 ∷ numeral_text v.patch))) (tail 45 _)) (numeral_first (numeral_text v.major) _ (numeral_text_is v.major));
      inner = subst (AllByRecursion IsInner) (sym s.joined) (whole_bytes s.parts s.form);
      stands = inr (record { version = without_build v; spelled = s; is = refl });
    }

-- '*' is 42
pub any_word : IsWord (42 ∷ []) Any
any_word = record { first = refl; inner = (record { ascii = lit< tt; solid = refl; bar = refl }, tt); stands = inl (refl, refl) }

-- Sides: signs and a word.

-- the text is signs that write the operator, and a word that stands for the partial
pub record IsSide (text : List ℕ) (operator : Operator) (partial : Partial) : Type 0 where
  pub signs : List ℕ
  pub word : List ℕ
  pub joined : text ≡ signs ++ word
  pub are_signs : list_all is_sign signs ≡ true
  pub written : IsOperator signs operator
  pub is_word : IsWord word partial

-- what a word begins with
begins_none : (test : ℕ → Bool) → ((b : ℕ) → is_first b ≡ true → test b ≡ false) → (word rest : List ℕ) → begins is_first word ≡ true → begins test (word ++ rest) ≡ false
begins_none test other [] rest first = absurd (true≢false (sym first))
begins_none test other (b ∷ word) rest first = other b first

first_no_sign : (b : ℕ) → is_first b ≡ true → is_sign b ≡ false
first_no_sign b is =
    let other : (c : ℕ) → is_first c ≡ false → eqb b c ≡ false = λ c not_first. ne_eqb b c (other_than is_first c b not_first is) in
    rw (other 60 refl, other 62 refl, other 61 refl, other 126 refl, other 94 refl) refl

without_v : (word : List ℕ) → begins is_first word ≡ true → without 118 word ≡ word
without_v [] first = refl
without_v (b ∷ word) first = rw (ne_eqb b 118 (other_than is_first 118 b refl first)) refl

side_begins : (signs rest : List ℕ) → list_all is_sign signs ≡ true → begins is_blank rest ≡ false → begins is_blank (signs ++ rest) ≡ false
side_begins [] rest are none = none
side_begins (b ∷ signs) rest are none = not_blank b (inner_sign b (and_parts (is_sign b) (list_all is_sign signs) are).0)

solid_bytes : (text : List ℕ) → AllByRecursion IsInner text → list_all is_solid text ≡ true
solid_bytes text all = test_by_each IsInner is_solid text (λ b is. is.solid) all

pub side_inner : (text : List ℕ) (o : Operator) (p : Partial) → IsSide text o p → AllByRecursion IsInner text
side_inner text o p s = subst (AllByRecursion IsInner) (sym s.joined) (each_append IsInner s.signs s.word (each_by_test IsInner is_sign s.signs inner_sign s.are_signs) s.is_word.inner)

-- A side between blanks is the first piece of a text, and what stands behind it is left.
record IsFirstPiece (text rest : List ℕ) (o : Operator) (p : Partial) : Type 0 where
  some : piece_from text ≢ []
  behind : behind_piece text ≡ rest
  reads : (at : ℕ) → ReadsAs (first_piece at text) (record { operator = o; partial = p })

no_side : (signs word rest : List ℕ) → begins is_first word ≡ true → signs ++ (word ++ rest) ≢ []
no_side [] [] rest first e = true≢false (sym first)
no_side [] (b ∷ word) rest first e = absurd (cc e)
no_side (b ∷ signs) word rest first e = absurd (cc e)

-- what stands before an end of a text
before_rest : (front rest : List ℕ) → before_end (front ++ rest) rest ≡ front
before_rest front rest =
    let size : length (front ++ rest) - length rest ≡ length front = omega (arith, length-append front rest) in
    rw size (take_at front rest (length front) refl)

-- a word behind signs, alone
module _ (signs word : List ℕ) (o : Operator) (p : Partial) (are : list_all is_sign signs ≡ true) (written : IsOperator signs o) (is : IsWord word p) where
  no_blank : (rest : List ℕ) → begins is_blank (word ++ rest) ≡ false
  no_blank rest = begins_none is_blank (λ b f. not_blank b (inner_first b f)) word rest is.first

  no_sign : (rest : List ℕ) → begins is_sign (word ++ rest) ≡ false
  no_sign rest = begins_none is_sign first_no_sign word rest is.first

  of_signs : (rest : List ℕ) → (run is_sign (signs ++ (word ++ rest)) ≡ signs) × (past is_sign (signs ++ (word ++ rest)) ≡ word ++ rest)
  of_signs rest = one_run is_sign signs (word ++ rest) are (no_sign rest)

  word_at : (rest : List ℕ) → past is_blank (past is_sign (signs ++ (word ++ rest))) ≡ word ++ rest
  word_at rest = ap (past is_blank) (of_signs rest).1 ∙ (one_run is_blank [] (word ++ rest) refl (no_blank rest)).1

  side_reads : (at : ℕ) → ReadsAs (record { kind = Plain; at = at; bytes = signs ++ word }) (record { operator = o; partial = p })
  side_reads at =
      let alone : signs ++ (word ++ []) ≡ signs ++ word = ap (λ (t : List ℕ). signs ++ t) (append-nil word) in
      let of_run : run is_sign (signs ++ word) ≡ signs = ap (run is_sign) (sym alone) ∙ (of_signs []).0 in
      let of_word : past is_blank (past is_sign (signs ++ word)) ≡ word = ap (λ (t : List ℕ). past is_blank (past is_sign t)) (sym alone) ∙ word_at [] ∙ append-nil word in
      record {
        operator = subst (λ (t : List ℕ). IsOperator t o) (sym of_run) written;
        partial = subst (λ (t : List ℕ). IsPartial t p) (sym (ap (without 118) of_word ∙ without_v word is.first)) is.stands;
      }

  first_side : (pad rest : List ℕ) → list_all is_blank pad ≡ true → begins is_solid rest ≡ false → IsFirstPiece (pad ++ (signs ++ (word ++ rest))) rest o p
  first_side pad rest blank none =
      let text = pad ++ (signs ++ (word ++ rest)) in
      let from : piece_from text ≡ signs ++ (word ++ rest) = (one_run is_blank pad (signs ++ (word ++ rest)) blank (side_begins signs (word ++ rest) are (no_blank rest))).1 in
      let words : word_from text ≡ word ++ rest = ap (λ (t : List ℕ). past is_blank (past is_sign t)) from ∙ word_at rest in
      let behind : behind_piece text ≡ rest = ap (past is_solid) words ∙ (one_run is_solid word rest (solid_bytes word is.inner) none).1 in
      let whole : before_end (signs ++ (word ++ rest)) rest ≡ signs ++ word = ap (λ (t : List ℕ). before_end t rest) (sym (append_assoc signs word rest)) ∙ before_rest (signs ++ word) rest in
      let bytes : before_end (piece_from text) (behind_piece text) ≡ signs ++ word = (λ i. before_end (from i) (behind i)) ∙ whole in
      record {
        some = λ e. no_side signs word rest is.first (sym from ∙ e);
        behind = behind;
        reads = λ at. subst (λ (t : List ℕ). ReadsAs (record { kind = Plain; at = place at text (piece_from text); bytes = t }) (record { operator = o; partial = p })) (sym bytes) (side_reads (place at text (piece_from text)));
      }

side_piece : (pad side rest : List ℕ) (o : Operator) (p : Partial) → list_all is_blank pad ≡ true → IsSide side o p → begins is_solid rest ≡ false → IsFirstPiece (pad ++ (side ++ rest)) rest o p
side_piece pad side rest o p blank s none =
    let e : pad ++ (s.signs ++ (s.word ++ rest)) ≡ pad ++ (side ++ rest) = ap (λ (t : List ℕ). pad ++ t) (sym (append_assoc s.signs s.word rest)) ∙ ap (λ (t : List ℕ). pad ++ (t ++ rest)) (sym s.joined) in
    subst (λ (t : List ℕ). IsFirstPiece t rest o p) e (first_side s.signs s.word o p s.are_signs s.written s.is_word pad rest blank none)

-- Blanks alone are no piece.
blanks_none : (text : List ℕ) → list_all is_blank text ≡ true → past is_blank text ≡ []
blanks_none text blank = ap (past is_blank) (sym (append-nil text)) ∙ (one_run is_blank text [] blank refl).1

blanks_stop : (text : List ℕ) → list_all is_blank text ≡ true → begins is_solid text ≡ false
blanks_stop [] blank = refl
blanks_stop (b ∷ text) blank = ap not (and_parts (is_blank b) (list_all is_blank text) blank).0

-- The second run of a hyphen range is '-', which is 45.
run_dash : (text : List ℕ) → run is_solid text ≡ 45 ∷ [] → begins (λ b. eqb b 45) text ≡ true
run_dash [] e = absurd (cc e)
run_dash (b ∷ text) e = elim (cases_Bool (is_solid b)) [
  | inl is ↦
      let same : b ∷ run is_solid text ≡ 45 ∷ [] = sym (run_step is_solid b text is) ∙ e in
      let at : b ≡ 45 = cc same in
      ap (λ n. eqb n 45) at
  | inr other ↦ let none : [] ≡ 45 ∷ [] = sym (run_stays is_solid b text other) ∙ e in absurd (cc none)
]

-- A text whose second run does not begin with '-' is no hyphen range.
not_hyphen : (pad word rest : List ℕ) → list_all is_blank pad ≡ true → list_all is_solid word ≡ true → begins is_blank (word ++ rest) ≡ false → begins is_solid rest ≡ false
    → begins (λ b. eqb b 45) (past is_blank rest) ≡ false → ¬ (IsHyphenRange (pad ++ (word ++ rest)))
not_hyphen pad word rest blank solid no_blank none other = λ range.
    let from : past is_blank (pad ++ (word ++ rest)) ≡ word ++ rest = (one_run is_blank pad (word ++ rest) blank no_blank).1 in
    let next : next_from (past is_blank (pad ++ (word ++ rest))) ≡ past is_blank rest = ap next_from from ∙ ap (past is_blank) (one_run is_solid word rest solid none).1 in
    let dash : run is_solid (past is_blank rest) ≡ 45 ∷ [] = ap (run is_solid) (sym next) ∙ range.second in
    true≢false (sym (run_dash (past is_blank rest) dash) ∙ other)

side_no_hyphen : (pad side rest : List ℕ) (o : Operator) (p : Partial) → list_all is_blank pad ≡ true → IsSide side o p → begins is_solid rest ≡ false
    → begins (λ b. eqb b 45) (past is_blank rest) ≡ false → ¬ (IsHyphenRange (pad ++ (side ++ rest)))
side_no_hyphen pad side rest o p blank s none other =
    let no_blank : begins is_blank (side ++ rest) ≡ false = rw (s.joined, append_assoc s.signs s.word rest) (side_begins s.signs (s.word ++ rest) s.are_signs (begins_none is_blank (λ b f. not_blank b (inner_first b f)) s.word rest s.is_word.first)) in
    not_hyphen pad side rest blank (solid_bytes side (side_inner side o p s)) no_blank none other

-- The text of an alternative, which begins at this place, is made of constructs that all hold where the test says so.
pub record ReadsSo (at : ℕ) (text : List ℕ) (test : Fields → Bool) : Type 0 where
  pub pieces : List (Written Kind)
  pub made : IsMadeOf at text pieces
  pub constructs : List Construct
  pub each : AreEach ReadsAs pieces constructs
  pub held : (v : Fields) → list_all (λ c. holds c v) constructs ≡ test v

pub read_as : (at : ℕ) (text : List ℕ) (test other : Fields → Bool) → ((v : Fields) → test v ≡ other v) → ReadsSo at text test → ReadsSo at text other
read_as at text test other same r = record { pieces = r.pieces; made = r.made; constructs = r.constructs; each = r.each; held = λ v. r.held v ∙ same v }

-- One side is one construct,
pub one_side : (at : ℕ) (pad side end : List ℕ) (o : Operator) (p : Partial) → list_all is_blank pad ≡ true → list_all is_blank end ≡ true → IsSide side o p
    → ReadsSo at (pad ++ (side ++ end)) (holds_by o p)
one_side at pad side end o p blank last s =
    let text = pad ++ (side ++ end) in
    let f = side_piece pad side end o p blank s (blanks_stop end last) in
    let rest : ArePieces (place at text (behind_piece text)) (behind_piece text) [] = ap (past is_blank) f.behind ∙ blanks_none end last in
    record {
      pieces = first_piece at text ∷ [];
      made = inr (side_no_hyphen pad side end o p blank s (blanks_stop end last) (ap (begins (λ b. eqb b 45)) (blanks_none end last)), (f.some, refl, rest));
      constructs = record { operator = o; partial = p } ∷ [];
      each = (f.reads at, tt);
      held = λ v. and-true (holds_by o p v);
    }

-- and two sides with a blank between them are two.
pub two_sides : (at : ℕ) (pad low high end : List ℕ) (o u : Operator) (p q : Partial) → list_all is_blank pad ≡ true → list_all is_blank end ≡ true → IsSide low o p → IsSide high u q
    → begins (λ b. eqb b 45) (high ++ end) ≡ false → begins is_blank (high ++ end) ≡ false
    → ReadsSo at (pad ++ (low ++ (32 ∷ (high ++ end)))) (λ v. holds_by o p v && holds_by u q v)
two_sides at pad low high end o u p q blank last s t other no_blank =
    let rest = 32 ∷ (high ++ end) in
    let text = pad ++ (low ++ rest) in
    let f = side_piece pad low rest o p blank s refl in
    let g = side_piece (32 ∷ []) high end u q refl t (blanks_stop end last) in
    let from : past is_blank rest ≡ high ++ end = (one_run is_blank (32 ∷ []) (high ++ end) refl no_blank).1 in
    let second = first_piece (place at text rest) rest in
    let third : ArePieces (place (place at text rest) rest (behind_piece rest)) (behind_piece rest) [] = ap (past is_blank) g.behind ∙ blanks_none end last in
    let behind : ArePieces (place at text rest) rest (second ∷ []) = (g.some, refl, third) in
    record {
      pieces = first_piece at text ∷ second ∷ [];
      made = inr (side_no_hyphen pad low rest o p blank s refl (ap (begins (λ b. eqb b 45)) from ∙ other), (f.some, refl, subst (λ (r : List ℕ). ArePieces (place at text r) r (second ∷ [])) (sym f.behind) behind));
      constructs = record { operator = o; partial = p } ∷ record { operator = u; partial = q } ∷ [];
      each = (f.reads at, (g.reads (place at text rest), tt));
      held = λ v. ap (λ (b : Bool). holds_by o p v && b) (and-true (holds_by u q v));
    }

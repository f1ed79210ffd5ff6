-- A piece is one construct, and its first numeral past the limit begins at one place.
use Rattle.std.proofs.Common.{◌≡◌, ◌≢◌, ◌||◌, not, ℕ, List, [], ◌∷◌, ◌++◌, length, eqb, ltb, Bool, true, false, refl, sym, ap, ◌∙◌, inl, inr, arith, subst, append-nil, if◌then◌else◌, Some, None}
use Rattle.std.specs.List.{list_all, AllByRecursion}
use Rattle.std.specs.Char.{is_ascii_digit}
use Rattle.std.proofs.lemmas.List.Splits.{slice_split_none, slice_split_at, join_with_byte-slice_split}
use Rattle.std.proofs.lemmas.List.Elements.{All-from_recursion}
use Rattle.std.proofs.lemmas.Bool.{cases_Bool, and_parts, ne_eqb}
use Rattle.std.proofs.lemmas.Bool.Decides.{nat_tests}
use Rattle.vx_spec.specs.Marks.{IsCut, Lacks}
use Rattle.vx_spec.specs.Numerals.{is_numeral}
use Rattle.vx_spec.specs.Runs.{run}
use Rattle.vx_spec.proofs.EachLaws.{each_behind}
use Rattle.vx_spec.proofs.TextLaws.{each_by_test, each_joined, each_part}
use Rattle.vx_range.specs.Pieces.{Written}
use Rattle.vx_range.specs.Reading.{PieceLaws}
use Rattle.vx_order.specs.Dotted.{tail}
use Rattle.vx_order.specs.PastParts.{first_past_part}
use Rattle.npm_scheme.specs.Version.{Fields, without_build}
use Rattle.npm_scheme.specs.Spelling.{Parts, Spells, is_plain_numeral, has_leading_zero, core, whole, version_of}
use Rattle.npm_scheme.specs.Written.{IsVersionWritten}
use Rattle.npm_scheme.specs.Laws.Unique.{one_parts, one_reading}
use Rattle.npm_range.specs.declared.cutting.Kind.{Kind}
use Rattle.npm_range.specs.declared.cutting.Kind.TheVariants.{Plain, Low, High}
use Rattle.npm_range.specs.declared.construct.Construct.{Construct}
use Rattle.npm_range.specs.declared.construct.Operator.{Operator}
use Rattle.npm_range.specs.declared.construct.Operator.TheVariants as operator_of
use Rattle.npm_range.specs.declared.construct.Partial.{Partial}
use Rattle.npm_range.specs.declared.construct.Partial.TheVariants.{Full}
use Rattle.npm_range.specs.Cutting.{is_sign}
use Rattle.npm_range.specs.Reading.{IsOperator, HasOperator, is_any, is_number, numbers, is_short, before_any, values, partial_of, IsPartial, partial_text, ReadsAs}
use Rattle.npm_range.specs.Refusals.{AreCounted, partial_place, IsPast}

-- the operator that signs write, where they write one
abbrev written_by : List ℕ → Operator
written_by [] = operator_of.Equal
written_by (b ∷ []) = if eqb b 60 then operator_of.Less else (if eqb b 62 then operator_of.Greater else (if eqb b 126 then operator_of.Tilde else (if eqb b 94 then operator_of.Caret else operator_of.Equal)))
written_by (b ∷ c ∷ signs) = if eqb b 60 then operator_of.LessEqual else (if eqb b 62 then operator_of.GreaterEqual else operator_of.Tilde)

operator_found : (signs : List ℕ) (o : Operator) → IsOperator signs o → written_by signs ≡ o
operator_found signs operator_of.Equal (inl e) = ap written_by e
operator_found signs operator_of.Equal (inr e) = ap written_by e
operator_found signs operator_of.Less e = ap written_by e
operator_found signs operator_of.LessEqual e = ap written_by e
operator_found signs operator_of.Greater e = ap written_by e
operator_found signs operator_of.GreaterEqual e = ap written_by e
operator_found signs operator_of.Tilde (inl e) = ap written_by e
operator_found signs operator_of.Tilde (inr e) = ap written_by e
operator_found signs operator_of.Caret e = ap written_by e

one_operator : (kind : Kind) (bytes : List ℕ) (o u : Operator) → HasOperator kind bytes o → HasOperator kind bytes u → o ≡ u
one_operator Plain bytes o u p q = sym (operator_found (run is_sign bytes) o p) ∙ operator_found (run is_sign bytes) u q
one_operator Low bytes o u p q = p ∙ sym q
one_operator High bytes o u p q = p ∙ sym q

-- cutting at '.' step by step
not_dot : (text : List ℕ) → Lacks 46 text → AllByRecursion (λ b. eqb b 46 ≡ false) text
not_dot [] h = tt
not_dot (b ∷ text) h = (ne_eqb b 46 h.0, not_dot text h.1)

pub split_none : (text front : List ℕ) → IsCut 46 text front None → numbers text ≡ front ∷ []
split_none text front c =
    ap numbers (c.joined ∙ append-nil front) ∙ slice_split_none (λ b. eqb b 46) front (All-from_recursion (λ b. eqb b 46 ≡ false) front (not_dot front c.first))

pub split_some : (text front behind : List ℕ) → IsCut 46 text front (Some behind) → numbers text ≡ front ∷ numbers behind
split_some text front behind c =
    ap numbers c.joined ∙ slice_split_at (λ b. eqb b 46) front 46 behind (All-from_recursion (λ b. eqb b 46 ≡ false) front (not_dot front c.first)) refl

pub digits : (x : List ℕ) → is_plain_numeral x ≡ true → list_all is_ascii_digit x ≡ true
digits x is =
    let a = and_parts (is_numeral x) (not (has_leading_zero x)) is in
    (and_parts (ltb 0 (length x)) (list_all is_ascii_digit x) a.0).1

abbrev pub any_byte : ℕ → Bool
any_byte b = (eqb b 120 || eqb b 88) || eqb b 42

number_all : (P : ℕ → Type 0) → ((b : ℕ) → is_ascii_digit b ≡ true → P b) → ((b : ℕ) → any_byte b ≡ true → P b) → (x : List ℕ) → is_number x ≡ true → AllByRecursion P x
number_all P digit any [] is = tt
number_all P digit any (b ∷ []) is = elim (cases_Bool (any_byte b)) [
  | inl sign ↦ (any b sign, tt)
  | inr other ↦ each_by_test P is_ascii_digit (b ∷ []) digit (digits (b ∷ []) (rw other at is))
]
number_all P digit any (b ∷ c ∷ x) is = each_by_test P is_ascii_digit (b ∷ c ∷ x) digit (digits (b ∷ c ∷ x) is)

-- each byte of one to three numbers is '.', a digit or a sign for any number
pub short_all : (P : ℕ → Type 0) (text : List ℕ) → P 46 → ((b : ℕ) → is_ascii_digit b ≡ true → P b) → ((b : ℕ) → any_byte b ≡ true → P b) → is_short text ≡ true → AllByRecursion P text
short_all P text dot digit any is =
    let all : list_all is_number (numbers text) ≡ true = (and_parts (list_all is_number (numbers text)) (ltb (length (numbers text)) 4) is).0 in
    subst (AllByRecursion P) (join_with_byte-slice_split 46 text) (each_joined P 46 dot (numbers text) (each_part P is_number (numbers text) (number_all P digit any) all))

each_front : (P : ℕ → Type 0) (xs ys : List ℕ) → AllByRecursion P (xs ++ ys) → AllByRecursion P xs
each_front P [] ys p = tt
each_front P (x ∷ xs) ys p = (p.0, each_front P xs ys p.1)

digit_is : (c b : ℕ) → is_ascii_digit c ≡ false → is_ascii_digit b ≡ true → b ≢ c
digit_is c b other is = λ e. absurd (cc (e, other, is))

any_is : (c b : ℕ) → any_byte c ≡ false → any_byte b ≡ true → b ≢ c
any_is c b other is = λ e. absurd (cc (e, other, is))

no_tail : (mark : ℕ) (xs : List (List ℕ)) → Lacks mark (tail mark xs) → xs ≡ []
no_tail mark [] h = refl
no_tail mark (x ∷ xs) h = absurd (h.0 refl)

not_any : (x : List ℕ) → is_plain_numeral x ≡ true → is_any x ≡ false
not_any [] is = refl
not_any (b ∷ []) is = let d = (and_parts (is_ascii_digit b) true (digits (b ∷ []) is)).0 in grind (arith, nat_tests)
not_any (b ∷ c ∷ x) is = refl

numeral_lacks : (x : List ℕ) → is_plain_numeral x ≡ true → Lacks 46 x
numeral_lacks x is = each_by_test (λ b. b ≢ 46) is_ascii_digit x (λ b d. digit_is 46 b refl d) (digits x is)

core_numbers : (text a b c : List ℕ) → text ≡ core a b c → is_plain_numeral a ≡ true → is_plain_numeral b ≡ true → is_plain_numeral c ≡ true → numbers text ≡ a ∷ b ∷ c ∷ []
core_numbers text a b c e f g h =
    let first = split_some text a (b ++ 46 ∷ c) (record { joined = e; first = numeral_lacks a f }) in
    let second = split_some (b ++ 46 ∷ c) b c (record { joined = refl; first = numeral_lacks b g }) in
    let third = split_none c c (record { joined = sym (append-nil c); first = numeral_lacks c h }) in
    first ∙ ap (λ (r : List (List ℕ)). a ∷ r) (second ∙ ap (λ (r : List (List ℕ)). b ∷ r) third)

-- three numerals are numbers and a version, of the same parts
short_written : (text : List ℕ) (p : Parts) → is_short text ≡ true → IsVersionWritten text p → (before_any (numbers text) ≡ p.major ∷ p.minor ∷ p.patch ∷ []) × (p.pre ≡ [])
short_written text p is w =
    let dash : Lacks 45 (whole p) = subst (Lacks 45) w.joined (short_all (λ b. b ≢ 45) text (λ e. cc e) (λ b d. digit_is 45 b refl d) (λ b d. any_is 45 b refl d) is) in
    let plus : Lacks 43 (whole p) = subst (Lacks 43) w.joined (short_all (λ b. b ≢ 43) text (λ e. cc e) (λ b d. digit_is 43 b refl d) (λ b d. any_is 43 b refl d) is) in
    let front = core p.major p.minor p.patch in
    let pre : p.pre ≡ [] = no_tail 45 p.pre (each_behind (λ b. b ≢ 45) front (tail 45 p.pre) (each_front (λ b. b ≢ 45) (front ++ tail 45 p.pre) (tail 43 p.build) dash)) in
    let build : p.build ≡ [] = no_tail 43 p.build (each_behind (λ b. b ≢ 43) (front ++ tail 45 p.pre) (tail 43 p.build) plus) in
    let e : text ≡ front = w.joined ∙ ap (λ (t : List (List ℕ)). front ++ tail 45 p.pre ++ tail 43 t) build ∙ append-nil (front ++ tail 45 p.pre)
    ∙ ap (λ (t : List (List ℕ)). front ++ tail 45 t) pre ∙ append-nil front in
    let n = core_numbers text p.major p.minor p.patch e w.form.major w.form.minor w.form.patch in
    (rw (n, not_any p.major w.form.major, not_any p.minor w.form.minor, not_any p.patch w.form.patch) refl, pre)

-- and of one value
short_whole : (text : List ℕ) (p : Parts) → is_short text ≡ true → IsVersionWritten text p → partial_of (values text) ≡ Full (without_build (version_of p))
short_whole text p is w = let s = short_written text p is w in rw (s.0, s.1) refl

abbrev full : Fields → Partial
full v = Full (without_build v)

pub written : (text : List ℕ) (v : Fields) (s : Spells text v) → IsVersionWritten text s.parts
written text v s = record { joined = s.joined; form = s.form }

-- A partial stands for one value.
pub one_partial : (text : List ℕ) (p q : Partial) → IsPartial text p → IsPartial text q → p ≡ q
one_partial text p q (inl x) (inl y) = x.1 ∙ sym y.1
one_partial text p q (inl x) (inr y) = x.1 ∙ short_whole text y.spelled.parts x.0 (written text y.version y.spelled) ∙ ap full (sym y.spelled.values) ∙ sym y.is
one_partial text p q (inr x) (inl y) = sym (y.1 ∙ short_whole text x.spelled.parts y.0 (written text x.version x.spelled) ∙ ap full (sym x.spelled.values) ∙ sym x.is)
one_partial text p q (inr x) (inr y) = x.is ∙ ap full (one_reading text x.version y.version x.spelled y.spelled) ∙ sym y.is

-- The parts that count are one list.
counted_alike : (text : List ℕ) (p : Parts) (a b : List (List ℕ)) → is_short text ≡ true → a ≡ before_any (numbers text) → IsVersionWritten text p → b ≡ p.major ∷ p.minor ∷ p.patch ∷ p.pre → a ≡ b
counted_alike text p a b is x w y =
    let s = short_written text p is w in
    x ∙ s.0 ∙ ap (λ (pre : List (List ℕ)). p.major ∷ p.minor ∷ p.patch ∷ pre) (sym s.1) ∙ sym y

pub one_counted : (text : List ℕ) (a b : List (List ℕ)) → AreCounted text a → AreCounted text b → a ≡ b
one_counted text a b (inl x) (inl y) = x.1 ∙ sym y.1
one_counted text a b (inl x) (inr y) = counted_alike text y.0 a b x.0 x.1 y.1 y.2
one_counted text a b (inr x) (inl y) = sym (counted_alike text x.0 b a y.0 y.1 x.1 x.2)
one_counted text a b (inr x) (inr y) =
    let n = one_parts x.0 y.0 x.1.form y.1.form (sym x.1.joined ∙ y.1.joined) in
    x.2 ∙ cc (n.0, n.1, n.2, n.3) ∙ sym y.2

-- A piece is one construct,
reads_one : (piece : Written Kind) (c d : Construct) → ReadsAs piece c → ReadsAs piece d → c ≡ d
reads_one piece c d p q =
    let operators = one_operator piece.kind piece.bytes c.operator d.operator p.operator q.operator in
    let partials = one_partial (partial_text piece) c.partial d.partial p.partial q.partial in
    λ i. record { operator = operators i; partial = partials i }

-- and its first numeral past the limit begins at one place.
some_of : (a b : ℕ) → Some a ≡ Some b → a ≡ b
some_of a b e = cc e

past_one : (piece : Written Kind) (a b : ℕ) → IsPast piece a → IsPast piece b → a ≡ b
past_one piece a b p q =
    let same = one_counted (partial_text piece) p.parts q.parts p.counted q.counted in
    some_of a b (sym p.first ∙ ap (first_past_part (partial_place piece)) same ∙ q.first)

pub npm_pieces : PieceLaws ReadsAs IsPast
npm_pieces = record { reads_one = reads_one; past_one = past_one; past_reads = λ piece at p. (p.construct, p.reads) }

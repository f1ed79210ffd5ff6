-- Parts of a text between marks, one after the other.
use Rattle.std.proofs.Common.{◌≡◌, ◌≢◌, ◌<◌, ◌≤◌, ◌+◌, ◌++◌, ◌||◌, eqb, cond, not, ℕ, Bool, true, false, true≢false, List, [], ◌∷◌, length, refl, sym, ap, subst, ◌∙◌, inl, inr, arith, Option, Some, None, append_assoc, length-append}
use Rattle.std.specs.Prelude.{codes, count_by, filter}
use Rattle.std.specs.List.{AllByRecursion, join_with_byte, list_all, list_any, slice_split}
use Rattle.std.proofs.lemmas.Bool.{and_from, and_parts, cases_Bool, ne_eqb}
use Rattle.std.proofs.lemmas.Bool.Decides.{nat_tests}
use Rattle.std.proofs.lemmas.List.Elements.{filter-append}
use Rattle.std.proofs.lemmas.Slice.Eq.{bytes_eq-Decides}
use Rattle.std.proofs.lemmas.List.Sums.{sum_by-cons}
use Rattle.std.proofs.lemmas.List.Splits.{join_with_byte-slice_split}
use Rattle.vx_spec.specs.Marks.{IsCut, Lacks}
use Rattle.vx_spec.specs.Runs.{is_solid}
use Rattle.vx_spec.proofs.EndLaws.{lacks_by}
use Rattle.vx_text.proofs.Joins.{split_lacks, split_some}
use Rattle.vx_text.specs.Pieces.{kept_parts}
use Rattle.vx_vers.specs.Grammar.{AreParts, HasStar, NoStar}
use Rattle.vx_vers.specs.Heads.{solid}
use Rattle.vx_vers.specs.Steps.Reading.{IsPlainIf, is_plain, is_some_part, is_star}
use Rattle.vx_vers.proofs.HeadLaws.{all_behind}

-- how many bytes what is left has, with its mark
abbrev pub left : Option (List ℕ) → ℕ
left None = 0
left (Some text) = length text + 1

pub shorter : (c : ℕ) (text front : List ℕ) (behind : Option (List ℕ)) → IsCut c text front behind → left behind < left (Some text)
shorter c text front None cut = omega arith
shorter c text front (Some rest) cut = omega (arith, ap length cut.joined, length-append front (c ∷ rest))

-- ---- leaving a byte out

abbrev pub is_other : ℕ → ℕ → Bool
is_other c b = not (eqb b c)

abbrev pub others : ℕ → Option (List ℕ) → List ℕ
others c None = []
others c (Some text) = filter (is_other c) text

same_byte : (c : ℕ) → eqb c c ≡ true
same_byte c = grind (arith, nat_tests)

others_lack : (c : ℕ) (text : List ℕ) → Lacks c text → filter (is_other c) text ≡ text
others_lack c [] lacks = refl
others_lack c (b ∷ text) lacks = rw (ne_eqb b c lacks.0) (ap (λ (t : List ℕ). b ∷ t) (others_lack c text lacks.1))

pub others_cut : (c : ℕ) (text front : List ℕ) (behind : Option (List ℕ)) → IsCut c text front behind → filter (is_other c) text ≡ front ++ others c behind
others_cut c text front None cut = ap (filter (is_other c)) cut.joined ∙ filter-append (is_other c) front [] ∙ ap (λ (t : List ℕ). t ++ []) (others_lack c front cut.first)
others_cut c text front (Some rest) cut =
    ap (filter (is_other c)) cut.joined ∙ filter-append (is_other c) front (c ∷ rest)
    ∙ ap (λ (t : List ℕ). t ++ filter (is_other c) (c ∷ rest)) (others_lack c front cut.first)
    ∙ ap (λ (t : List ℕ). front ++ t) (rw (same_byte c) refl)

-- one part more is appended
pub others_more : (c : ℕ) (out text front all : List ℕ) (behind : Option (List ℕ)) → IsCut c text front behind → out ++ others c (Some text) ≡ all → (out ++ front) ++ others c behind ≡ all
others_more c out text front all behind cut e =
    append_assoc out front (others c behind) ∙ ap (λ (t : List ℕ). out ++ t) (sym (others_cut c text front behind cut)) ∙ e

-- spaces and then tabs are the blanks
both_left_out : (text : List ℕ) → filter (is_other 9) (filter (is_other 32) text) ≡ solid text
both_left_out [] = refl
both_left_out (b ∷ text) = elim (cases_Bool (eqb b 32)) [
  | inl space ↦ rw space (both_left_out text)
  | inr other ↦ rw other (elim (cases_Bool (eqb b 9)) [
    | inl tab ↦ rw tab (both_left_out text)
    | inr solid ↦ rw solid (ap (λ (t : List ℕ). b ∷ t) (both_left_out text))
  ])
]

-- what stands behind a space, without its blanks
abbrev pub solid_behind : Option (List ℕ) → List ℕ
solid_behind None = []
solid_behind (Some text) = solid text

tabs_behind : (behind : Option (List ℕ)) → filter (is_other 9) (others 32 behind) ≡ solid_behind behind
tabs_behind None = refl
tabs_behind (Some text) = both_left_out text

-- one part more is appended, without its tabs
pub solid_more : (out text front all : List ℕ) (behind : Option (List ℕ)) → IsCut 32 text front behind → out ++ solid text ≡ all → (out ++ filter (is_other 9) front) ++ solid_behind behind ≡ all
solid_more out text front all behind cut e =
    append_assoc out (filter (is_other 9) front) (solid_behind behind)
    ∙ ap (λ (t : List ℕ). out ++ (filter (is_other 9) front ++ t)) (sym (tabs_behind behind))
    ∙ ap (λ (t : List ℕ). out ++ t) (sym (filter-append (is_other 9) front (others 32 behind)))
    ∙ ap (λ (t : List ℕ). out ++ filter (is_other 9) t) (sym (others_cut 32 text front behind cut))
    ∙ ap (λ (t : List ℕ). out ++ t) (both_left_out text) ∙ e

-- ---- parts that are not empty

pub kept_more : (part : List ℕ) (parts : List (List ℕ)) → kept_parts (part ∷ parts) ≡ kept_parts (part ∷ []) ++ kept_parts parts
kept_more [] parts = refl
kept_more (b ∷ part) parts = refl

abbrev one_if_some : List ℕ → ℕ
one_if_some part = cond (is_some_part part) 1 0

-- how many there are
pub counted_parts : (parts : List (List ℕ)) → count_by is_some_part parts ≡ length (kept_parts parts)
counted_parts [] = refl
counted_parts ([] ∷ parts) = counted_parts parts
counted_parts ((b ∷ part) ∷ parts) =
    let some : eqb (length (b ∷ part)) 0 ≡ false = ne_eqb (length (b ∷ part)) 0 (omega arith) in
    let here : one_if_some (b ∷ part) ≡ 1 = rw some refl in
    omega (arith, here, sum_by-cons one_if_some (b ∷ part) parts, counted_parts parts)

or_parts : (a b : Bool) → (a || b) ≡ false → (a ≡ false) × (b ≡ false)
or_parts true b e = cc e
or_parts false b e = (refl, e)

-- whether one is `*`
star_part : (part : List ℕ) → is_star part ≡ true → part ≡ codes "*"
star_part part t = (bytes_eq-Decides part (codes "*")).0 t

pub starred : (parts : List (List ℕ)) → list_any is_star parts ≡ true → HasStar (kept_parts parts)
starred [] t = cc t
starred ([] ∷ parts) t = starred parts t
starred ((b ∷ part) ∷ parts) t = elim (cases_Bool (is_star (b ∷ part))) [
  | inl is ↦ inl (star_part (b ∷ part) is)
  | inr other ↦ inr (starred parts (sym (ap (λ v. v || list_any is_star parts) other) ∙ t))
]

pub starless : (parts : List (List ℕ)) → list_any is_star parts ≡ false → NoStar (kept_parts parts)
starless [] t = tt
starless ([] ∷ parts) t = starless parts t
starless ((b ∷ part) ∷ parts) t =
    let none = or_parts (is_star (b ∷ part)) (list_any is_star parts) t in
    (λ e. true≢false (sym ((bytes_eq-Decides (b ∷ part) (codes "*")).1 e) ∙ none.0), starless parts none.1)

-- where no byte is that of `*`, no part is
apart : (c : ℕ) (a b : List ℕ) → Lacks c (a ++ b) → Lacks c a × Lacks c b
apart c [] b lacks = (tt, lacks)
apart c (x ∷ a) b lacks = let h = apart c a b lacks.1 in ((lacks.0, h.0), h.1)

parts_lack : (c mark : ℕ) (parts : List (List ℕ)) → Lacks c (join_with_byte mark parts) → AllByRecursion (Lacks c) parts
parts_lack c mark [] lacks = tt
parts_lack c mark (part ∷ []) lacks = (lacks, tt)
parts_lack c mark (part ∷ next ∷ parts) lacks = let h = apart c part (mark ∷ join_with_byte mark (next ∷ parts)) lacks in (h.0, parts_lack c mark (next ∷ parts) h.1.1)

no_star_part : (part : List ℕ) → Lacks 42 part → is_star part ≡ false
no_star_part part lacks = elim (cases_Bool (is_star part)) [
  | inl is ↦ absurd ((subst (Lacks 42) (star_part part is) lacks).0 refl)
  | inr other ↦ other
]

no_stars : (parts : List (List ℕ)) → AllByRecursion (Lacks 42) parts → list_any is_star parts ≡ false
no_stars [] lack = refl
no_stars (part ∷ parts) lack = rw (no_star_part part lack.0) (no_stars parts lack.1)

pub plain_lacks : (c : ℕ) → is_plain c ≡ false → (text : List ℕ) → list_all is_plain text ≡ true → Lacks c text
plain_lacks c other text all = lacks_by is_plain c other text all

pub plain_no_star : (text : List ℕ) → list_all is_plain text ≡ true → NoStar (kept_parts (slice_split (λ b. eqb b 124) text))
plain_no_star text all =
    let parts : List (List ℕ) = slice_split (λ b. eqb b 124) text in
    starless parts (no_stars parts (parts_lack 42 124 parts (subst (Lacks 42) (sym (join_with_byte-slice_split 124 text)) (plain_lacks 42 refl text all))))

-- a plain byte is no blank
plain_byte : (b : ℕ) → is_plain b ≡ true → is_solid b ≡ true
plain_byte b plain = grind (arith, nat_tests)

pub plain_solid : (text : List ℕ) → list_all is_plain text ≡ true → list_all is_solid text ≡ true
plain_solid [] all = refl
plain_solid (b ∷ text) all =
    let a = and_parts (is_plain b) (list_all is_plain text) all in
    and_from (is_solid b) (list_all is_solid text) (plain_byte b a.0) (plain_solid text a.1)

-- what stands in front of something, and behind it
pub all_front : (test : ℕ → Bool) (front rest : List ℕ) → list_all test (front ++ rest) ≡ true → list_all test front ≡ true
all_front test [] rest all = refl
all_front test (b ∷ front) rest all =
    let a = and_parts (test b) (list_all test (front ++ rest)) all in
    and_from (test b) (list_all test front) a.0 (all_front test front rest a.1)

pub all_rest : (test : ℕ → Bool) (front rest : List ℕ) → list_all test (front ++ rest) ≡ true → list_all test rest ≡ true
all_rest test [] rest all = all
all_rest test (b ∷ front) rest all = all_rest test front rest (and_parts (test b) (list_all test (front ++ rest)) all).1

-- where the text is plain, so is what is left of it
abbrev pub IsPlainLeft : Bool → Option (List ℕ) → Type 0
IsPlainLeft plain None = Unit {0}
IsPlainLeft plain (Some text) = IsPlainIf plain text

pub plain_part : (plain : Bool) (c : ℕ) (text front : List ℕ) (behind : Option (List ℕ)) → IsCut c text front behind → IsPlainIf plain text → IsPlainIf plain front
plain_part plain c text front None cut is = λ p. all_front is_plain front [] (subst (λ t. list_all is_plain t ≡ true) cut.joined (is p))
plain_part plain c text front (Some rest) cut is = λ p. all_front is_plain front (c ∷ rest) (subst (λ t. list_all is_plain t ≡ true) cut.joined (is p))

pub plain_behind : (plain : Bool) (c : ℕ) (text front : List ℕ) (behind : Option (List ℕ)) → IsCut c text front behind → IsPlainIf plain text → IsPlainLeft plain behind
plain_behind plain c text front None cut is = tt
plain_behind plain c text front (Some rest) cut is = λ p. all_behind is_plain front rest c (subst (λ t. list_all is_plain t ≡ true) cut.joined (is p))

pub star_counts : (written : List (List ℕ)) → HasStar written → 1 ≤ length written
star_counts [] star = absurd star
star_counts (text ∷ written) star = omega arith

-- a text that is not empty
pub some_bytes : (raw : List ℕ) (empty : Bool) → empty ≡ eqb (length raw) 0 → empty ≡ false → raw ≢ []
some_bytes [] empty is other = absurd (cc)
some_bytes (b ∷ raw) empty is other = λ e. cc

-- the parts between the bars that are not empty are the written constraints
pub split_parts : (text : List ℕ) (written : List (List ℕ)) → written ≡ kept_parts (slice_split (λ b. eqb b 124) text) → AreParts text written
split_parts text written e = record {
  parts = slice_split (λ b. eqb b 124) text;
  some = split_some 124 text;
  joined = sym (join_with_byte-slice_split 124 text);
  apart = split_lacks 124 text;
  counted = e;
}

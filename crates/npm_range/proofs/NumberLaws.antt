-- The numbers between dots, from left to right.
use Rattle.std.proofs.Common.{◌≡◌, ◌<◌, ◌≤◌, ◌+◌, ◌^◌, not, ℕ, List, [], ◌∷◌, length, map, suc, Bool, ◌&&◌, true, false, refl, sym, ap, ◌∙◌, Option, Some, None, arith, eqb, ltb}
use Rattle.std.specs.List.{count_by, list_all}
use Rattle.std.proofs.lemmas.Bool.{and_parts, ltb-true, le-ltb, lt-ltb}
use Rattle.std.proofs.lemmas.Bool.Decides.{nat_tests}
use Rattle.std.proofs.lemmas.List.{length-map}
use Rattle.std.proofs.lemmas.List.Splits.{length-slice_split}
use Rattle.vx_spec.specs.Marks.{IsCut}
use Rattle.vx_spec.specs.Numerals.{is_numeral, value}
use Rattle.vx_order.specs.PastParts.{first_past_part}
use Rattle.npm_scheme.specs.Spelling.{has_leading_zero}
use Rattle.npm_range.specs.declared.partials.Numbers.{Numbers}
use Rattle.npm_range.specs.Reading.{is_any, is_number, numbers, is_short, before_any, values}
use Rattle.npm_range.specs.Steps.Numbers.{values_in, past_of, past_in}
use Rattle.npm_range.specs.Laws.Pieces.{split_none, split_some}
use Rattle.npm_range.proofs.LimitLaws.{before_any_most}

-- what stands behind the first dot
abbrev pub numbers_behind : Option (List ℕ) → List (List ℕ)
numbers_behind None = []
numbers_behind (Some text) = numbers text

-- the first of the numbers is what stands before the first dot
pub split_first : (text front : List ℕ) (behind : Option (List ℕ)) → IsCut 46 text front behind → numbers text ≡ front ∷ numbers_behind behind
split_first text front None c = split_none text front c
split_first text front (Some b) c = split_some text front b c

module _ (text front : List ℕ) (behind : Option (List ℕ)) (cut : IsCut 46 text front behind) where
  first_is_number : list_all is_number (numbers text) ≡ true → (is_number front ≡ true) × (list_all is_number (numbers_behind behind) ≡ true)
  first_is_number all = and_parts (is_number front) (list_all is_number (numbers_behind behind)) (sym (ap (list_all is_number) (split_first text front behind cut)) ∙ all)

  pub first_numeral : list_all is_number (numbers text) ≡ true → is_any front ≡ false → is_numeral front ≡ true
  first_numeral all other = (and_parts (is_numeral front) (not (has_leading_zero front)) (rw other at (first_is_number all).0)).0

  pub none_counts : is_any front ≡ true → before_any (numbers text) ≡ []
  none_counts is = ap before_any (split_first text front behind cut) ∙ (rw is refl)

  pub first_counts : is_any front ≡ false → before_any (numbers text) ≡ front ∷ before_any (numbers_behind behind)
  first_counts other = ap before_any (split_first text front behind cut) ∙ (rw other refl)

  pub any_leads : (at : ℕ) → is_any front ≡ true → (values text ≡ []) × (past_of at text ≡ None)
  any_leads at is = (ap (map value) (none_counts is), ap (first_past_part at) (none_counts is))

  pub past_leads : (at : ℕ) → is_any front ≡ false → is_numeral front ≡ true → 2 ^ 128 ≤ value front → past_of at text ≡ Some at
  past_leads at other is large = ap (first_past_part at) (first_counts other) ∙ (rw (is, le-ltb (value front) (2 ^ 128) large) refl)

  pub first_value : is_any front ≡ false → values text ≡ value front ∷ map value (before_any (numbers_behind behind))
  first_value other = ap (map value) (first_counts other)

  pub first_within : (at : ℕ) → is_any front ≡ false → is_numeral front ≡ true → value front < 2 ^ 128 → past_of at text ≡ first_past_part (at + length front + 1) (before_any (numbers_behind behind))
  first_within at other is small = ap (first_past_part at) (first_counts other) ∙ (rw (is, lt-ltb (value front) (2 ^ 128) small) refl)

  pub rest_numbers : list_all is_number (numbers text) ≡ true → list_all is_number (numbers_behind behind) ≡ true
  rest_numbers all = (first_is_number all).1

-- ---- one to three numbers
-- the text is numbers, of which there are so many at most
abbrev pub are_at_most : ℕ → List ℕ → Bool
are_at_most most text = list_all is_number (numbers text) && ltb (length (numbers text)) (most + 1)

both_less : (n m : ℕ) → ltb (suc n) (m + 1) ≡ ltb n m
both_less n m = grind (arith, nat_tests)

module _ (text front : List ℕ) where
  pub no_number : (behind : Option (List ℕ)) → IsCut 46 text front behind → is_number front ≡ false → (most : ℕ) → are_at_most most text ≡ false
  no_number behind cut none most = rw (split_first text front behind cut, none) refl

  pub one_number : IsCut 46 text front None → is_number front ≡ true → (most : ℕ) → are_at_most (most + 1) text ≡ true
  one_number cut is most = rw (split_first text front None cut, is) (lt-ltb 1 (most + 1 + 1) (omega arith))

  pub more_numbers : (behind : List ℕ) → IsCut 46 text front (Some behind) → is_number front ≡ true → (most : ℕ) → are_at_most (most + 1) text ≡ are_at_most most behind
  more_numbers behind cut is most = rw (split_first text front (Some behind) cut, is) (ap (λ (b : Bool). list_all is_number (numbers behind) && b) (both_less (length (numbers behind)) (most + 1)))

pub short_at_most : (most : ℕ) (text : List ℕ) → most ≡ 3 → is_short text ≡ are_at_most most text
short_at_most most text e = rw e refl

no_less : (b : Bool) (n : ℕ) → b && ltb (n + 1) 1 ≡ false
no_less b n = grind (arith, nat_tests)

pub none_at_most : (text : List ℕ) → are_at_most 0 text ≡ false
none_at_most text = rw (length-slice_split (λ (b : ℕ). eqb b 46) text) (no_less (list_all is_number (numbers text)) (count_by (λ (b : ℕ). eqb b 46) text))

-- no number is left behind the third
no_values : (parts : List (List ℕ)) (at : ℕ) → length (map value parts) < 1 → first_past_part at parts ≡ None
no_values [] at less = refl
no_values (part ∷ parts) at less = absurd (omega (arith, less))

none_left : (rest : Option Numbers) → length (values_in rest) < 1 → past_in rest ≡ None
none_left None less = refl
none_left (Some n) less = no_values (before_any (numbers n.text.now)) n.at less

pub third_last : (text : List ℕ) (a b c : ℕ) (rest : Option Numbers) → is_short text ≡ true → values text ≡ a ∷ b ∷ c ∷ values_in rest → past_in rest ≡ None
third_last text a b c rest is e =
    let few = ltb-true (length (numbers text)) 4 (and_parts (list_all is_number (numbers text)) (ltb (length (numbers text)) 4) is).1 in
    none_left rest (omega (arith, few, before_any_most (numbers text), length-map (before_any (numbers text)) value, ap length e))

pub all_numbers_of : (text : List ℕ) → is_short text ≡ true → list_all is_number (numbers text) ≡ true
all_numbers_of text is = (and_parts (list_all is_number (numbers text)) (ltb (length (numbers text)) 4) is).0

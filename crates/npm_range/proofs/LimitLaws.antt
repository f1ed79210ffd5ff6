-- What is read is within the limit exactly where no numeral that counts is past it.
use Rattle.std.proofs.Common.{◌≡◌, ◌↔◌, ◌<◌, ◌≤◌, ◌^◌, ◌+◌, not, ℕ, List, [], ◌∷◌, length, map, true, false, refl, sym, ap, ◌∙◌, subst, inl, inr, Option, Some, None, arith, ltb}
use Rattle.std.specs.List.{AllByRecursion, list_all}
use Rattle.std.proofs.lemmas.Bool.{cases_Bool, and_parts, ltb-true}
use Rattle.std.proofs.lemmas.List.{length-map}
use Rattle.vx_spec.specs.Numerals.{is_numeral, value}
use Rattle.vx_range.specs.Pieces.{Written}
use Rattle.vx_order.specs.PastParts.{first_past_part, is_past_numeral}
use Rattle.vx_order.proofs.PastPartLaws.{fine, not_past}
use Rattle.npm_scheme.specs.Version.{without_build}
use Rattle.npm_scheme.specs.Spelling.{has_leading_zero, version_of}
use Rattle.npm_scheme.proofs.PastLaws.{none_within, within_none}
use Rattle.npm_range.specs.declared.cutting.Kind.{Kind}
use Rattle.npm_range.specs.declared.construct.Construct.{Construct}
use Rattle.npm_range.specs.declared.construct.Partial.{Partial}
use Rattle.npm_range.specs.declared.construct.Partial.TheVariants.{Full}
use Rattle.npm_range.specs.Reading.{is_any, is_number, numbers, is_short, before_any, values, partial_of, IsPartial, partial_text, ReadsAs}
use Rattle.npm_range.specs.Refusals.{AreCounted, partial_place, IsPast, PartialIsWithin}
use Rattle.npm_range.specs.Laws.Pieces.{one_counted, written}
use Rattle.npm_range.proofs.PartialLaws.{none_past}

-- ---- one to three numbers

-- the parts are numerals
abbrev AreNumerals : List (List ℕ) → Type 0
AreNumerals parts = AllByRecursion (λ part. is_numeral part ≡ true) parts

numeral_of : (part : List ℕ) → is_number part ≡ true → is_any part ≡ false → is_numeral part ≡ true
numeral_of part is other = (and_parts (is_numeral part) (not (has_leading_zero part)) (rw other at is)).0

are_numerals : (parts : List (List ℕ)) → list_all is_number parts ≡ true → AreNumerals (before_any parts)
are_numerals [] all = tt
are_numerals (part ∷ parts) all = elim (cases_Bool (is_any part)) [
  | inl is ↦ rw is tt
  | inr other ↦ let a = and_parts (is_number part) (list_all is_number parts) all in rw other (numeral_of part a.0 other, are_numerals parts a.1)
]

all_within : (at : ℕ) (parts : List (List ℕ)) → AreNumerals parts → first_past_part at parts ≡ None → AllByRecursion (λ n. n < 2 ^ 128) (map value parts)
all_within at [] are none = tt
all_within at (part ∷ parts) are none = elim (cases_Bool (is_past_numeral part)) [
  | inl past ↦ absurd (cc (rw past at none))
  | inr other ↦ (fine part are.0 other, all_within (at + length part + 1) parts are.1 (rw other at none))
]

none_past_of : (at : ℕ) (parts : List (List ℕ)) → AreNumerals parts → AllByRecursion (λ n. n < 2 ^ 128) (map value parts) → first_past_part at parts ≡ None
none_past_of at [] are all = refl
none_past_of at (part ∷ parts) are all = rw (not_past part all.0) (none_past_of (at + length part + 1) parts are.1 all.1)

partial_within : (ns : List ℕ) → AllByRecursion (λ n. n < 2 ^ 128) ns → PartialIsWithin (partial_of ns)
partial_within [] all = tt
partial_within (a ∷ []) all = all.0
partial_within (a ∷ b ∷ []) all = (all.0, all.1.0)
partial_within (a ∷ b ∷ c ∷ ns) all = (all.0, all.1.0, all.1.1.0, tt)

within_partial : (ns : List ℕ) → length ns < 4 → PartialIsWithin (partial_of ns) → AllByRecursion (λ n. n < 2 ^ 128) ns
within_partial [] few is = tt
within_partial (a ∷ []) few is = (is, tt)
within_partial (a ∷ b ∷ []) few is = (is.0, (is.1, tt))
within_partial (a ∷ b ∷ c ∷ []) few is = (is.0, (is.1, (is.2, tt)))
within_partial (a ∷ b ∷ c ∷ d ∷ ns) few is = absurd (omega (arith, few))

pub before_any_most : (parts : List (List ℕ)) → length (before_any parts) ≤ length parts
before_any_most [] = omega arith
before_any_most (part ∷ parts) = elim (cases_Bool (is_any part)) [
  | inl is ↦ rw is (omega arith)
  | inr other ↦ rw other (omega (arith, before_any_most parts))
]

short_agrees : (at : ℕ) (text : List ℕ) → is_short text ≡ true → PartialIsWithin (partial_of (values text)) ↔ (first_past_part at (before_any (numbers text)) ≡ None)
short_agrees at text is =
    let a = and_parts (list_all is_number (numbers text)) (ltb (length (numbers text)) 4) is in
    let are = are_numerals (numbers text) a.0 in
    let few : length (values text) < 4 = omega (arith, ltb-true _ _ a.1, before_any_most (numbers text), length-map (before_any (numbers text)) value) in (
      λ within. none_past_of at (before_any (numbers text)) are (within_partial (values text) few within),
      λ none. partial_within (values text) (all_within at (before_any (numbers text)) are none),
    )

-- ---- partials

counted_agrees : (at : ℕ) (text : List ℕ) (p : Partial) (parts : List (List ℕ)) → IsPartial text p → AreCounted text parts → PartialIsWithin p ↔ (first_past_part at parts ≡ None)
counted_agrees at text p parts (inl x) counted =
    let same = one_counted text parts (before_any (numbers text)) counted (inl (x.0, refl)) in
    let agrees = short_agrees at text x.0 in (
      λ within. ap (first_past_part at) same ∙ agrees.0 (subst PartialIsWithin x.1 within),
      λ none. subst PartialIsWithin (sym x.1) (agrees.1 (sym (ap (first_past_part at) same) ∙ none)),
    )
counted_agrees at text p parts (inr x) counted =
    let ps = x.spelled.parts in
    let same = one_counted text parts (ps.major ∷ ps.minor ∷ ps.patch ∷ ps.pre) counted (inr (ps, written text x.version x.spelled, refl)) in
    let e : p ≡ Full (without_build (version_of ps)) = x.is ∙ ap (λ v. Full (without_build v)) x.spelled.values in (
      λ within. ap (first_past_part at) same ∙ within_none ps at (subst PartialIsWithin e within),
      λ none. subst PartialIsWithin (sym e) (none_within ps at x.spelled.form (sym (ap (first_past_part at) same) ∙ none)),
    )

-- the parts of a partial that count
counted_of : (text : List ℕ) (p : Partial) → IsPartial text p → (parts : List (List ℕ)) × AreCounted text parts
counted_of text p (inl x) = (before_any (numbers text), inl (x.0, refl))
counted_of text p (inr x) = let ps = x.spelled.parts in (ps.major ∷ ps.minor ∷ ps.patch ∷ ps.pre, inr (ps, written text x.version x.spelled, refl))

no_some : (answer : Option ℕ) → ((at : ℕ) → answer ≡ Some at → ⊥) → answer ≡ None
no_some None none = refl
no_some (Some at) none = absurd (none at refl)

pub limits_agree : (piece : Written Kind) (c : Construct) → ReadsAs piece c → PartialIsWithin c.partial ↔ ((at : ℕ) → ¬ (IsPast piece at))
limits_agree piece c reads =
    let counted = counted_of (partial_text piece) c.partial reads.partial in
    let agrees = counted_agrees (partial_place piece) (partial_text piece) c.partial counted.0 reads.partial counted.1 in (
      λ within. none_past piece (counted.0, counted.1, agrees.0 within),
      λ none. agrees.1 (no_some (first_past_part (partial_place piece) counted.0) (λ at is. none at (record { construct = c; reads = reads; parts = counted.0; counted = counted.1; first = is }))),
    )

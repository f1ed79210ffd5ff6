-- Where among parts the first numeral past the limit begins, and that identifiers are within the limit where there is none.
use Rattle.std.proofs.Common.{◌≡◌, ◌<◌, ◌+◌, ◌^◌, ℕ, true, false, List, [], ◌∷◌, length, map, refl, ap, ◌∙◌, inl, inr, Option, Some, None, arith, nat_lt}
use Rattle.std.specs.List.{AllByRecursion}
use Rattle.std.proofs.lemmas.Bool.{cases_Bool, ltb-true, lt-ltb}
use Rattle.vx_spec.specs.Marks.{IsCut}
use Rattle.vx_spec.specs.Numerals.{is_numeral, value}
use Rattle.vx_spec.specs.Signs.{dot}
use Rattle.vx_order.specs.Dotted.{dotted, pieces}
use Rattle.vx_order.specs.Identifiers.{IdentIsWithin, identifier_of}
use Rattle.vx_order.specs.PastParts.{first_past_part, is_past_numeral}
use Rattle.vx_order.specs.Laws.Dotted.{pieces_cut}

-- ---- the parts from left to right

pub past_here : (at : ℕ) (part : List ℕ) (parts : List (List ℕ)) → is_past_numeral part ≡ true → first_past_part at (part ∷ parts) ≡ Some at
past_here at part parts is = rw is refl

pub past_next : (at at' : ℕ) (part : List ℕ) (parts : List (List ℕ)) → is_past_numeral part ≡ false → at' ≡ at + (length part + 1)
    → first_past_part at (part ∷ parts) ≡ first_past_part at' parts
past_next at at' part parts other place = let place' : at + length part + 1 ≡ at' = omega (arith, place) in rw other (ap (λ i. first_past_part i parts) place')

-- of the parts of a text, the one before the first dot
pub cut_here : (at : ℕ) (text front : List ℕ) (behind : Option (List ℕ)) → IsCut dot text front behind → is_past_numeral front ≡ true
    → first_past_part at (dotted text) ≡ Some at
cut_here at text front behind cut is = ap (first_past_part at) (pieces_cut (Some text) text front behind refl cut) ∙ past_here at front (pieces behind) is

pub cut_next : (at : ℕ) (text front : List ℕ) (behind : Option (List ℕ)) → IsCut dot text front behind → is_past_numeral front ≡ false
    → first_past_part at (dotted text) ≡ first_past_part (at + (length front + 1)) (pieces behind)
cut_next at text front behind cut other =
    ap (first_past_part at) (pieces_cut (Some text) text front behind refl cut) ∙ past_next at (at + (length front + 1)) front (pieces behind) other refl

pub cut_last : (at : ℕ) (text front : List ℕ) → IsCut dot text front None → is_past_numeral front ≡ false → first_past_part at (dotted text) ≡ None
cut_last at text front cut other = cut_next at text front None cut other

-- there is no first one exactly where the first part is none, nor the others
pub split_none : (at : ℕ) (part : List ℕ) (parts : List (List ℕ)) → first_past_part at (part ∷ parts) ≡ None → (is_past_numeral part ≡ false) × (first_past_part (at + length part + 1) parts ≡ None)
split_none at part parts none = elim (cases_Bool (is_past_numeral part)) [
  | inl is ↦ absurd (cc (rw is at none))
  | inr other ↦ (other, rw other at none)
]

pub join_none : (at : ℕ) (part : List ℕ) (parts : List (List ℕ)) → is_past_numeral part ≡ false → first_past_part (at + length part + 1) parts ≡ None → first_past_part at (part ∷ parts) ≡ None
join_none at part parts other none = rw other none

-- ---- one part

pub fine : (part : List ℕ) → is_numeral part ≡ true → is_past_numeral part ≡ false → value part < 2 ^ 128
fine part is other = elim (cases_Bool (nat_lt (value part) (2 ^ 128))) [
  | inl small ↦ ltb-true (value part) (2 ^ 128) small
  | inr large ↦ absurd (cc (rw (is, large) at other))
]

pub not_past : (part : List ℕ) → value part < 2 ^ 128 → is_past_numeral part ≡ false
not_past part small = elim (cases_Bool (is_numeral part)) [
  | inl is ↦ rw (is, lt-ltb (value part) (2 ^ 128) small) refl
  | inr other ↦ rw other refl
]

ident_fine : (part : List ℕ) → is_past_numeral part ≡ false → IdentIsWithin (identifier_of part)
ident_fine part other = elim (cases_Bool (is_numeral part)) [
  | inl is ↦ rw is (fine part is other)
  | inr word ↦ rw word tt
]

ident_not_past : (part : List ℕ) → IdentIsWithin (identifier_of part) → is_past_numeral part ≡ false
ident_not_past part = elim (cases_Bool (is_numeral part)) [
  | inl is ↦ rw is (λ small. rw (lt-ltb (value part) (2 ^ 128) small) refl)
  | inr word ↦ rw word (λ within. refl)
]

-- ---- identifiers

pub idents_fine : (at : ℕ) (parts : List (List ℕ)) → first_past_part at parts ≡ None → AllByRecursion IdentIsWithin (map identifier_of parts)
idents_fine at [] none = tt
idents_fine at (part ∷ parts) none = let r = split_none at part parts none in (ident_fine part r.0, idents_fine (at + length part + 1) parts r.1)

pub idents_none : (at : ℕ) (parts : List (List ℕ)) → AllByRecursion IdentIsWithin (map identifier_of parts) → first_past_part at parts ≡ None
idents_none at [] all = refl
idents_none at (part ∷ parts) all = join_none at part parts (ident_not_past part all.0) (idents_none (at + length part + 1) parts all.1)

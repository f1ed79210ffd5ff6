-- Where the first numeral past the limit begins, and that a version is within the limit where there is none.
use Rattle.std.proofs.Common.{◌≡◌, ◌↔◌, ◌<◌, ◌+◌, ◌++◌, ◌^◌, ℕ, zero, suc, true, List, [], ◌∷◌, length, refl, sym, ap, ◌∙◌, Option, Some, None, arith, nat_lt}
use Rattle.std.specs.List.{AllByRecursion, list_all}
use Rattle.std.specs.Option.{option_or}
use Rattle.std.proofs.lemmas.Bool.{and_parts, ltb-true}
use Rattle.vx_spec.specs.Marks.{IsCut, before_mark}
use Rattle.vx_spec.specs.Numerals.{is_numeral, value}
use Rattle.vx_spec.proofs.MarkLaws.{apart, cut_apart}
use Rattle.vx_spec.specs.Signs.{dot, hyphen, plus}
use Rattle.vx_order.specs.Dotted.{dotted, pieces, tail}
use Rattle.vx_order.specs.PastParts.{first_past_part}
use Rattle.vx_order.specs.Laws.Dotted.{front_lacks, identifiers_lack, pieces_together, tail_marked, together}
use Rattle.vx_order.proofs.PastPartLaws.{fine, idents_fine, idents_none, join_none, not_past, split_none}
use Rattle.nuget_scheme.specs.Version.{Fields, IsWithin}
use Rattle.nuget_scheme.specs.Spelling.{Parts, AreVersionParts, Spells, number_at, version_of, whole}
use Rattle.nuget_scheme.specs.Past.{first_past_front, past_numeral_of}
use Rattle.nuget_scheme.specs.Laws.Unique.{core, core_lacks_hyphen, core_lacks_plus, dotted_joined, numerals_lack}

-- ---- numbers

-- the numeral is within the limit
abbrev IsSmall : List ℕ → Type 0
IsSmall part = value part < 2 ^ 128

numbers_fine : (at : ℕ) (parts : List (List ℕ)) → list_all is_numeral parts ≡ true → first_past_part at parts ≡ None → AllByRecursion IsSmall parts
numbers_fine at [] all none = tt
numbers_fine at (part ∷ parts) all none =
    let r = split_none at part parts none in
    let a = and_parts (is_numeral part) (list_all is_numeral parts) all in
    (fine part a.0 r.0, numbers_fine (at + length part + 1) parts a.1 r.1)

numbers_none : (at : ℕ) (parts : List (List ℕ)) → AllByRecursion IsSmall parts → first_past_part at parts ≡ None
numbers_none at [] all = refl
numbers_none at (part ∷ parts) all = join_none at part parts (not_past part all.0) (numbers_none (at + length part + 1) parts all.1)

zero_small : 0 < 2 ^ 128
zero_small = omega arith

-- the number at a place is a part's, or 0
each_small : (parts : List (List ℕ)) → AllByRecursion IsSmall parts → (place : ℕ) → number_at place parts < 2 ^ 128
each_small [] all place = zero_small
each_small (part ∷ parts) all zero = all.0
each_small (part ∷ parts) all (suc place) = each_small parts all.1 place

-- four places are all
small_each : (parts : List (List ℕ)) → nat_lt (length parts) 5 ≡ true → number_at 0 parts < 2 ^ 128 → number_at 1 parts < 2 ^ 128 → number_at 2 parts < 2 ^ 128 → number_at 3 parts < 2 ^ 128
    → AllByRecursion IsSmall parts
small_each [] few a b c d = tt
small_each (w ∷ []) few a b c d = (a, tt)
small_each (w ∷ x ∷ []) few a b c d = (a, (b, tt))
small_each (w ∷ x ∷ y ∷ []) few a b c d = (a, (b, (c, tt)))
small_each (w ∷ x ∷ y ∷ z ∷ []) few a b c d = (a, (b, (c, (d, tt))))
small_each (w ∷ x ∷ y ∷ z ∷ more ∷ parts) few a b c d = absurd (omega (arith, ltb-true (length (w ∷ x ∷ y ∷ z ∷ more ∷ parts)) 5 few))

-- ---- the whole text

-- what is looked for in a front, where that is cut at its '-'
pub cut_at : (at : ℕ) (front numbers : List ℕ) (labels : Option (List ℕ)) → IsCut hyphen front numbers labels
    → first_past_front at front ≡ option_or (first_past_part at (dotted numbers)) (first_past_part (at + length numbers + 1) (pieces labels))
cut_at at front numbers labels cut = let r = cut_apart hyphen front numbers labels cut in rw (r.0, r.1) refl

-- what is looked for in a version's text is looked for among its numbers and then its labels
whole_parts : (at : ℕ) (p : Parts) → AreVersionParts p → past_numeral_of at (whole p) ≡ option_or (first_past_part at p.numbers) (first_past_part (at + length (core p) + 1) p.labels)
whole_parts at p form =
    let front = core p ++ tail hyphen p.labels in
    let before : before_mark plus (whole p) ≡ front = rw (tail_marked plus p.build) (apart plus front (together p.build) (front_lacks (core p) p.labels (core_lacks_plus p form) form.labels)).0 in
    let cut = cut_at at front (core p) (together p.labels) (record { joined = ap (λ (t : List ℕ). core p ++ t) (tail_marked hyphen p.labels); first = core_lacks_hyphen p form }) in
    let numbers = dotted_joined p.numbers form.some (numerals_lack dot refl p.numbers form.numerals) in
    let labels = pieces_together p.labels (identifiers_lack dot refl p.labels form.labels) in
    rw (before, cut, numbers, labels) refl

either : (a b : Option ℕ) → (option_or a b ≡ None) ↔ (a ≡ None) × (b ≡ None)
either None b = (λ e. (refl, e), λ h. h.1)
either (Some n) b = (λ e. absurd (cc e), λ h. absurd (cc h.0))

-- a version is within the limit exactly where none of its numerals is past it
parts_agree : (at : ℕ) (p : Parts) → AreVersionParts p → IsWithin (version_of p) ↔ (past_numeral_of at (whole p) ≡ None)
parts_agree at p form =
    let both = either (first_past_part at p.numbers) (first_past_part (at + length (core p) + 1) p.labels) in
    let same = whole_parts at p form in (
      λ w. same ∙ both.1 (numbers_none at p.numbers (small_each p.numbers form.few w.0 w.1 w.2 w.3), idents_none (at + length (core p) + 1) p.labels w.4),
      λ none.
          let r = both.0 (sym same ∙ none) in
          let small = numbers_fine at p.numbers form.numerals r.0 in
          (each_small p.numbers small 0, each_small p.numbers small 1, each_small p.numbers small 2, each_small p.numbers small 3, idents_fine (at + length (core p) + 1) p.labels r.1),
    )

pub limits_agree : (text : List ℕ) (v : Fields) (at : ℕ) → Spells text v → IsWithin v ↔ (past_numeral_of at text ≡ None)
limits_agree text v at s = rw (s.values, s.joined) (parts_agree at s.parts s.form)

-- The parts of a text that is cut at each mark, and the value behind a cut.
use Rattle.std.proofs.Common.{◌≡◌, ◌≢◌, ◌+◌, ◌++◌, ℕ, List, [], ◌∷◌, length, refl, sym, ap, ◌∙◌, arith, length-append, append-nil, Option, Some, None}
use Rattle.std.proofs.lemmas.Bool.{ne_eqb}
use Rattle.vx_spec.specs.Marks.{IsCut, Lacks}
use Rattle.vx_text.proofs.Joins.{parts_behind, split_cut}
use Rattle.purl_core.specs.Places.{placed_parts, places, value_in, with_sign}

value_front : (at : ℕ) (front value : List ℕ) → Lacks 61 front → value_in at (front ++ 61 ∷ value) ≡ (at + length front + 1, value) ∷ []
value_front at [] value lacks = ap (λ (i : ℕ). (i, value) ∷ []) (omega arith)
value_front at (b ∷ front) value lacks =
    let next : at + 1 + length front + 1 ≡ at + length (b ∷ front) + 1 = omega arith in
    rw (ne_eqb b 61 lacks.0) (value_front (at + 1) front value lacks.1 ∙ ap (λ (i : ℕ). (i, value) ∷ []) next)

pub value_none : (at : ℕ) (front : List ℕ) → Lacks 61 front → value_in at front ≡ []
value_none at [] lacks = refl
value_none at (b ∷ front) lacks = rw (ne_eqb b 61 lacks.0) (value_none (at + 1) front lacks.1)

pub value_cut : (at : ℕ) (piece front value : List ℕ) → IsCut 61 piece front (Some value) → value_in at piece ≡ (at + length front + 1, value) ∷ []
value_cut at piece front value cut = ap (value_in at) cut.joined ∙ value_front at front value cut.first

pub value_uncut : (at : ℕ) (piece front : List ℕ) → IsCut 61 piece front None → value_in at piece ≡ []
value_uncut at piece front cut = ap (value_in at) (cut.joined ∙ append-nil front) ∙ value_none at front cut.first

-- ---- one part more

first_place : (at : ℕ) (front : List ℕ) (parts : List (List ℕ)) → places at (front ∷ parts) ≡ places at (front ∷ []) ++ places (at + (length front + 1)) parts
first_place at [] parts = ap (λ (i : ℕ). places i parts) (omega arith)
first_place at (b ∷ front) parts = ap (λ (i : ℕ). (at, b ∷ front) ∷ places i parts) (omega arith)

places_behind : (at mark : ℕ) (x : Option (List ℕ)) → placed_parts at mark x ≡ places at (parts_behind mark x)
places_behind at mark None = refl
places_behind at mark (Some text) = refl

-- what is left of a cut text: its front, and the parts behind
left_is : (c at : ℕ) (text front : List ℕ) (behind : Option (List ℕ)) → IsCut c text front behind
    → placed_parts at c (Some text) ≡ places at (front ∷ []) ++ placed_parts (at + (length front + 1)) c behind
left_is c at text front behind cut =
    ap (places at) (split_cut c text front behind cut) ∙ first_place at front (parts_behind c behind)
    ∙ ap (λ (l : List (ℕ × List ℕ)). places at (front ∷ []) ++ l) (sym (places_behind (at + (length front + 1)) c behind))

-- an empty front is passed
pub passes_empty : (c at : ℕ) (text front : List ℕ) (behind : Option (List ℕ)) → IsCut c text front behind → length front ≡ 0
    → placed_parts at c (Some text) ≡ placed_parts (at + (length front + 1)) c behind
passes_empty c at text [] behind cut none = left_is c at text [] behind cut
passes_empty c at text (b ∷ front) behind cut none = absurd (omega (arith, none))

-- any other is the first part
pub takes_front : (c at : ℕ) (text front : List ℕ) (behind : Option (List ℕ)) → IsCut c text front behind → length front ≢ 0
    → placed_parts at c (Some text) ≡ (at, front) ∷ placed_parts (at + (length front + 1)) c behind
takes_front c at text [] behind cut some = absurd (some refl)
takes_front c at text (b ∷ front) behind cut some = left_is c at text (b ∷ front) behind cut

-- the bytes of a cut text
pub cut_size : (c : ℕ) (text front : List ℕ) (behind : Option (List ℕ)) → IsCut c text front behind → length text + 1 ≡ length front + 1 + with_sign behind
cut_size c text front None cut = omega (arith, ap length cut.joined, length-append front [])
cut_size c text front (Some rest) cut = omega (arith, ap length cut.joined, length-append front (c ∷ rest))

-- A text is cut in one way, and it is absurd that it is cut in none.
use Rattle.std.proofs.Common.{◌≡◌, ◌≢◌, ◌<◌, ◌+◌, ℕ, zero, suc, List, [], ◌∷◌, length, take, drop, ltb, true, false, refl, sym, ap, ◌∙◌, inl, inr, ◌⊎◌, arith, length-drop}
use Rattle.std.proofs.lemmas.Bool.{cases_Bool, ltb-true, ltb-false}
use Rattle.vx_spec.specs.Runs.{is_blank, is_solid, begins, past}
use Rattle.vx_spec.proofs.RunLaws.{past_begins, past_stays, past_most, past_less}
use Rattle.vx_range.specs.Pieces.{Written}
use Rattle.vx_range.specs.Reading.{CutLaws}
use Rattle.npm_range.specs.declared.cutting.Kind.{Kind}
use Rattle.npm_range.specs.Cutting.{is_sign, place, piece_from, behind_piece, first_piece, ArePieces, IsHyphenRange, sides, IsMadeOf, IsCutAtBars, AreAlternatives, IsCut}
use Rattle.npm_range.specs.Steps.Bars.{before_bars}
use Rattle.npm_range.specs.Laws.Bars.{one_cut_at_bars, cut_has, cut_found, none_found, before_most, two_within}

-- ---- one cut

one_pieces : (at : ℕ) (text : List ℕ) (ps qs : List (Written Kind)) → ArePieces at text ps → ArePieces at text qs → ps ≡ qs
one_pieces at text [] [] p q = refl
one_pieces at text [] (b ∷ qs) p q = absurd (q.0 p)
one_pieces at text (a ∷ ps) [] p q = absurd (p.0 q)
one_pieces at text (a ∷ ps) (b ∷ qs) p q = cc (p.1, q.1, one_pieces (place at text (behind_piece text)) (behind_piece text) ps qs p.2 q.2)

one_made_of : (at : ℕ) (text : List ℕ) (ps qs : List (Written Kind)) → IsMadeOf at text ps → IsMadeOf at text qs → ps ≡ qs
one_made_of at text ps qs (inl p) (inl q) = p.1 ∙ sym q.1
one_made_of at text ps qs (inl p) (inr q) = absurd (q.0 p.0)
one_made_of at text ps qs (inr p) (inl q) = absurd (p.0 q.0)
one_made_of at text ps qs (inr p) (inr q) = one_pieces at text ps qs p.1 q.1

one_alternatives : (at : ℕ) (text : List ℕ) (xs ys : List (List (Written Kind))) → AreAlternatives at text xs → AreAlternatives at text ys → xs ≡ ys
one_alternatives at text [] ys p q = absurd p
one_alternatives at text (x ∷ xs) [] p q = absurd q
one_alternatives at text (x ∷ []) (y ∷ []) p q = let e = one_made_of at text x y p.1 q.1 in ap (λ (g : List (Written Kind)). g ∷ []) e
one_alternatives at text (x ∷ []) (y ∷ z ∷ ys) p q = absurd (cut_has text q.0 q.1 q.2 p.0)
one_alternatives at text (x ∷ z ∷ xs) (y ∷ []) p q = absurd (cut_has text p.0 p.1 p.2 q.0)
one_alternatives at text (x ∷ z ∷ xs) (y ∷ w ∷ ys) p q =
    let same = one_cut_at_bars text p.0 q.0 p.1 q.1 p.2 q.2 in
    let made : IsMadeOf at p.0 y = rw same.0 q.3 in
    let behind : AreAlternatives (at + length p.0 + 2) p.1 (w ∷ ys) = rw (same.0, same.1) q.4 in
    let first = one_made_of at p.0 x y p.3 made in
    let rest = one_alternatives (at + length p.0 + 2) p.1 (z ∷ xs) (w ∷ ys) p.4 behind in
    cc (first, rest)

-- ---- some cut

solid_of : (b : ℕ) → is_blank b ≡ false → is_solid b ≡ true
solid_of b other = rw other refl

from_shorter : (text : List ℕ) → begins is_blank text ≡ false → text ≢ [] → length (past is_solid (past is_blank (past is_sign text))) < length text
from_shorter [] none some = absurd (some refl)
from_shorter (b ∷ text) none some = elim (cases_Bool (is_sign b)) [
  | inl is ↦ omega (arith, past_less is_sign b text is, past_most is_blank (past is_sign (b ∷ text)), past_most is_solid (past is_blank (past is_sign (b ∷ text))))
  | inr other ↦ rw (past_stays is_sign b text other, past_stays is_blank b text none) (past_less is_solid b text (solid_of b none))
]

-- a piece has a byte at least
pub piece_shorter : (text : List ℕ) → piece_from text ≢ [] → length (behind_piece text) < length text
piece_shorter text some = omega (arith, from_shorter (piece_from text) (past_begins is_blank text) some, past_most is_blank text)

empty_or_not : (text : List ℕ) → (text ≡ []) ⊎ (text ≢ [])
empty_or_not [] = inl refl
empty_or_not (b ∷ text) = inr (λ e. cc e)

some_pieces : (n at : ℕ) (text : List ℕ) → length text < n → (pieces : List (Written Kind)) × ArePieces at text pieces
some_pieces zero at text less = absurd (omega (arith, less))
some_pieces (suc n) at text less = elim (empty_or_not (piece_from text)) [
  | inl none ↦ ([], none)
  | inr some ↦
      let rest = some_pieces n (place at text (behind_piece text)) (behind_piece text) (omega (arith, less, piece_shorter text some)) in
      (first_piece at text ∷ rest.0, (some, refl, rest.1))
]

some_made_of : (at : ℕ) (text : List ℕ) → ((pieces : List (Written Kind)) → ¬ (IsMadeOf at text pieces)) → ⊥
some_made_of at text none =
    let other : ¬ (IsHyphenRange text) = λ range. none (sides at text) (inl (range, refl)) in
    let pieces = some_pieces (length text + 1) at text (omega arith) in
    none pieces.0 (inr (other, pieces.1))

-- what is cut off comes first
pub more : (at : ℕ) (text front behind : List ℕ) (group : List (Written Kind)) (groups : List (List (Written Kind))) → IsCutAtBars text front behind → IsMadeOf at front group
    → AreAlternatives (at + length front + 2) behind groups → AreAlternatives at text (group ∷ groups)
more at text front behind group [] cut made rest = absurd rest
more at text front behind group (next ∷ groups) cut made rest = (front, behind, cut, made, rest)

some_alternatives : (n at : ℕ) (text : List ℕ) → length text < n → ((groups : List (List (Written Kind))) → ¬ (AreAlternatives at text groups)) → ⊥
some_alternatives zero at text less none = absurd (omega (arith, less))
some_alternatives (suc n) at text less none = elim (cases_Bool (ltb (before_bars text) (length text))) [
  | inl is ↦
      let found : before_bars text < length text = ltb-true (before_bars text) (length text) is in
      let front = take (before_bars text) text in
      let behind = drop (before_bars text + 2) text in
      let shorter : length behind < n = omega (arith, less, two_within text found, length-drop (before_bars text + 2) text) in
      some_made_of at front (λ group made. some_alternatives n (at + length front + 2) behind shorter (λ groups rest. none (group ∷ groups) (more at text front behind group groups (cut_found text found) made rest)))
  | inr other ↦
      let all : before_bars text ≡ length text = omega (arith, before_most text, ltb-false (before_bars text) (length text) other) in
      some_made_of at text (λ group made. none (group ∷ []) (none_found text all, made))
]

pub npm_cuts : CutLaws IsCut
npm_cuts = record {
  cut_one = λ text. one_alternatives 0 text;
  cut_some = λ text. some_alternatives (length text + 1) 0 text (omega arith);
}

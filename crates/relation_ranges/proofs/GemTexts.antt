-- The text of RubyGems' terms.
use Rattle.std.proofs.Common.{◌≡◌, ◌≤◌, ◌<◌, ◌-◌, ◌++◌, ℕ, suc, List, [], ◌∷◌, length, get_or, Option, Some, None, refl, sym, ap, ◌∙◌, append_assoc, arith}
use Rattle.vx_scheme.specs.declared.span.Span.{Span}
use Rattle.gem_scheme.specs.Version.{Fields}
use Rattle.gem_scheme.specs.Writing.{normal}
use Rattle.relation_ranges.specs.declared.comparison.Strict.TheVariants.{Single}
use Rattle.relation_ranges.specs.declared.gem.operators.Operator.TheVariants.{Compares}
use Rattle.relation_ranges.specs.Written as compared
use Rattle.relation_ranges.specs.Comparison as comparison
use Rattle.vx_scheme.specs.declared.span.Cut.{Cut}
use Rattle.relation_ranges.specs.Bounds.{bound_terms}
use Rattle.relation_ranges.specs.Gem.Operators.{signs_of}
use Rattle.relation_ranges.specs.Gem.Back.{range_text, hole_terms, last_upper, back_terms, first_gap}
use Rattle.relation_ranges.specs.Steps.Terms.{appended, is_any}
use Rattle.relation_ranges.proofs.TermTexts.{range_append}

-- less than two spans have no gap
pub short_gap : (spans : List (Span Fields)) → length spans < 2 → None ≡ first_gap spans
short_gap [] size = refl
short_gap (x ∷ []) size = refl
short_gap (x ∷ y ∷ spans) size = absurd (omega (arith, size))

pub short_holes : (spans : List (Span Fields)) → length spans < 2 → hole_terms spans ≡ []
short_holes [] size = refl
short_holes (x ∷ []) size = refl
short_holes (x ∷ y ∷ spans) size = absurd (omega (arith, size))

last_at : (span last : Span Fields) (spans : List (Span Fields)) → last ≡ get_or (span ∷ spans) (length spans) last → last_upper span spans ≡ last.upper
last_at span last [] is = ap (λ s. s.upper) (sym is)
last_at span last (next ∷ spans) is = last_at next last spans is

one_less : (n : ℕ) → suc (suc n) - 1 ≡ suc n
one_less n = omega arith

-- the terms of more spans than one, of which these are the first and the last
several : (first last : Span Fields) (spans : List (Span Fields)) → first ≡ get_or spans 0 first → last ≡ get_or spans (length spans - 1) last → 2 ≤ length spans
    → back_terms spans ≡ bound_terms Compares first.lower last.upper ++ hole_terms spans
several first last [] is ends size = absurd (omega (arith, size))
several first last (x ∷ []) is ends size = absurd (omega (arith, size))
several first last (x ∷ y ∷ spans) is ends size =
    let upper = last_at y last spans (ends ∙ ap (λ i. get_or (x ∷ y ∷ spans) i last) (one_less (length spans))) in
    ap (λ (s : Span Fields). bound_terms Compares s.lower (last_upper y spans) ++ hole_terms (x ∷ y ∷ spans)) (sym is)
    ∙ ap (λ u. bound_terms Compares first.lower u ++ hole_terms (x ∷ y ∷ spans)) upper

-- their text
pub several_text : (out : List ℕ) (first last : Span Fields) (spans : List (Span Fields)) → first ≡ get_or spans 0 first → last ≡ get_or spans (length spans - 1) last → 2 ≤ length spans
    → (out ++ range_text (bound_terms Compares first.lower last.upper)) ++ appended signs_of normal (is_any (bound_terms Compares first.lower last.upper)) (hole_terms spans) ≡ out ++ range_text (back_terms spans)
several_text out first last spans is ends size =
    let bounds = bound_terms Compares first.lower last.upper in
    append_assoc out (range_text bounds) (appended signs_of normal (is_any bounds) (hole_terms spans))
    ∙ ap (λ (t : List ℕ). out ++ t) (sym (ap range_text (several first last spans is ends size) ∙ range_append signs_of normal bounds (hole_terms spans)))

-- bounds are written as comparisons
pub bounds_text : (lower upper : Option (Cut Fields)) → compared.range_text (comparison.signs_of Single) normal (bound_terms (λ c. c) lower upper) ≡ range_text (bound_terms Compares lower upper)
bounds_text None None = refl
bounds_text None (Some d) = refl
bounds_text (Some c) None = refl
bounds_text (Some c) (Some d) = refl

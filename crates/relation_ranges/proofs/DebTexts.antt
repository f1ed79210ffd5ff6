-- The text of Debian's terms.
use Rattle.std.proofs.Common.{◌≡◌, ◌≤◌, ◌-◌, ◌++◌, false, List, [], ◌∷◌, sym, ap, ◌∙◌, length, take, drop, get_or, arith}
use Rattle.std.proofs.lemmas.List.{take_rest}
use Rattle.vx_scheme.specs.declared.span.Span.{Span}
use Rattle.deb_scheme.specs.Version.{Fields}
use Rattle.deb_scheme.specs.Writing.{normal}
use Rattle.relation_ranges.specs.Bounds.{bound_term}
use Rattle.relation_ranges.specs.Deb.Operators.{signs_of}
use Rattle.relation_ranges.specs.Deb.Back.{range_text, lower_relation, terms_behind, back_terms}
use Rattle.relation_ranges.specs.Steps.DebBack.{appended}
use Rattle.relation_ranges.proofs.TermTexts.{appended_is}

-- more spans than one, of which this is the first
several : (first : Span Fields) (spans : List (Span Fields)) → first ≡ get_or spans 0 first → 2 ≤ length spans
    → back_terms spans ≡ bound_term lower_relation first.lower ++ terms_behind first.lower first.upper (drop 1 spans)
several first [] is size = absurd (omega (arith, size))
several first (x ∷ []) is size = absurd (omega (arith, size))
several first (x ∷ y ∷ spans) is size = ap (λ (s : Span Fields). bound_term lower_relation s.lower ++ terms_behind s.lower s.upper (y ∷ spans)) (sym is)

-- the text of their terms
pub several_text : (first : Span Fields) (spans : List (Span Fields)) → first ≡ get_or spans 0 first → 2 ≤ length spans
    → range_text (back_terms spans) ≡ appended false (bound_term lower_relation first.lower ++ terms_behind first.lower first.upper (take (length spans - 1) (drop 1 spans)))
several_text first spans is size =
    ap range_text (several first spans is size) ∙ sym (appended_is signs_of normal _)
    ∙ ap (λ (rest : List (Span Fields)). appended false (bound_term lower_relation first.lower ++ terms_behind first.lower first.upper rest)) (sym (take_rest spans 1))

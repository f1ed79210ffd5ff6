-- The items of lists that are put together, the cuts of their spans, and the spans of bounds of either shape.
use Rattle.std.proofs.Common.{◌≡◌, ◌++◌, ℕ, List, [], ◌∷◌, refl, sym, ap, ◌∙◌, append_assoc}
use Rattle.vx_spec.specs.Each.{joined}
use Rattle.vx_scheme.specs.declared.span.Span.{Span}
use Rattle.vx_scheme.specs.Cuts.{cut_list, cuts_of}
use Rattle.vx_range.specs.Making.{marks_behind, made_each, alternatives_from, terms_from}

pub joined_append : {X : Type 0} (xss yss : List (List X)) → joined (xss ++ yss) ≡ joined xss ++ joined yss
joined_append [] yss = refl
joined_append (xs ∷ xss) yss = ap (λ t. xs ++ t) (joined_append xss yss) ∙ sym (append_assoc xs (joined xss) (joined yss))

pub cuts_append : {V : Type 0} (a b : List (Span V)) → cuts_of (a ++ b) ≡ cuts_of a ++ cuts_of b
cuts_append [] b = refl
cuts_append (span ∷ a) b =
    ap (λ t. cut_list span.lower ++ (cut_list span.upper ++ t)) (cuts_append a b)
    ∙ ap (λ t. cut_list span.lower ++ t) (sym (append_assoc (cut_list span.upper) (cuts_of a) (cuts_of b)))
    ∙ sym (append_assoc (cut_list span.lower) (cut_list span.upper ++ cuts_of a) (cuts_of b))

-- alternatives have the spans that terms would have
pub same_spans : {V C : Type 0} (spans : ℕ → C → List (Span V)) (mark : ℕ) (all : List (List C))
    → joined (joined (alternatives_from spans mark all)) ≡ joined (terms_from spans mark all)
same_spans spans mark [] = refl
same_spans spans mark (group ∷ all) =
    joined_append (made_each spans mark group) (joined (alternatives_from spans (marks_behind spans mark group) all))
    ∙ ap (λ t. joined (made_each spans mark group) ++ t) (same_spans spans (marks_behind spans mark group) all)

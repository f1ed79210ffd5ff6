-- The text of terms, term by term, over any table.
use Rattle.std.proofs.Common.{◌≡◌, ◌++◌, ℕ, true, false, List, [], ◌∷◌, refl, sym, ap, ◌∙◌, append-nil, append_assoc}
use Rattle.relation_ranges.specs.declared.relations.Relation.{Relation}
use Rattle.relation_ranges.specs.Written.{range_text, term_text}
use Rattle.relation_ranges.specs.Steps.Terms.{appended, is_any}

module _ {O V : Type 0} (signs_of : O → List ℕ) (normal : V → List ℕ) where
  behind_first : (term : List (Relation O V)) (terms : List (List (Relation O V))) → term_text signs_of normal term ++ appended signs_of normal true terms ≡ range_text signs_of normal (term ∷ terms)
  behind_first term [] = append-nil (term_text signs_of normal term)
  behind_first term (next ∷ terms) = ap (λ (rest : List ℕ). term_text signs_of normal term ++ 44 ∷ 32 ∷ rest) (behind_first next terms)

  -- where no term stands before them, they are the text of a range
  pub appended_is : (terms : List (List (Relation O V))) → appended signs_of normal false terms ≡ range_text signs_of normal terms
  appended_is [] = refl
  appended_is (term ∷ terms) = behind_first term terms

  -- the text of terms, then that of others behind them
  pub range_append : (terms more : List (List (Relation O V))) → range_text signs_of normal (terms ++ more) ≡ range_text signs_of normal terms ++ appended signs_of normal (is_any terms) more
  range_append [] more = sym (appended_is more)
  range_append (term ∷ []) more = sym (behind_first term more)
  range_append (term ∷ next ∷ terms) more =
      ap (λ (rest : List ℕ). term_text signs_of normal term ++ 44 ∷ 32 ∷ rest) (range_append (next ∷ terms) more)
      ∙ sym (append_assoc (term_text signs_of normal term) (44 ∷ 32 ∷ range_text signs_of normal (next ∷ terms)) (appended signs_of normal true more))

-- The text of terms of relations, over a table: `signs_of` says how an operator is written, and `normal` is the normal text
-- of a version.
use Rattle.std.specs.Prelude.{ℕ, List, [], ◌∷◌, ◌++◌, map, codes}
use Rattle.relation_ranges.specs.declared.relations.Relation.{Relation}

-- the texts with the separator between each two
abbrev pub joined_by : List ℕ → List (List ℕ) → List ℕ
joined_by separator [] = []
joined_by separator (text ∷ []) = text
joined_by separator (text ∷ next ∷ texts) = text ++ (separator ++ joined_by separator (next ∷ texts))

module _ {O V : Type 0} (signs_of : O → List ℕ) (normal : V → List ℕ) where
  -- the operator, a space and the normal text of the version
  abbrev pub relation_text : Relation O V → List ℕ
  relation_text relation = signs_of relation.operator ++ (codes " " ++ normal relation.version)

  -- the relations with a bar between each two
  abbrev pub term_text : List (Relation O V) → List ℕ
  term_text term = joined_by (codes " | ") (map relation_text term)

  -- the terms with a comma between each two
  abbrev pub range_text : List (List (Relation O V)) → List ℕ
  range_text terms = joined_by (codes ", ") (map term_text terms)

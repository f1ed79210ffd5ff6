-- The text of terms, term by term, over a table: `signs_of` says how an operator is written, and `normal` is the normal text
-- of a version.
use Rattle.std.specs.Prelude.{ℕ, Bool, true, false, List, [], ◌∷◌, ◌++◌, codes}
use Rattle.relation_ranges.specs.declared.relations.Relation.{Relation}
use Rattle.relation_ranges.specs.Written.{term_text}

-- what stands before a term: a comma where a term stands before it
abbrev pub comma : Bool → List ℕ
comma false = []
comma true = codes ", "

-- the terms behind others, or where none stand before them
abbrev pub appended : {O V : Type 0} → (O → List ℕ) → (V → List ℕ) → Bool → List (List (Relation O V)) → List ℕ
appended signs_of normal some [] = []
appended signs_of normal some (term ∷ terms) = comma some ++ (term_text signs_of normal term ++ appended signs_of normal true terms)

-- some term stands there
abbrev pub is_any : {X : Type 0} → List X → Bool
is_any [] = false
is_any (x ∷ xs) = true

-- Parts joined by '.', as Semantic Versioning 2.0, items 2, 9 and 10, joins them, and texts cut at their dots.
use Rattle.std.specs.Prelude.{◌==◌, ℕ, List, [], ◌∷◌, Option, Some, None}
use Rattle.std.specs.List.{join_with_byte, slice_split}
use Rattle.vx_spec.specs.Signs.{dot}

-- parts joined by '.', behind their mark, where there are any
abbrev pub tail : ℕ → List (List ℕ) → List ℕ
tail mark [] = []
tail mark (first ∷ more) = mark ∷ join_with_byte dot (first ∷ more)

-- the parts between the dots of a text
abbrev pub dotted : List ℕ → List (List ℕ)
dotted text = slice_split (λ b. b == dot) text

-- none where the text is left out
abbrev pub pieces : Option (List ℕ) → List (List ℕ)
pieces None = []
pieces (Some text) = dotted text

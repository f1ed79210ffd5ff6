-- Which texts spell a package URL (ECMA-427, parsing a package URL string).
use Rattle.std.specs.Prelude.{◌≡◌, ◌≢◌, ◌==◌, ◌++◌, ◌⊎◌, ◌↔◌, ℕ, true, not, List, [], ◌∷◌, map, filter, Option, Some, None, ⊤, IsUtf8, codes}
use Rattle.std.specs.List.{AllByRecursion, slice_split}
use Rattle.vx_text.specs.Escapes.{IsWhole, unescaped}
use Rattle.vx_text.specs.Folding.{lowered}
use Rattle.vx_text.specs.Pieces.{kept_parts}
use Rattle.purl_core.specs.Grammar.{Parts, IsPurlWritten}
use Rattle.purl_core.specs.Value.{Package, is_key, is_dots, Ascending}

-- each '%' is an escape, and what the part stands for is text
pub record IsDecodable (raw : List ℕ) : Type 0 where
  pub whole : IsWhole raw
  pub utf8 : IsUtf8 (unescaped raw)

-- the parts between the marks that are not empty
abbrev pub pieces : ℕ → Option (List ℕ) → List (List ℕ)
pieces mark None = []
pieces mark (Some text) = kept_parts (slice_split (λ b. b == mark) text)

-- an empty version counts as none
abbrev pub not_empty : Option (List ℕ) → List (List ℕ)
not_empty None = []
not_empty (Some text) = kept_parts (text ∷ [])

-- the version as a list of none or one
abbrev pub listed_version : Option (List ℕ) → List (List ℕ)
listed_version None = []
listed_version (Some text) = text ∷ []

-- the piece is a key, '=' and a value
pub record IsPiece (piece : List ℕ) (pair : List ℕ × List ℕ) : Type 0 where
  pub joined : piece ≡ pair.0 ++ (codes "=" ++ pair.1)
  pub key : is_key pair.0 ≡ true

-- the pieces are these pairs, in their order
abbrev pub ArePieces : List (List ℕ) → List (List ℕ × List ℕ) → Type 0
ArePieces [] [] = ⊤
ArePieces [] (pair ∷ pairs) = ⊥
ArePieces (piece ∷ pieces) [] = ⊥
ArePieces (piece ∷ pieces) (pair ∷ pairs) = IsPiece piece pair × ArePieces pieces pairs

-- the pairs whose value is not empty, with the keys in lower case and the values decoded
abbrev pub valued_pairs : List (List ℕ × List ℕ) → List (List ℕ × List ℕ)
valued_pairs [] = []
valued_pairs ((key, []) ∷ pairs) = valued_pairs pairs
valued_pairs ((key, b ∷ value) ∷ pairs) = (lowered key, unescaped (b ∷ value)) ∷ valued_pairs pairs

-- the pair stands in the list
abbrev pub Member : List ℕ × List ℕ → List (List ℕ × List ℕ) → Type 0
Member x [] = ⊥
Member x (y ∷ ys) = (x ≡ y) ⊎ Member x ys

-- no key stands twice
abbrev pub Distinct : List (List ℕ × List ℕ) → Type 0
Distinct [] = ⊤
Distinct (x ∷ xs) = AllByRecursion (λ (y : List ℕ × List ℕ). x.0 ≢ y.0) xs × Distinct xs

-- the lists hold the same pairs
abbrev pub SameMap : List (List ℕ × List ℕ) → List (List ℕ × List ℕ) → Type 0
SameMap xs ys = (x : List ℕ × List ℕ) → Member x xs ↔ Member x ys

-- the components of the value are what the raw parts stand for
pub record IsValued (parts : Parts) (p : Package) : Type 0 where
  pub kind : p.kind ≡ lowered parts.kind
  pub path_good : AllByRecursion IsDecodable (pieces 47 (Some parts.path))
  pub path : p.namespace ++ p.name ∷ [] ≡ map unescaped (pieces 47 (Some parts.path))
  pub version_good : AllByRecursion IsDecodable (not_empty parts.version)
  pub version : listed_version p.version ≡ map unescaped (not_empty parts.version)
  pub pairs : List (List ℕ × List ℕ)
  pub pairs_are : ArePieces (pieces 38 parts.qualifiers) pairs
  pub values_good : AllByRecursion (λ (pair : List ℕ × List ℕ). IsDecodable pair.1) pairs
  pub distinct : Distinct (valued_pairs pairs)
  pub ascending : Ascending p.qualifiers
  pub qualifiers : SameMap p.qualifiers (valued_pairs pairs)
  pub subpath_good : AllByRecursion IsDecodable (pieces 47 parts.subpath)
  pub subpath : p.subpath ≡ filter (λ segment. not (is_dots segment)) (map unescaped (pieces 47 parts.subpath))

-- The text spells the package URL.
pub record SpellsPurl (text : List ℕ) (p : Package) : Type 0 where
  pub parts : Parts
  pub written : IsPurlWritten text parts
  pub valued_as : IsValued parts p

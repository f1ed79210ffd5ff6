-- Where the parts of a text stand, and where the first of them is refused (ECMA-427, parsing a package URL string).
use Rattle.std.specs.Prelude.{◌≡◌, ◌==◌, ◌+◌, ◌⊎◌, ◌++◌, ℕ, if◌then◌else◌, List, [], ◌∷◌, length, map, Option, Some, None, IsUtf8}
use Rattle.std.specs.List.{AllByRecursion, slice_split}
use Rattle.vx_text.specs.Escapes.{IsWhole, IsFirstBroken, unescaped}
use Rattle.vx_text.specs.Folding.{lowered}
use Rattle.purl_core.specs.Grammar.{Parts}
use Rattle.purl_core.specs.Spelling.{IsPiece, Distinct}

-- the parts that are not empty, each with its place; the first part begins at this place, and a mark stands between each two
abbrev pub places : ℕ → List (List ℕ) → List (ℕ × List ℕ)
places at [] = []
places at ([] ∷ parts) = places (at + 1) parts
places at ((b ∷ part) ∷ parts) = (at, b ∷ part) ∷ places (at + length (b ∷ part) + 1) parts

-- the parts between the marks that are not empty, where there is such a text
abbrev pub placed_parts : ℕ → ℕ → Option (List ℕ) → List (ℕ × List ℕ)
placed_parts at mark None = []
placed_parts at mark (Some text) = places at (slice_split (λ b. b == mark) text)

-- a text that is one part, where there is one and it is not empty
abbrev pub placed_whole : ℕ → Option (List ℕ) → List (ℕ × List ℕ)
placed_whole at None = []
placed_whole at (Some text) = places at (text ∷ [])

-- what stands behind the first '=' of a piece that begins at this place, where there is one
abbrev pub value_in : ℕ → List ℕ → List (ℕ × List ℕ)
value_in at [] = []
value_in at (b ∷ piece) = if b == 61 then (at + 1, piece) ∷ [] else value_in (at + 1) piece

-- the values of the pieces
abbrev pub values : List (ℕ × List ℕ) → List (ℕ × List ℕ)
values [] = []
values (piece ∷ pieces) = value_in piece.0 piece.1 ++ values pieces

-- how many bytes a part takes with the sign before it, where there is one
abbrev pub with_sign : Option (List ℕ) → ℕ
with_sign None = 0
with_sign (Some part) = length part + 1

-- ---- where the parts of a written text begin

-- behind the scheme and its ':', the slashes, and the type and its '/'
abbrev pub path_at : Parts → ℕ
path_at p = length p.scheme + 1 + length p.slashes + length p.kind + 1

-- behind the path and the '@'
abbrev pub version_at : Parts → ℕ
version_at p = path_at p + length p.path + 1

-- behind the path, the version and the '?'
abbrev pub qualifiers_at : Parts → ℕ
qualifiers_at p = path_at p + length p.path + with_sign p.version + 1

-- behind the path, the version, the qualifiers and the '#'
abbrev pub subpath_at : Parts → ℕ
subpath_at p = path_at p + length p.path + with_sign p.version + with_sign p.qualifiers + 1

-- the pieces of the qualifiers
abbrev pub pieces_of : Parts → List (ℕ × List ℕ)
pieces_of p = placed_parts (qualifiers_at p) 38 p.qualifiers

-- the segments of the path, the version, the values and the segments of the subpath, in their order
abbrev pub components : Parts → List (ℕ × List ℕ)
components p = placed_parts (path_at p) 47 (Some p.path) ++ (placed_whole (version_at p) p.version ++ (values (pieces_of p) ++ placed_parts (subpath_at p) 47 p.subpath))

-- ---- what is refused

-- each part passes
abbrev pub AllPass : (List ℕ → Type 0) → List (ℕ × List ℕ) → Type 0
AllPass Passes parts = AllByRecursion (λ (part : ℕ × List ℕ). Passes part.1) parts

-- the first part that does not pass fails at this place
abbrev pub IsFirstAt : (List ℕ → Type 0) → (ℕ × List ℕ → ℕ → Type 0) → List (ℕ × List ℕ) → ℕ → Type 0
IsFirstAt Passes FailsAt [] at = ⊥
IsFirstAt Passes FailsAt (part ∷ parts) at = FailsAt part at ⊎ (Passes part.1 × IsFirstAt Passes FailsAt parts at)

-- the first '%' of the part that two hexadecimal digits do not follow stands at this place
abbrev pub IsBrokenAt : ℕ × List ℕ → ℕ → Type 0
IsBrokenAt part at = (k : ℕ) × IsFirstBroken part.1 k × (at ≡ part.0 + k)

-- the first '%' of the parts that two hexadecimal digits do not follow stands at this place
abbrev pub IsEscapeAt : List (ℕ × List ℕ) → ℕ → Type 0
IsEscapeAt parts at = IsFirstAt IsWhole IsBrokenAt parts at

-- no '%' is broken
abbrev pub AllWhole : List (ℕ × List ℕ) → Type 0
AllWhole parts = AllPass IsWhole parts

-- the part stands for UTF-8
abbrev pub IsText : List ℕ → Type 0
IsText raw = IsUtf8 (unescaped raw)

-- the part begins at this place and does not stand for UTF-8
abbrev pub IsOtherAt : ℕ × List ℕ → ℕ → Type 0
IsOtherAt part at = ¬ (IsText part.1) × (at ≡ part.0)

-- the first part that does not stand for UTF-8 begins at this place
abbrev pub IsNotTextAt : List (ℕ × List ℕ) → ℕ → Type 0
IsNotTextAt parts at = IsFirstAt IsText IsOtherAt parts at

-- each part stands for UTF-8
abbrev pub AllText : List (ℕ × List ℕ) → Type 0
AllText parts = AllPass IsText parts

-- the piece is no key, '=' and value
abbrev pub NoPiece : List ℕ → Type 0
NoPiece piece = (pair : List ℕ × List ℕ) → ¬ (IsPiece piece pair)

-- the piece is a key, '=' and a value
abbrev pub HasPiece : List ℕ → Type 0
HasPiece piece = (pair : List ℕ × List ℕ) × IsPiece piece pair

-- each piece is one
abbrev pub AllPieces : List (ℕ × List ℕ) → Type 0
AllPieces pieces = AllPass HasPiece pieces

-- the piece begins at this place and is none
abbrev pub IsNoneAt : ℕ × List ℕ → ℕ → Type 0
IsNoneAt piece at = NoPiece piece.1 × (at ≡ piece.0)

-- the first piece that is none begins at this place
abbrev pub IsBadPieceAt : List (ℕ × List ℕ) → ℕ → Type 0
IsBadPieceAt pieces at = IsFirstAt HasPiece IsNoneAt pieces at

-- the pair has a value that is not empty: with its place, the key in lower case and the value decoded
abbrev pub keyed_pair : ℕ → List ℕ × List ℕ → List (ℕ × (List ℕ × List ℕ))
keyed_pair at (key, []) = []
keyed_pair at (key, b ∷ value) = (at, (lowered key, unescaped (b ∷ value))) ∷ []

-- these are the pairs of the pieces that have a value, with the places of the pieces
abbrev pub AreKeyed : List (ℕ × List ℕ) → List (ℕ × (List ℕ × List ℕ)) → Type 0
AreKeyed [] keyed = keyed ≡ []
AreKeyed (piece ∷ pieces) keyed = (pair : List ℕ × List ℕ) × (rest : List (ℕ × (List ℕ × List ℕ))) × IsPiece piece.1 pair × AreKeyed pieces rest × (keyed ≡ keyed_pair piece.0 pair ++ rest)

-- the key stands in the list
abbrev pub HasKey : List ℕ → List (List ℕ × List ℕ) → Type 0
HasKey key [] = ⊥
HasKey key (x ∷ xs) = (key ≡ x.0) ⊎ HasKey key xs

-- the pairs without their places
abbrev pub without_places : List (ℕ × (List ℕ × List ℕ)) → List (List ℕ × List ℕ)
without_places keyed = map (λ (entry : ℕ × (List ℕ × List ℕ)). entry.1) keyed

-- the first pair whose key stands in an earlier one has this place
pub record IsDuplicateAt (keyed : List (ℕ × (List ℕ × List ℕ))) (at : ℕ) : Type 0 where
  pub before : List (ℕ × (List ℕ × List ℕ))
  pub pair : List ℕ × List ℕ
  pub behind : List (ℕ × (List ℕ × List ℕ))
  pub split : keyed ≡ before ++ (at, pair) ∷ behind
  pub first : Distinct (without_places before)
  pub twice : HasKey pair.0 (without_places before)

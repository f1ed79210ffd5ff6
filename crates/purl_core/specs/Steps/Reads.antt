-- What the steps of reading answer.
use Rattle.std.specs.Prelude.{◌≡◌, ◌++◌, ℕ, List, [], ◌∷◌, map, filter, not, Option, Some, Result, Ok, Err, MatchOption}
use Rattle.vx_text.specs.Escapes.{unescaped}
use Rattle.purl_core.specs.Grammar.{Parts}
use Rattle.purl_core.specs.Value.{is_dots}
use Rattle.purl_core.specs.Spelling.{listed_version}
use Rattle.purl_core.specs.Places.{AllPass, AllText, IsFirstAt, IsNotTextAt, components, path_at, pieces_of, placed_parts, placed_whole, subpath_at, version_at}
use Rattle.purl_core.specs.declared.fault.PurlFault.{PurlFault}
use Rattle.purl_core.specs.declared.fault.PurlFault.TheVariants.{Scheme, BadType, Name, Escape, NotText, Qualifier, DuplicateKey, NoMemory}
use Rattle.purl_core.specs.Steps.Pairing.{MayPair}
use Rattle.purl_core.specs.declared.reading.Texts.{Texts}
use Rattle.purl_core.specs.declared.value.Pair.{Pair}

-- all parts pass, or the first that does not fails at the place found
abbrev pub FindsFirst : (List ℕ → Type 0) → (ℕ × List ℕ → ℕ → Type 0) → List (ℕ × List ℕ) → Option ℕ → Type 0
FindsFirst Passes FailsAt parts found = MatchOption found (AllPass Passes parts) (λ at. IsFirstAt Passes FailsAt parts at)

-- the bytes of the parts, without their places
abbrev pub bytes_of : List (ℕ × List ℕ) → List (List ℕ)
bytes_of parts = map (λ (part : ℕ × List ℕ). part.1) parts

-- the texts that the parts stand for
abbrev pub texts_of : List (ℕ × List ℕ) → List (List ℕ)
texts_of parts = map unescaped (bytes_of parts)

-- the first part that stands for no UTF-8 is refused; want of memory is free
abbrev pub IsTextFault : List (ℕ × List ℕ) → PurlFault → Type 0
IsTextFault parts Scheme = ⊥
IsTextFault parts BadType = ⊥
IsTextFault parts Name = ⊥
IsTextFault parts (Escape at) = ⊥
IsTextFault parts (NotText at) = IsNotTextAt parts at
IsTextFault parts (Qualifier at) = ⊥
IsTextFault parts (DuplicateKey at) = ⊥
IsTextFault parts NoMemory = Unit {0}

-- each part stands for UTF-8, and the answer is made of the texts that they stand for; or a refusal
abbrev pub IsDecoded : {Y : Type 0} → (Y → List (List ℕ) → Type 0) → List (ℕ × List ℕ) → Result Y PurlFault → Type 0
IsDecoded Makes parts (Ok y) = AllText parts × Makes y (texts_of parts)
IsDecoded Makes parts (Err fault) = IsTextFault parts fault

-- the one text
abbrev pub IsTheText : List ℕ → List (List ℕ) → Type 0
IsTheText text texts = texts ≡ text ∷ []

-- the segments before the last, and the last
abbrev pub IsPath : List (List ℕ) × List ℕ → List (List ℕ) → Type 0
IsPath path texts = path.0 ++ path.1 ∷ [] ≡ texts

-- the version, where there is one
abbrev pub IsVersionOf : Option (List ℕ) → List (List ℕ) → Type 0
IsVersionOf version texts = listed_version version ≡ texts

-- the segments that are neither '.' nor '..'
abbrev pub without_dots : List (List ℕ) → List (List ℕ)
without_dots segments = filter (λ segment. not (is_dots segment)) segments

abbrev pub IsSubpath : List (List ℕ) → List (List ℕ) → Type 0
IsSubpath segments texts = segments ≡ without_dots texts

-- nothing is made
abbrev pub IsNothing : Unit {0} → List (List ℕ) → Type 0
IsNothing u texts = Unit {0}

-- the texts are those of the path, the version and the subpath
pub record AreTexts (parts : Parts) (texts : Texts) : Type 0 where
  pub path : texts.namespace ++ texts.name ∷ [] ≡ texts_of (placed_parts (path_at parts) 47 (Some parts.path))
  pub version : listed_version texts.version ≡ texts_of (placed_whole (version_at parts) parts.version)
  pub subpath : texts.subpath ≡ without_dots (texts_of (placed_parts (subpath_at parts) 47 parts.subpath))

-- the texts of checked parts, and the qualifiers where they were found; or a refusal
abbrev pub AreDecoded : Parts → Result (Texts × Option (List Pair)) PurlFault → Type 0
AreDecoded parts (Ok read) = AllText (components parts) × AreTexts parts read.0 × MayPair (pieces_of parts) read.1
AreDecoded parts (Err fault) = IsTextFault (components parts) fault

-- A package URL as a value: all its texts are decoded (ECMA-427, the components of a package URL).
use Rattle.std.specs.Prelude.{◌≡◌, ◌≢◌, ◌||◌, ◌&&◌, ◌==◌, ◌<◌, ℕ, Bool, true, false, List, [], ◌∷◌, ◌++◌, Option, Some, None, ⊤, IsUtf8, bytes_eq, codes}
use Rattle.std.specs.List.{AllByRecursion, list_all}
use Rattle.std.specs.declared.cmp.Ordering.TheVariants.{Less}
use Rattle.std.specs.Ordering.{nat_cmp}
use Rattle.std.specs.Cmp.Lexicographic.{slice_cmp}
use Rattle.std.specs.Char.{is_ascii_alphabetic, is_ascii_alphanumeric}
use Rattle.vx_text.specs.Folding.{lowered}
use Rattle.purl_core.specs.Grammar.{is_kind}
use Rattle.purl_core.specs.declared.value.Pair.{Pair}

-- the key and the value of a qualifier
abbrev pub pair_view : Pair → List ℕ × List ℕ
pair_view pair = (pair.key, pair.value)

-- the components of a package URL, all decoded
pub record Package : Type 0 where
  pub kind : List ℕ
  pub namespace : List (List ℕ)
  pub name : List ℕ
  pub version : Option (List ℕ)
  pub qualifiers : List (List ℕ × List ℕ)
  pub subpath : List (List ℕ)

-- an ASCII letter or digit, '.', '-' or '_'
abbrev pub is_key_byte : ℕ → Bool
is_key_byte b = is_ascii_alphanumeric b || b == 46 || b == 45 || b == 95

-- a key: a letter, and letters, digits, '.', '-' and '_'
abbrev pub is_key : List ℕ → Bool
is_key [] = false
is_key (b ∷ text) = is_ascii_alphabetic b && list_all is_key_byte text

abbrev pub is_dots : List ℕ → Bool
is_dots text = bytes_eq text (codes ".") || bytes_eq text (codes "..")

-- a text in UTF-8 that is not empty
pub record IsPart (text : List ℕ) : Type 0 where
  pub some : text ≢ []
  pub utf8 : IsUtf8 text
  pub bytes : AllByRecursion (λ b. b < 256) text

-- a key in lower case, and a value
pub record IsPair (pair : List ℕ × List ℕ) : Type 0 where
  pub key : is_key pair.0 ≡ true
  pub low : lowered pair.0 ≡ pair.0
  pub value : IsPart pair.1

-- each key stands before the later ones by bytes, so no key stands twice
abbrev pub Ascending : List (List ℕ × List ℕ) → Type 0
Ascending [] = ⊤
Ascending (x ∷ xs) = AllByRecursion (λ (y : List ℕ × List ℕ). slice_cmp nat_cmp x.0 y.0 ≡ Less) xs × Ascending xs

-- the key is above the last one; each key is above those of an empty list
abbrev pub IsAboveLast : List (List ℕ × List ℕ) → List ℕ → Type 0
IsAboveLast pairs key = (front : List (List ℕ × List ℕ)) (last : List ℕ × List ℕ) → pairs ≡ front ++ last ∷ [] → slice_cmp nat_cmp last.0 key ≡ Less

-- a version that is there is not empty
abbrev pub IsVersion : Option (List ℕ) → Type 0
IsVersion None = ⊤
IsVersion (Some version) = IsPart version

-- a segment of a subpath
pub record IsSegment (text : List ℕ) : Type 0 where
  pub part : IsPart text
  pub no_dots : is_dots text ≡ false

-- what holds of each package URL
pub record IsValid (p : Package) : Type 0 where
  pub kind : is_kind p.kind ≡ true
  pub kind_low : lowered p.kind ≡ p.kind
  pub namespace : AllByRecursion IsPart p.namespace
  pub name : IsPart p.name
  pub version : IsVersion p.version
  pub pairs : AllByRecursion IsPair p.qualifiers
  pub ascending : Ascending p.qualifiers
  pub subpath : AllByRecursion IsSegment p.subpath

-- The raw parts of the text of a package URL, from the whole text inwards (ECMA-427, the syntax of a package URL string).
use Rattle.std.specs.Prelude.{◌≡◌, ◌≢◌, ◌||◌, ◌&&◌, ◌==◌, ℕ, Bool, true, false, List, [], ◌∷◌, ◌++◌, Option, Some, codes}
use Rattle.std.specs.List.{AllByRecursion, slice_split, list_all}
use Rattle.std.specs.Char.{is_ascii_alphabetic, is_ascii_alphanumeric}
use Rattle.vx_spec.specs.Marks.{IsLastCut, marked}
use Rattle.vx_text.specs.Pieces.{kept_parts}
use Rattle.vx_text.specs.Folding.{lowered}
use Rattle.purl_core.specs.Cuts.{IsVersionCut}

-- the text is a body, and behind it qualifiers and a subpath where there are such: '#' is 35 and '?' is 63
pub record IsEnded (text body : List ℕ) (qualifiers subpath : Option (List ℕ)) : Type 0 where
  pub front : List ℕ
  pub subpath_cut : IsLastCut 35 text front subpath
  pub qualifiers_cut : IsLastCut 63 front body qualifiers

-- the body is 'pkg' in any case of letters, ':' and the rest
pub record HasScheme (body scheme rest : List ℕ) : Type 0 where
  pub joined : body ≡ scheme ++ (codes ":" ++ rest)
  pub form : lowered scheme ≡ codes "pkg"

-- an ASCII letter or digit, '.', '+' or '-'
abbrev pub is_kind_byte : ℕ → Bool
is_kind_byte b = is_ascii_alphanumeric b || b == 46 || b == 43 || b == 45

-- a type: a letter, and letters, digits, '.', '+' and '-'
abbrev pub is_kind : List ℕ → Bool
is_kind [] = false
is_kind (b ∷ text) = is_ascii_alphabetic b && list_all is_kind_byte text

-- the rest is any number of '/', which is 47, a type, and what stands behind the next '/', where there is one
pub record HasType (rest slashes kind : List ℕ) (behind : Option (List ℕ)) : Type 0 where
  pub joined : rest ≡ slashes ++ (kind ++ marked 47 behind)
  pub slashes_are : AllByRecursion (λ b. b ≡ 47) slashes
  pub form : is_kind kind ≡ true

-- the parts between the '/'
abbrev pub between : List ℕ → List (List ℕ)
between path = slice_split (λ b. b == 47) path

-- the path has a segment that is not empty
abbrev pub HasSegment : List ℕ → Type 0
HasSegment path = kept_parts (between path) ≢ []

-- the raw parts, as they stand in the text
pub record Parts : Type 0 where
  pub scheme : List ℕ
  pub slashes : List ℕ
  pub kind : List ℕ
  pub path : List ℕ
  pub version : Option (List ℕ)
  pub qualifiers : Option (List ℕ)
  pub subpath : Option (List ℕ)

-- The text is written of the raw parts.
pub record IsPurlWritten (text : List ℕ) (p : Parts) : Type 0 where
  pub body : List ℕ
  pub rest : List ℕ
  pub behind : List ℕ
  pub ended : IsEnded text body p.qualifiers p.subpath
  pub scheme_is : HasScheme body p.scheme rest
  pub type_is : HasType rest p.slashes p.kind (Some behind)
  pub version_cut : IsVersionCut behind p.path p.version
  pub segment : HasSegment p.path

-- the text has a body that begins with the scheme
pub record WithScheme (text : List ℕ) : Type 0 where
  pub body : List ℕ
  pub qualifiers : Option (List ℕ)
  pub subpath : Option (List ℕ)
  pub scheme : List ℕ
  pub rest : List ℕ
  pub ended : IsEnded text body qualifiers subpath
  pub scheme_is : HasScheme body scheme rest

-- and behind the scheme stands a type
pub record WithType (text : List ℕ) : Type 0 where
  pub body : List ℕ
  pub qualifiers : Option (List ℕ)
  pub subpath : Option (List ℕ)
  pub scheme : List ℕ
  pub rest : List ℕ
  pub slashes : List ℕ
  pub kind : List ℕ
  pub behind : Option (List ℕ)
  pub ended : IsEnded text body qualifiers subpath
  pub scheme_is : HasScheme body scheme rest
  pub type_is : HasType rest slashes kind behind

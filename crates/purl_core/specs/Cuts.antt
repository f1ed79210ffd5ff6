-- Where the version of a package URL begins (ECMA-427, parsing a package URL string from its right).
use Rattle.std.specs.Prelude.{◌≡◌, ◌≢◌, ℕ, List, [], ◌∷◌, ◌++◌, Option, Some, None, ⊤}
use Rattle.vx_spec.specs.Marks.{marked}

-- the last byte of the text, or the byte before it where it is empty
abbrev pub last_of : ℕ → List ℕ → ℕ
last_of before [] = before
last_of before (b ∷ text) = last_of b text

-- each '@' of the text stands directly behind a '/'; `before` is the byte before the text
abbrev pub NoneCounts : ℕ → List ℕ → Type 0
NoneCounts before [] = ⊤
NoneCounts before (b ∷ text) = (b ≡ 64 → before ≡ 47) × NoneCounts b text

-- where there is a version, the '@' before it counts and none behind that does; else none counts
abbrev pub CountsLast : ℕ → List ℕ → Option (List ℕ) → Type 0
CountsLast before path None = NoneCounts before path
CountsLast before path (Some version) = (last_of before path ≢ 47) × NoneCounts 64 version

-- the text, behind a '/', is a path and the version behind its last '@' that does not stand directly behind a '/'
pub record IsVersionCut (text path : List ℕ) (version : Option (List ℕ)) : Type 0 where
  pub joined : text ≡ path ++ marked 64 version
  pub counts : CountsLast 47 path version

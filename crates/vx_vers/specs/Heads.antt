-- VERS, "URI scheme" and "<versioning-scheme>": the head of a text, which is `vers:`, the name of a scheme and '/', in
-- any case of ASCII letters.
use Rattle.std.specs.Prelude.{◌≡◌, ℕ, List, ◌++◌, codes, filter}
use Rattle.vx_spec.specs.Runs.{is_solid}
use Rattle.vx_scheme.specs.declared.name.SchemeName.{SchemeName}
use Rattle.vx_scheme.specs.Names.{text_of}
use Rattle.vx_text.specs.Folding.{lowered}

-- the text without its blanks, wherever they stand
abbrev pub solid : List ℕ → List ℕ
solid text = filter is_solid text

-- the front is `vers:` and the name of the scheme
abbrev pub IsNamed : List ℕ → SchemeName → Type 0
IsNamed front name = lowered front ≡ codes "vers:" ++ text_of name

-- a text without blanks is the head of the scheme and what stands behind it
pub record HasHead (text : List ℕ) (name : SchemeName) (behind : List ℕ) : Type 0 where
  pub front : List ℕ
  pub joined : text ≡ front ++ (codes "/" ++ behind)
  pub named : IsNamed front name

-- without its blanks the text begins with the head of the scheme
abbrev pub HeadIs : List ℕ → SchemeName → Type 0
HeadIs text name = (behind : List ℕ) × HasHead (solid text) name behind

-- without its blanks the text begins with the head of no scheme
abbrev pub NoHead : List ℕ → Type 0
NoHead text = (name : SchemeName) → ¬ (HeadIs text name)

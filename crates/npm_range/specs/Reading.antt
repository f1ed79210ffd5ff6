-- What a piece is read as, after the README of node-semver, "Range Grammar": an operator, and a partial, a version of which the
-- last numbers may be left out.
use Rattle.std.specs.Prelude.{◌≡◌, ◌==◌, ◌&&◌, ◌||◌, nat_lt, ℕ, Bool, true, false, List, [], ◌∷◌, ◌⊎◌, length, map, if◌then◌else◌, codes}
use Rattle.std.specs.List.{list_all, slice_split}
use Rattle.vx_spec.specs.Numerals.{value}
use Rattle.vx_spec.specs.Runs.{is_blank, run, past}
use Rattle.vx_range.specs.Pieces.{Written}
use Rattle.vx_spec.specs.Signs.{dot}
use Rattle.npm_scheme.specs.Version.{Fields, release_of, without_build}
use Rattle.npm_scheme.specs.Spelling.{is_plain_numeral, Spells}
use Rattle.npm_range.specs.declared.cutting.Kind.{Kind}
use Rattle.npm_range.specs.declared.cutting.Kind.TheVariants.{Plain, Low, High}
use Rattle.npm_range.specs.declared.construct.Construct.{Construct}
use Rattle.npm_range.specs.declared.construct.Operator.{Operator}
use Rattle.npm_range.specs.declared.construct.Operator.TheVariants.{Equal, Less, LessEqual, Greater, GreaterEqual, Tilde, Caret}
use Rattle.npm_range.specs.declared.construct.Partial.{Partial}
use Rattle.npm_range.specs.declared.construct.Partial.TheVariants.{Any, Major, Minor, Full}
use Rattle.npm_range.specs.Cutting.{is_sign}

-- ---- operators

-- the signs write the operator
abbrev pub IsOperator : List ℕ → Operator → Type 0
IsOperator signs Equal = (signs ≡ []) ⊎ (signs ≡ codes "=")
IsOperator signs Less = signs ≡ codes "<"
IsOperator signs LessEqual = signs ≡ codes "<="
IsOperator signs Greater = signs ≡ codes ">"
IsOperator signs GreaterEqual = signs ≡ codes ">="
IsOperator signs Tilde = (signs ≡ codes "~") ⊎ (signs ≡ codes "~>")
IsOperator signs Caret = signs ≡ codes "^"

-- the signs at the front of a piece write its operator; a hyphen range is `>=` of its first side and `<=` of its second
abbrev pub HasOperator : Kind → List ℕ → Operator → Type 0
HasOperator Plain bytes operator = IsOperator (run is_sign bytes) operator
HasOperator Low bytes operator = operator ≡ GreaterEqual
HasOperator High bytes operator = operator ≡ LessEqual

-- ---- partials

-- 'x' (120), 'X' (88) or '*' (42) alone: the signs for any number
abbrev pub is_any : List ℕ → Bool
is_any [] = false
is_any (b ∷ []) = (b == 120 || b == 88) || b == 42
is_any (b ∷ c ∷ text) = false

-- a numeral without leading zeros, or a sign for any number
abbrev pub is_number : List ℕ → Bool
is_number text = is_any text || is_plain_numeral text

-- what stands between the dots of a text
abbrev pub numbers : List ℕ → List (List ℕ)
numbers text = slice_split (λ b. b == dot) text

-- one to three numbers
abbrev pub is_short : List ℕ → Bool
is_short text = list_all is_number (numbers text) && nat_lt (length (numbers text)) 4

-- the numerals before the first sign for any number: what stands behind it counts as the same sign
abbrev pub before_any : List (List ℕ) → List (List ℕ)
before_any [] = []
before_any (number ∷ more) = if is_any number then [] else number ∷ before_any more

-- their values
abbrev pub values : List ℕ → List ℕ
values text = map value (before_any (numbers text))

-- what the values stand for: the first numbers of a version, or all three of a release
abbrev pub partial_of : List ℕ → Partial
partial_of [] = Any
partial_of (major ∷ []) = Major major
partial_of (major ∷ minor ∷ []) = Minor major minor
partial_of (major ∷ minor ∷ patch ∷ more) = Full (release_of major minor patch)

-- the text is a whole version, of which the build does not count
pub record IsWhole (text : List ℕ) (partial : Partial) : Type 0 where
  pub version : Fields
  pub spelled : Spells text version
  pub is : partial ≡ Full (without_build version)

-- The text, without its `v`, stands for the partial: it is one to three numbers, or a whole version, which alone may
-- have a pre-release or a build.
abbrev pub IsPartial : List ℕ → Partial → Type 0
IsPartial text partial = ((is_short text ≡ true) × (partial ≡ partial_of (values text))) ⊎ IsWhole text partial

-- the text without one such byte at its front, where it begins with one
abbrev pub without : ℕ → List ℕ → List ℕ
without sign [] = []
without sign (b ∷ text) = if b == sign then text else b ∷ text

-- The partial stands behind the signs and the blanks of a piece. It may begin with one 'v' (118), and on a side of a
-- hyphen range with one '=' (61) before that.
abbrev pub partial_in : Kind → List ℕ → List ℕ
partial_in Plain bytes = without 118 (past is_blank (past is_sign bytes))
partial_in Low bytes = without 118 (without 61 bytes)
partial_in High bytes = without 118 (without 61 bytes)

abbrev pub partial_text : Written Kind → List ℕ
partial_text piece = partial_in piece.kind piece.bytes

-- ---- pieces

-- The piece is the construct, with numerals of any length.
pub record ReadsAs (piece : Written Kind) (construct : Construct) : Type 0 where
  pub operator : HasOperator piece.kind piece.bytes construct.operator
  pub partial : IsPartial (partial_text piece) construct.partial

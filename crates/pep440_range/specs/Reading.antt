-- What a piece of a comma list is read as, PEP 440, "Version specifiers": an operator, blanks or none, and what the operator
-- takes.
use Rattle.std.specs.Prelude.{◌≡◌, ◌==◌, nat_lt, nat_le, ℕ, Bool, true, List, [], ◌∷◌, length, if◌then◌else◌, codes, Option, Some, None}
use Rattle.std.specs.List.{list_all}
use Rattle.std.specs.Option.{option_map}
use Rattle.std.specs.Str.{IsUtf8, bytes_eq}
use Rattle.vx_spec.specs.Runs.{is_blank, is_solid, past, without_end}
use Rattle.vx_range.specs.Lists.{Plain, groups_of}
use Rattle.pep440_scheme.specs.Version.{Fields, IsPublic, IsRelease}
use Rattle.pep440_scheme.specs.Spelling.{Spells}
use Rattle.pep440_range.specs.declared.construct.Comparison.{Comparison}
use Rattle.pep440_range.specs.declared.construct.Comparison.TheVariants.{Compatible, LessOrEqual, GreaterOrEqual, Less, Greater}
use Rattle.pep440_range.specs.declared.construct.Operator.{Operator}
use Rattle.pep440_range.specs.declared.construct.Operator.TheVariants as operator_of
use Rattle.pep440_range.specs.declared.construct.Construct.{Construct}
use Rattle.pep440_range.specs.declared.construct.Construct.TheVariants.{Compares, Equal, NotEqual, Within, NotWithin, Identical}

-- a text is a comma list
abbrev pub IsCut : List ℕ → List (List Plain) → Type 0
IsCut text groups = groups ≡ groups_of None text

-- ---- operators

-- an operator as it is written
pub record Written : Type 0 where
  pub signs : List ℕ
  pub operator : Operator

-- The operators. A longer one stands before those that begin it.
abbrev pub operators : List Written
operators =
    record { signs = codes "==="; operator = operator_of.Identical }
    ∷ record { signs = codes "~="; operator = operator_of.Compares Compatible }
    ∷ record { signs = codes "=="; operator = operator_of.Equal }
    ∷ record { signs = codes "!="; operator = operator_of.NotEqual }
    ∷ record { signs = codes "<="; operator = operator_of.Compares LessOrEqual }
    ∷ record { signs = codes ">="; operator = operator_of.Compares GreaterOrEqual }
    ∷ record { signs = codes "<"; operator = operator_of.Compares Less }
    ∷ record { signs = codes ">"; operator = operator_of.Compares Greater }
    ∷ []

-- what stands behind the signs, where the text begins with them
abbrev pub behind : List ℕ → List ℕ → Option (List ℕ)
behind [] text = Some text
behind (sign ∷ signs) [] = None
behind (sign ∷ signs) (b ∷ text) = if b == sign then behind signs text else None

-- an operator, and what stands behind it
pub record Begun : Type 0 where
  pub operator : Operator
  pub rest : List ℕ

-- by the operator, where it is there, or else by the others
abbrev pub begun_by : Operator → Option (List ℕ) → Option Begun → Option Begun
begun_by operator (Some rest) others = Some (record { operator = operator; rest = rest })
begun_by operator None others = others

-- the first operator of a table with which the text begins
abbrev pub first_operator : List Written → List ℕ → Option Begun
first_operator [] text = None
first_operator (entry ∷ table) text = begun_by entry.operator (behind entry.signs text) (first_operator table text)

-- the longest operator with which the text begins
abbrev pub operator_at : List ℕ → Option Begun
operator_at text = first_operator operators text

-- what stands behind the operator and the blanks
abbrev pub operand_of : Begun → List ℕ
operand_of begun = past is_blank begun.rest

-- ---- operands

-- what stands before '.*' at the end of the text, where it ends so
abbrev pub before_star : List ℕ → Option (List ℕ)
before_star [] = None
before_star (b ∷ text) = if bytes_eq (b ∷ text) (codes ".*") then Some [] else option_map (λ front. b ∷ front) (before_star text)

-- the text, or what stands before its '.*'
abbrev pub version_or_release : List ℕ → Option (List ℕ) → List ℕ
version_or_release text None = text
version_or_release text (Some front) = front

-- The text is a 'v' or none, an epoch or none, and a release: it spells a version that has nothing else, and no blank stands at
-- its end.
pub record SpellsRelease (text : List ℕ) (r : Fields) : Type 0 where
  pub spelled : Spells text r
  pub alone : IsRelease r
  pub tight : without_end is_blank text ≡ text

-- "Version matching": a version, or a release followed by '.*', of which the construct is made
abbrev pub TakesEither : (Fields → Construct) → (Fields → Construct) → List ℕ → Option (List ℕ) → Construct → Type 0
TakesEither of_version of_release text None construct = (v : Fields) × Spells text v × (construct ≡ of_version v)
TakesEither of_version of_release text (Some front) construct = (r : Fields) × SpellsRelease front r × (construct ≡ of_release r)

-- "Compatible release": the version has two release numbers or more
abbrev pub has_numbers : Comparison → Fields → Bool
has_numbers Compatible v = nat_le 2 (length v.release)
has_numbers LessOrEqual v = true
has_numbers GreaterOrEqual v = true
has_numbers Less v = true
has_numbers Greater v = true

-- a public version
pub record TakesPublic (how : Comparison) (text : List ℕ) (construct : Construct) : Type 0 where
  pub version : Fields
  pub spelled : Spells text version
  pub public' : IsPublic version
  pub numbers : has_numbers how version ≡ true
  pub is : construct ≡ Compares how version

-- "Arbitrary equality": one byte or more, and no blank among them. (No piece of a comma list has a comma.)
pub record TakesText (text : List ℕ) (construct : Construct) : Type 0 where
  pub some : nat_lt 0 (length text) ≡ true
  pub solid : list_all is_solid text ≡ true
  pub utf8 : IsUtf8 text
  pub is : construct ≡ Identical text

-- the operator takes the operand, and is this construct
abbrev pub Takes : Operator → List ℕ → Construct → Type 0
Takes operator_of.Identical text construct = TakesText text construct
Takes operator_of.Equal text construct = TakesEither Equal Within text (before_star text) construct
Takes operator_of.NotEqual text construct = TakesEither NotEqual NotWithin text (before_star text) construct
Takes (operator_of.Compares how) text construct = TakesPublic how text construct

-- ---- pieces

-- the operator with which a piece begins, where one does, takes what stands behind it
abbrev pub ReadsBy : Option Begun → Construct → Type 0
ReadsBy None construct = ⊥
ReadsBy (Some begun) construct = Takes begun.operator (operand_of begun) construct

-- The piece is the construct, with numerals of any length.
abbrev pub ReadsAs : Plain → Construct → Type 0
ReadsAs piece construct = ReadsBy (operator_at piece.bytes) construct

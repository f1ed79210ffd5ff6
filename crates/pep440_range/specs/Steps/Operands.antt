-- What the reading of an operand answers.
use Rattle.std.specs.Prelude.{◌≡◌, ◌&&◌, nat_le, ℕ, Bool, true, List, length, Option, Some, None}
use Rattle.vx_range.specs.declared.piece.PieceReading.{PieceReading}
use Rattle.vx_range.specs.declared.piece.PieceReading.TheVariants as reading_of
use Rattle.pep440_scheme.specs.Version.{Fields}
use Rattle.pep440_scheme.specs.Spelling.{Spells}
use Rattle.pep440_scheme.specs.Past.{past_numeral_of}
use Rattle.pep440_scheme.specs.Shape.{has_no_label, is_bare}
use Rattle.pep440_range.specs.declared.construct.Construct.{Construct}
use Rattle.pep440_range.specs.declared.construct.Operator.{Operator}
use Rattle.pep440_range.specs.declared.operands.Asked.{Asked}
use Rattle.pep440_range.specs.declared.operands.Asked.TheVariants.{Any, Public, Compatible, Release}
use Rattle.pep440_range.specs.declared.construct.Construct.TheVariants as construct
use Rattle.pep440_range.specs.declared.construct.Comparison.{Comparison}
use Rattle.pep440_range.specs.declared.construct.Comparison.TheVariants as comparison_of
use Rattle.pep440_range.specs.declared.operands.Form.{Form}
use Rattle.pep440_range.specs.declared.operands.Form.TheVariants as form_of
use Rattle.pep440_range.specs.Reading.{Takes, TakesEither, TakesText, version_or_release}
use Rattle.pep440_range.specs.Refusals.{past_by}

-- the version is as it is asked for
abbrev pub is_asked : Asked → Fields → Bool
is_asked Any v = true
is_asked Public v = has_no_label v.local
is_asked Compatible v = has_no_label v.local && nat_le 2 (length v.release)
is_asked Release v = has_no_label v.local && is_bare v

-- the text spells such a version
pub record IsOperand (asked : Asked) (text : List ℕ) (v : Fields) : Type 0 where
  pub spelled : Spells text v
  pub met : is_asked asked v ≡ true

-- what an operator asks of its public version
abbrev pub asked_by : Comparison → Asked
asked_by comparison_of.Compatible = Compatible
asked_by comparison_of.LessOrEqual = Public
asked_by comparison_of.GreaterOrEqual = Public
asked_by comparison_of.Less = Public
asked_by comparison_of.Greater = Public

-- the construct of a form
abbrev pub construct_of : Form → Fields → Construct
construct_of (form_of.Compares how) v = construct.Compares how v
construct_of form_of.Equal v = construct.Equal v
construct_of form_of.NotEqual v = construct.NotEqual v
construct_of form_of.Within v = construct.Within v
construct_of form_of.NotWithin v = construct.NotWithin v

-- of a text that begins at this place
abbrev pub AnswersVersion : Asked → Form → ℕ → List ℕ → PieceReading Construct → Type 0
AnswersVersion asked form at text (reading_of.Construct c) =
    ((v : Fields) × IsOperand asked text v × (c ≡ construct_of form v)) × (past_numeral_of at text ≡ None)
AnswersVersion asked form at text (reading_of.Past place) = ((v : Fields) × IsOperand asked text v) × (past_numeral_of at text ≡ Some place)
AnswersVersion asked form at text reading_of.NoConstruct = (v : Fields) → ¬ (IsOperand asked text v)

-- what is taken of such a text, and where its first numeral past the limit begins
abbrev pub Answers : (Construct → Type 0) → Option ℕ → PieceReading Construct → Type 0
Answers Taken past (reading_of.Construct c) = Taken c × (past ≡ None)
Answers Taken past (reading_of.Past place) = ((c : Construct) × Taken c) × (past ≡ Some place)
Answers Taken past reading_of.NoConstruct = (c : Construct) → ¬ (Taken c)

-- of a version, or a release followed by '.*'
abbrev pub AnswersEither : Form → Form → ℕ → List ℕ → Option (List ℕ) → PieceReading Construct → Type 0
AnswersEither of_version of_release at text star =
    Answers (TakesEither (λ v. construct_of of_version v) (λ v. construct_of of_release v) text star)
    (past_numeral_of at (version_or_release text star))

-- of any text but blanks
abbrev pub AnswersText : List ℕ → PieceReading Construct → Type 0
AnswersText text = Answers (TakesText text) None

-- of an operand that begins at this place
abbrev pub AnswersOperand : Operator → ℕ → List ℕ → PieceReading Construct → Type 0
AnswersOperand operator at text = Answers (Takes operator text) (past_by operator at text)

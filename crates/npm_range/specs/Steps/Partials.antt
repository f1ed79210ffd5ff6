-- What the reading of a partial answers.
use Rattle.std.specs.Prelude.{◌≡◌, ℕ, List, Option, Some, None}
use Rattle.vx_range.specs.declared.piece.PieceReading.{PieceReading}
use Rattle.vx_range.specs.declared.piece.PieceReading.TheVariants.{Construct, Past, NoConstruct}
use Rattle.vx_range.specs.Pieces.{Written}
use Rattle.vx_order.specs.PastParts.{first_past_part}
use Rattle.npm_scheme.specs.Version.{without_build}
use Rattle.npm_scheme.specs.Spelling.{Parts, version_of}
use Rattle.npm_scheme.specs.Past.{past_numeral_of}
use Rattle.npm_range.specs.declared.cutting.Kind.{Kind}
use Rattle.npm_range.specs.declared.construct.Operator.{Operator}
use Rattle.npm_range.specs.declared.construct.Partial.{Partial}
use Rattle.npm_range.specs.declared.construct.Partial.TheVariants.{Full}
use Rattle.npm_range.specs.Reading.{IsOperator, HasOperator, IsPartial}
use Rattle.npm_range.specs.Refusals.{AreCounted}

-- the signs write no operator
abbrev pub NoOperator : List ℕ → Type 0
NoOperator signs = (operator : Operator) → ¬ (IsOperator signs operator)

-- neither do those of the piece
abbrev pub HasNoOperator : Written Kind → Type 0
HasNoOperator piece = (operator : Operator) → ¬ (HasOperator piece.kind piece.bytes operator)

-- the parts of the text that count, and where the first numeral past the limit begins among them
abbrev pub HasFirstPast : ℕ → List ℕ → Option ℕ → Type 0
HasFirstPast at text answer = (parts : List (List ℕ)) × AreCounted text parts × (first_past_part at parts ≡ answer)

-- the version without its build, or where its first numeral past the limit begins
abbrev pub AnswersWhole : ℕ → Parts → PieceReading Partial → Type 0
AnswersWhole at p (Construct partial) = (partial ≡ Full (without_build (version_of p))) × (past_numeral_of at p ≡ None)
AnswersWhole at p (Past place) = past_numeral_of at p ≡ Some place
AnswersWhole at p NoConstruct = ⊥

-- of a text that begins at this place
abbrev pub AnswersPartial : ℕ → List ℕ → PieceReading Partial → Type 0
AnswersPartial at text (Construct partial) = IsPartial text partial × HasFirstPast at text None
AnswersPartial at text (Past place) = ((partial : Partial) × IsPartial text partial) × HasFirstPast at text (Some place)
AnswersPartial at text NoConstruct = (partial : Partial) → ¬ (IsPartial text partial)

-- What the pieces of a text are read as, over any language that says how a text is cut into groups of pieces, what a
-- piece is read as, with numerals of any length, and where its first numeral past the limit begins.
use Rattle.std.specs.Prelude.{◌≡◌, ℕ, List, Option, Some, None}
use Rattle.vx_spec.specs.Each.{AreEach}
use Rattle.vx_spec.specs.Firsts.{IsFirst}
use Rattle.vx_range.specs.declared.piece.PieceReading.{PieceReading}
use Rattle.vx_range.specs.declared.piece.PieceReading.TheVariants.{Construct, Past, NoConstruct}
use Rattle.vx_range.specs.Pieces.{Written}

-- the piece is a construct
abbrev pub IsConstruct : {K C : Type 0} → (Written K → C → Type 0) → Written K → Type 0
IsConstruct {C = C} ReadsAs piece = (construct : C) × ReadsAs piece construct

-- a piece is no construct, at the place where it begins
abbrev pub IsNoConstruct : {K C : Type 0} → (Written K → C → Type 0) → Written K → Option ℕ → Type 0
IsNoConstruct ReadsAs piece None = IsConstruct ReadsAs piece
IsNoConstruct ReadsAs piece (Some at) = ¬ (IsConstruct ReadsAs piece) × (at ≡ piece.at)

-- the first numeral of a piece that is past the limit
abbrev pub IsPastNumeral : {K : Type 0} → (Written K → ℕ → Type 0) → Written K → Option ℕ → Type 0
IsPastNumeral IsPast piece None = (at : ℕ) → ¬ (IsPast piece at)
IsPastNumeral IsPast piece (Some at) = IsPast piece at

-- what the reading of one piece answers
abbrev pub AnswersPiece : {K C : Type 0} → (Written K → C → Type 0) → (Written K → ℕ → Type 0) → Written K → PieceReading C → Type 0
AnswersPiece ReadsAs IsPast piece (Construct construct) = ReadsAs piece construct × IsPastNumeral IsPast piece None
AnswersPiece ReadsAs IsPast piece (Past at) = IsPast piece at
AnswersPiece ReadsAs IsPast piece NoConstruct = ¬ (IsConstruct ReadsAs piece)

-- What the reading of a text answers, where `Reads` says what it is read as, and `past` where its first numeral past the limit
-- begins.
abbrev pub Answers : {C : Type 0} → (C → Type 0) → Option ℕ → PieceReading C → Type 0
Answers Reads past (Construct construct) = Reads construct × (past ≡ None)
Answers {C = C} Reads past (Past at) = ((construct : C) × Reads construct) × (past ≡ Some at)
Answers {C = C} Reads past NoConstruct = (construct : C) → ¬ (Reads construct)

-- What a language promises of its pieces: each is one construct at most, and its first numeral past the limit begins at
-- one place at most, and only in a construct.
pub record PieceLaws {K C : Type 0} (ReadsAs : Written K → C → Type 0) (IsPast : Written K → ℕ → Type 0) : Type 0 where
  pub reads_one : (piece : Written K) (a b : C) → ReadsAs piece a → ReadsAs piece b → a ≡ b
  pub past_one : (piece : Written K) (a b : ℕ) → IsPast piece a → IsPast piece b → a ≡ b
  pub past_reads : (piece : Written K) (at : ℕ) → IsPast piece at → IsConstruct ReadsAs piece

-- What it promises of the cut: a text is cut into groups of pieces in one way, and it is absurd that it is in none.
pub record CutLaws {K : Type 0} (IsCut : List ℕ → List (List (Written K)) → Type 0) : Type 0 where
  pub cut_one : (text : List ℕ) (a b : List (List (Written K))) → IsCut text a → IsCut text b → a ≡ b
  pub cut_some : (text : List ℕ) → ((groups : List (List (Written K))) → ¬ (IsCut text groups)) → ⊥

-- the groups of pieces are these groups of constructs, with numerals of any length
abbrev pub ReadsGroups : {K C : Type 0} → (Written K → C → Type 0) → List (List (Written K)) → List (List C) → Type 0
ReadsGroups ReadsAs groups all = AreEach (AreEach ReadsAs) groups all

-- the text has this reading, with numerals of any length
pub record Reads {K C : Type 0} (IsCut : List ℕ → List (List (Written K)) → Type 0) (ReadsAs : Written K → C → Type 0) (text : List ℕ) (all : List (List C)) : Type 0 where
  pub groups : List (List (Written K))
  pub cut : IsCut text groups
  pub each : ReadsGroups ReadsAs groups all

-- the first piece that is no construct begins there, or none is
abbrev pub FirstSyntax : {K C : Type 0} → (Written K → C → Type 0) → List (List (Written K)) → Option ℕ → Type 0
FirstSyntax ReadsAs groups answer = IsFirst (IsFirst (IsNoConstruct ReadsAs)) groups answer

-- the first numeral past the limit begins there, or none is
abbrev pub FirstNumeral : {K : Type 0} → (Written K → ℕ → Type 0) → List (List (Written K)) → Option ℕ → Type 0
FirstNumeral IsPast groups answer = IsFirst (IsFirst (IsPastNumeral IsPast)) groups answer

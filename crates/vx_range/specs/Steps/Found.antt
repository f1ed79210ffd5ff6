-- What is found on the way through items (the pieces of a group, or the groups of a text): the first refusal of each kind,
-- and, where there is none, what the items make. `Syntax`, `Past`, `Endless` and `TooHigh` say of one item what it is
-- refused for, and `R` what it is read as.
use Rattle.std.specs.Prelude.{◌≡◌, ◌++◌, ℕ, List, [], ◌∷◌, Option, Some, None}
use Rattle.std.specs.Option.{option_or}
use Rattle.vx_spec.specs.Each.{AreEach}
use Rattle.vx_spec.specs.Firsts.{IsFirst}
use Rattle.vx_scheme.specs.declared.range_fault.EndKind.{EndKind}
use Rattle.vx_scheme.specs.declared.range_fault.RangeFault.{RangeFault}
use Rattle.vx_scheme.specs.declared.range_fault.RangeFault.TheVariants as fault_of
use Rattle.vx_scheme.specs.declared.span.Span.{Span}
use Rattle.vx_range.specs.declared.findings.Findings.{Findings}
use Rattle.vx_range.specs.declared.making.Outcome.{Outcome}
use Rattle.vx_range.specs.declared.making.Outcome.TheVariants as made_of
use Rattle.vx_range.specs.Pieces.{Written}
use Rattle.vx_range.specs.Reading.{IsNoConstruct, IsPastNumeral}
use Rattle.vx_range.specs.Making.{mark_behind, marks_behind, made_each, groups_from, IsEndless, IsTooHigh}
use Rattle.vx_range.specs.Steps.Marks.{marks_behind_all}

-- the first refusal of a kind: the one before, or else the one that comes now
pub record IsNoted {X : Type 0} (Refuses : Option X → Type 0) (old new : Option X) : Type 0 where
  pub here : Option X
  pub refused : Refuses here
  pub noted : new ≡ option_or old here

-- nothing is refused so far
abbrev pub IsClear : Findings → Type 0
IsClear findings = (findings.past ≡ None) × (findings.endless ≡ None) × (findings.too_high ≡ None)

-- the refusals of an outcome of a construct that begins at this place
abbrev pub end_of : Outcome → ℕ → Option (EndKind × ℕ)
end_of made_of.Spans at = None
end_of (made_of.NoEnd kind) at = Some (kind, at)
end_of made_of.TooHigh at = None

abbrev pub height_of : Outcome → ℕ → Option ℕ
height_of made_of.Spans at = None
height_of (made_of.NoEnd kind) at = None
height_of made_of.TooHigh at = Some at

-- the refusals of a construct are taken down, or its spans appended
pub record IsConstructFound {V C : Type 0} (spans : ℕ → C → List (Span V)) (outcome : C → Outcome) (construct : C) (at : ℕ) (old new : Findings) (before out : List (Span V)) : Type 0 where
  pub past : new.past ≡ old.past
  pub endless : new.endless ≡ option_or old.endless (end_of (outcome construct) at)
  pub too_high : new.too_high ≡ option_or old.too_high (height_of (outcome construct) at)
  pub made : IsClear new → (out ≡ before ++ spans old.marks construct) × (new.marks ≡ mark_behind spans old.marks construct)

module _ {A B : Type 0} (Syntax Past : A → Option ℕ → Type 0) (Endless : A → Option (EndKind × ℕ) → Type 0) (TooHigh : A → Option ℕ → Type 0) (R : A → B → Type 0) where
  -- what is found at one item
  pub record IsItemFound (item : A) (old new : Findings) (IsMade : B → Type 0) : Type 0 where
    pub syntax' : Syntax item None
    pub past : IsNoted (Past item) old.past new.past
    pub endless : new.past ≡ None → IsNoted (Endless item) old.endless new.endless
    pub too_high : new.past ≡ None → IsNoted (TooHigh item) old.too_high new.too_high
    pub made : IsClear new → (b : B) × R item b × IsMade b

  -- what is found at items
  pub record AreFound (items : List A) (old new : Findings) (IsMade : List B → Type 0) : Type 0 where
    pub syntax' : IsFirst Syntax items None
    pub past : IsNoted (IsFirst Past items) old.past new.past
    pub endless : new.past ≡ None → IsNoted (IsFirst Endless items) old.endless new.endless
    pub too_high : new.past ≡ None → IsNoted (IsFirst TooHigh items) old.too_high new.too_high
    pub made : IsClear new → (all : List B) × AreEach R items all × IsMade all

module _ {K C : Type 0} (ReadsAs : Written K → C → Type 0) (IsPast : Written K → ℕ → Type 0) (outcome : C → Outcome) where
  -- what is found at a piece
  abbrev pub IsPieceFound : Written K → Findings → Findings → (C → Type 0) → Type 0
  IsPieceFound = IsItemFound (IsNoConstruct ReadsAs) (IsPastNumeral IsPast) (IsEndless ReadsAs outcome) (IsTooHigh ReadsAs outcome) ReadsAs

  -- what is found at the pieces of a group
  abbrev pub IsGroupFound : List (Written K) → Findings → Findings → (List C → Type 0) → Type 0
  IsGroupFound = AreFound (IsNoConstruct ReadsAs) (IsPastNumeral IsPast) (IsEndless ReadsAs outcome) (IsTooHigh ReadsAs outcome) ReadsAs

  -- what is found at the groups of a text
  abbrev pub AreGroupsFound : List (List (Written K)) → Findings → Findings → (List (List C) → Type 0) → Type 0
  AreGroupsFound = AreFound (IsFirst (IsNoConstruct ReadsAs)) (IsFirst (IsPastNumeral IsPast)) (IsFirst (IsEndless ReadsAs outcome)) (IsFirst (IsTooHigh ReadsAs outcome)) (AreEach ReadsAs)

-- the spans of a construct are appended, and the marks run on
abbrev pub AppendsSpans : {V C : Type 0} → (ℕ → C → List (Span V)) → ℕ → ℕ → List (Span V) → List (Span V) → C → Type 0
AppendsSpans spans mark next before out construct = (out ≡ before ++ spans mark construct) × (next ≡ mark_behind spans mark construct)

-- the spans of a construct are added to what those before it became together, and the marks run on
abbrev pub AddsSpans : {V C G : Type 0} → (List (List (Span V)) → G) → (ℕ → C → List (Span V)) → ℕ → ℕ → G → G → C → Type 0
AddsSpans {V = V} together spans mark next before out construct =
    ((each : List (List (Span V))) → before ≡ together each → out ≡ together (each ++ spans mark construct ∷ [])) × (next ≡ mark_behind spans mark construct)

-- what the spans of a group's constructs became together, and the mark behind them
abbrev pub IsGroupMade : {V C G : Type 0} → (List (List (Span V)) → G) → (ℕ → C → List (Span V)) → ℕ → ℕ → G → List C → Type 0
IsGroupMade together spans mark next shape group = (shape ≡ together (made_each spans mark group)) × (next ≡ marks_behind spans mark group)

-- what the groups became, and the mark behind them
abbrev pub AreGroupsMade : {V C G : Type 0} → (List (List (Span V)) → G) → (ℕ → C → List (Span V)) → ℕ → ℕ → List G → List (List C) → Type 0
AreGroupsMade together spans mark next shapes all = (shapes ≡ groups_from spans together mark all) × (next ≡ marks_behind_all spans mark all)

-- the first item that is no construct begins at the place of a fault of syntax
abbrev pub IsSyntaxOf : {A : Type 0} → (A → Option ℕ → Type 0) → List A → RangeFault → Type 0
IsSyntaxOf Syntax items (fault_of.Syntax at) = IsFirst Syntax items (Some at)
IsSyntaxOf Syntax items (fault_of.Numeral at) = ⊥
IsSyntaxOf Syntax items (fault_of.NoEndpoint kind at) = ⊥
IsSyntaxOf Syntax items fault_of.NoMemory = ⊥

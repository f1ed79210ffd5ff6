-- What constructs make in a domain: spans with running marks, or nothing, for want of an end or because a numeral cannot
-- be raised. `spans` are those of one construct whose first cut has this mark, and `outcome` says what it makes.
use Rattle.std.specs.Prelude.{◌≡◌, ◌+◌, ℕ, Bool, List, [], ◌∷◌, length, Option, Some, None}
use Rattle.std.specs.List.{list_any, list_all}
use Rattle.vx_spec.specs.Each.{joined}
use Rattle.vx_spec.specs.Firsts.{IsFirst}
use Rattle.vx_scheme.specs.declared.range_fault.EndKind.{EndKind}
use Rattle.vx_scheme.specs.declared.span.Span.{Span}
use Rattle.vx_scheme.specs.Cuts.{cuts_of}
use Rattle.vx_range.specs.declared.making.Outcome.{Outcome}
use Rattle.vx_range.specs.declared.making.Outcome.TheVariants.{NoEnd, TooHigh}
use Rattle.vx_range.specs.Pieces.{Written}

module _ {V C : Type 0} (spans : ℕ → C → List (Span V)) where
  -- the mark behind those of a construct, and of constructs
  abbrev pub mark_behind : ℕ → C → ℕ
  mark_behind mark construct = mark + length (cuts_of (spans mark construct))

  abbrev pub marks_behind : ℕ → List C → ℕ
  marks_behind mark [] = mark
  marks_behind mark (construct ∷ group) = marks_behind (mark_behind mark construct) group

  -- the spans of each construct, with marks that run on
  abbrev pub made_each : ℕ → List C → List (List (Span V))
  made_each mark [] = []
  made_each mark (construct ∷ group) = spans mark construct ∷ made_each (mark_behind mark construct) group

  -- what the groups become, where `together` says what the spans of a group's constructs become; the marks run on
  abbrev pub groups_from : {G : Type 0} → (List (List (Span V)) → G) → ℕ → List (List C) → List G
  groups_from together mark [] = []
  groups_from together mark (group ∷ all) = together (made_each mark group) ∷ groups_from together (marks_behind mark group) all

  -- the groups are alternatives, and each construct is a term
  abbrev pub alternatives_from : ℕ → List (List C) → List (List (List (Span V)))
  alternatives_from mark all = groups_from (λ terms. terms) mark all

  -- the groups are terms, and their constructs' spans are united
  abbrev pub terms_from : ℕ → List (List C) → List (List (Span V))
  terms_from mark all = groups_from joined mark all

-- the bounds of groups that are alternatives
abbrev pub alternatives_of : {V C : Type 0} → (ℕ → C → List (Span V)) → List (List C) → List (List (List (Span V)))
alternatives_of spans all = alternatives_from spans 0 all

-- the bounds of groups that are terms: one alternative
abbrev pub terms_of : {V C : Type 0} → (ℕ → C → List (Span V)) → List (List C) → List (List (List (Span V)))
terms_of spans all = terms_from spans 0 all ∷ []

-- groups that are alternatives: in one of them all constructs hold of the version
abbrev pub alternatives_hold : {V C : Type 0} → (C → V → Bool) → List (List C) → V → Bool
alternatives_hold holds all v = list_any (λ group. list_all (λ construct. holds construct v) group) all

-- groups that are terms: in each of them some construct holds of the version
abbrev pub terms_hold : {V C : Type 0} → (C → V → Bool) → List (List C) → V → Bool
terms_hold holds all v = list_all (λ group. list_any (λ construct. holds construct v) group) all

-- ---- what cannot be made

-- the piece is a construct that makes this
abbrev pub Makes : {K C : Type 0} → (Written K → C → Type 0) → (C → Outcome) → Written K → Outcome → Type 0
Makes {C = C} ReadsAs outcome piece made = (construct : C) × ReadsAs piece construct × (outcome construct ≡ made)

-- a construct that has no end: of which kind, and where its piece begins
abbrev pub IsEndless : {K C : Type 0} → (Written K → C → Type 0) → (C → Outcome) → Written K → Option (EndKind × ℕ) → Type 0
IsEndless ReadsAs outcome piece None = (kind : EndKind) → ¬ (Makes ReadsAs outcome piece (NoEnd kind))
IsEndless ReadsAs outcome piece (Some (kind, at)) = Makes ReadsAs outcome piece (NoEnd kind) × (at ≡ piece.at)

-- a construct with a numeral that cannot be raised within the limit, and where its piece begins
abbrev pub IsTooHigh : {K C : Type 0} → (Written K → C → Type 0) → (C → Outcome) → Written K → Option ℕ → Type 0
IsTooHigh ReadsAs outcome piece None = ¬ (Makes ReadsAs outcome piece TooHigh)
IsTooHigh ReadsAs outcome piece (Some at) = Makes ReadsAs outcome piece TooHigh × (at ≡ piece.at)

-- the first construct that has no end, or none has none
abbrev pub FirstEndless : {K C : Type 0} → (Written K → C → Type 0) → (C → Outcome) → List (List (Written K)) → Option (EndKind × ℕ) → Type 0
FirstEndless ReadsAs outcome groups answer = IsFirst (IsFirst (IsEndless ReadsAs outcome)) groups answer

-- the first construct that cannot be raised, or none is such
abbrev pub FirstTooHigh : {K C : Type 0} → (Written K → C → Type 0) → (C → Outcome) → List (List (Written K)) → Option ℕ → Type 0
FirstTooHigh ReadsAs outcome groups answer = IsFirst (IsFirst (IsTooHigh ReadsAs outcome)) groups answer

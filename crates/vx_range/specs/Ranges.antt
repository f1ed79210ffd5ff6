-- A range language: which versions are in a text, which bounds the text makes in a domain, and what it is refused for.
use Rattle.std.specs.Prelude.{◌≡◌, ◌⊎◌, ℕ, Bool, true, List, Some, None}
use Rattle.vx_scheme.specs.declared.range_fault.RangeFault.{RangeFault}
use Rattle.vx_scheme.specs.declared.range_fault.RangeFault.TheVariants.{Syntax, Numeral, NoEndpoint, NoMemory}
use Rattle.vx_range.specs.declared.making.Outcome.{Outcome}
use Rattle.vx_range.specs.Pieces.{Written}
use Rattle.vx_range.specs.Reading.{ReadsGroups, Reads, FirstSyntax, FirstNumeral}
use Rattle.vx_range.specs.Making.{FirstEndless, FirstTooHigh}

-- the text has a reading
abbrev pub IsRange : {K C : Type 0} → (List ℕ → List (List (Written K)) → Type 0) → (Written K → C → Type 0) → List ℕ → Type 0
IsRange {C = C} IsCut ReadsAs text = (all : List (List C)) × Reads IsCut ReadsAs text all

-- the version is in the text: the constructs of its reading hold of it together
abbrev pub In : {K C V : Type 0} → (List ℕ → List (List (Written K)) → Type 0) → (Written K → C → Type 0) → (List (List C) → V → Bool) → List ℕ → V → Type 0
In {C = C} IsCut ReadsAs holds_all text v = (all : List (List C)) × Reads IsCut ReadsAs text all × (holds_all all v ≡ true)

-- The text makes these bounds: it has a reading whose numerals are within the limit, each construct makes spans, and the
-- bounds are made of those.
pub record MakesBounds {K C B : Type 0} (IsCut : List ℕ → List (List (Written K)) → Type 0) (ReadsAs : Written K → C → Type 0) (IsPast : Written K → ℕ → Type 0) (outcome : C → Outcome) (bounds_of : List (List C) → B) (text : List ℕ) (bounds : B) : Type 0 where
  pub groups : List (List (Written K))
  pub cut : IsCut text groups
  pub all : List (List C)
  pub each : ReadsGroups ReadsAs groups all
  pub within : FirstNumeral IsPast groups None
  pub ended : FirstEndless ReadsAs outcome groups None
  pub raised : FirstTooHigh ReadsAs outcome groups None
  pub are : bounds ≡ bounds_of all

-- The first refusal of groups of pieces: the first piece that is no construct; else the first numeral past the limit;
-- else the first construct that has no end; else the first that cannot be raised.
abbrev pub RefusesGroups : {K C : Type 0} → (Written K → C → Type 0) → (Written K → ℕ → Type 0) → (C → Outcome) → List (List (Written K)) → RangeFault → Type 0
RefusesGroups ReadsAs IsPast outcome groups (Syntax at) = FirstSyntax ReadsAs groups (Some at)
RefusesGroups ReadsAs IsPast outcome groups (Numeral at) =
    FirstSyntax ReadsAs groups None
    × (FirstNumeral IsPast groups (Some at) ⊎ (FirstNumeral IsPast groups None × FirstEndless ReadsAs outcome groups None × FirstTooHigh ReadsAs outcome groups (Some at)))
RefusesGroups ReadsAs IsPast outcome groups (NoEndpoint kind at) =
    FirstSyntax ReadsAs groups None × FirstNumeral IsPast groups None × FirstEndless ReadsAs outcome groups (Some (kind, at))
RefusesGroups ReadsAs IsPast outcome groups NoMemory = ⊥

-- the first refusal of a text
pub record RefusesText {K C : Type 0} (IsCut : List ℕ → List (List (Written K)) → Type 0) (ReadsAs : Written K → C → Type 0) (IsPast : Written K → ℕ → Type 0) (outcome : C → Outcome) (text : List ℕ) (fault : RangeFault) : Type 0 where
  pub groups : List (List (Written K))
  pub cut : IsCut text groups
  pub refused : RefusesGroups ReadsAs IsPast outcome groups fault

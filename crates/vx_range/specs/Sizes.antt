-- How many constructs a text has, and how many cuts bounds have.
use Rattle.std.specs.Prelude.{◌≡◌, ◌≤◌, ℕ, List, length}
use Rattle.vx_spec.specs.Each.{joined}
use Rattle.vx_scheme.specs.declared.span.Span.{Span}
use Rattle.vx_scheme.specs.Cuts.{cuts_of}
use Rattle.vx_range.specs.Pieces.{Written}
use Rattle.vx_range.specs.Reading.{Reads}

-- the cuts of all spans of bounds
abbrev pub cut_count : {V : Type 0} → List (List (List (Span V))) → ℕ
cut_count bounds = length (cuts_of (joined (joined bounds)))

-- the text has n constructs: those of its groups, by its reading (a language whose groups have parts of one construct counts
-- for itself)
abbrev pub HasConstructs : {K C : Type 0} → (List ℕ → List (List (Written K)) → Type 0) → (Written K → C → Type 0) → List ℕ → ℕ → Type 0
HasConstructs {C = C} IsCut ReadsAs text n = (all : List (List C)) × Reads IsCut ReadsAs text all × (n ≡ length (joined all))

-- a construct makes two cuts at most, whatever its mark
abbrev pub HasTwoCuts : {V C : Type 0} → (ℕ → C → List (Span V)) → Type 0
HasTwoCuts {C = C} spans = (mark : ℕ) (construct : C) → length (cuts_of (spans mark construct)) ≤ 2

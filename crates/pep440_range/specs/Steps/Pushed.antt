-- What is appended of a construct.
use Rattle.std.specs.Prelude.{◌≡◌, ◌+◌, ℕ, List, ◌++◌, length, Option, Some, None}
use Rattle.vx_scheme.specs.declared.domain.Domain.{Domain}
use Rattle.vx_scheme.specs.declared.span.Span.{Span}
use Rattle.vx_scheme.specs.Cuts.{cuts_of}
use Rattle.vx_range.specs.declared.making.Outcome.{Outcome}
use Rattle.vx_range.specs.declared.making.Outcome.TheVariants.{Spans, NoEnd, TooHigh}
use Rattle.pep440_scheme.specs.Version.{Fields}
use Rattle.pep440_scheme.specs.Next.{last_number}
use Rattle.pep440_range.specs.declared.construct.Construct.{Construct}
use Rattle.pep440_range.specs.Holds.{prefix_of}
use Rattle.pep440_range.specs.Refusals.{outcome}
use Rattle.pep440_range.specs.Spans.{made_spans}

-- where spans come of it, they are appended, with marks that run on
abbrev pub IsPushed : Outcome → List (Span Fields) → ℕ → ℕ → List (Span Fields) → List (Span Fields) → Outcome → Type 0
IsPushed expected spans mark next old new Spans = (expected ≡ Spans) × (new ≡ old ++ spans) × (next ≡ mark + length (cuts_of spans))
IsPushed expected spans mark next old new (NoEnd kind) = expected ≡ NoEnd kind
IsPushed expected spans mark next old new TooHigh = expected ≡ TooHigh

-- those of a construct
abbrev pub IsPushedFor : Domain → Construct → ℕ → ℕ → List (Span Fields) → List (Span Fields) → Outcome → Type 0
IsPushedFor domain construct mark = IsPushed (outcome domain construct) (made_spans domain mark construct) mark

-- a version that is made by raising a numeral, or none where it cannot be raised
abbrev pub IsStep : Outcome → Fields → Option Fields → Type 0
IsStep expected next (Some version) = (expected ≡ Spans) × (version ≡ next)
IsStep expected next None = expected ≡ TooHigh

-- the epoch and the release of a version without its last number, or none where it has no other
abbrev pub IsPrefix : Fields → Option Fields → Type 0
IsPrefix version (Some prefix) = prefix ≡ prefix_of version
IsPrefix version None = last_number (prefix_of version).release ≡ None

-- What is refused of a construct, by this project's own limits and domains: a numeral past 2^128-1; a construct that has no end
-- in the domain; and a numeral that cannot be raised within 2^128-1.
use Rattle.std.specs.Prelude.{◌≡◌, ◌+◌, ◌-◌, ◌^◌, nat_lt, ℕ, List, [], ◌∷◌, length, if◌then◌else◌, Option, Some, None}
use Rattle.vx_scheme.specs.declared.domain.Domain.{Domain}
use Rattle.vx_scheme.specs.declared.domain.Domain.TheVariants.{All, Releases}
use Rattle.vx_scheme.specs.declared.ident.Ident.{Ident}
use Rattle.vx_scheme.specs.declared.range_fault.EndKind.TheVariants.{GreaterThanFinal, ArbitraryEquality}
use Rattle.vx_range.specs.declared.making.Outcome.{Outcome}
use Rattle.vx_range.specs.declared.making.Outcome.TheVariants.{Spans, NoEnd, TooHigh}
use Rattle.vx_range.specs.Lists.{Plain}
use Rattle.pep440_scheme.specs.declared.version.PrePart.{PrePart}
use Rattle.pep440_scheme.specs.Version.{Fields, IsWithin, public_of}
use Rattle.pep440_scheme.specs.Next.{last_number, pre_number, raised_of}
use Rattle.pep440_scheme.specs.Past.{past_numeral_of}
use Rattle.pep440_range.specs.declared.construct.Comparison.{Comparison}
use Rattle.pep440_range.specs.declared.construct.Comparison.TheVariants.{Compatible, LessOrEqual, GreaterOrEqual, Less, Greater}
use Rattle.pep440_range.specs.declared.construct.Construct.{Construct}
use Rattle.pep440_range.specs.declared.construct.Construct.TheVariants.{Compares, Equal, NotEqual, Within, NotWithin, Identical}
use Rattle.pep440_range.specs.declared.construct.Operator.{Operator}
use Rattle.pep440_range.specs.declared.construct.Operator.TheVariants as operator_of
use Rattle.pep440_range.specs.Holds.{prefix_of}
use Rattle.pep440_range.specs.Reading.{Begun, ReadsAs, before_star, operand_of, operator_at, version_or_release}

-- ---- numerals past the limit

-- Where in an operand that begins at this place the first numeral past the limit begins. What `===` takes has no numerals.
abbrev pub past_by : Operator → ℕ → List ℕ → Option ℕ
past_by operator_of.Identical at operand = None
past_by operator_of.Equal at operand = past_numeral_of at (version_or_release operand (before_star operand))
past_by operator_of.NotEqual at operand = past_numeral_of at (version_or_release operand (before_star operand))
past_by (operator_of.Compares how) at operand = past_numeral_of at operand

-- where the operand begins in the range text: it is what stands last in the piece
abbrev pub operand_place : Plain → List ℕ → ℕ
operand_place piece operand = piece.at + (length piece.bytes - length operand)

abbrev pub past_behind : Plain → Option Begun → Option ℕ
past_behind piece None = None
past_behind piece (Some begun) = past_by begun.operator (operand_place piece (operand_of begun)) (operand_of begun)

-- The piece is a construct, and the first numeral of it that is past the limit begins at this place of the range text.
pub record IsPast (piece : Plain) (at : ℕ) : Type 0 where
  pub construct : Construct
  pub reads : ReadsAs piece construct
  pub first : past_behind piece (operator_at piece.bytes) ≡ Some at

-- each numeral of a construct is within 2^128-1
abbrev pub ConstructIsWithin : Construct → Type 0
ConstructIsWithin (Compares how bound) = IsWithin bound
ConstructIsWithin (Equal bound) = IsWithin bound
ConstructIsWithin (NotEqual bound) = IsWithin bound
ConstructIsWithin (Within r) = IsWithin r
ConstructIsWithin (NotWithin r) = IsWithin r
ConstructIsWithin (Identical text) = Unit {0}

-- ---- numerals that are raised

-- one more than the number, where there is one to raise, is within the limit
abbrev pub raised : Option ℕ → Outcome
raised None = Spans
raised (Some n) = if nat_lt (n + 1) (2 ^ 128) then Spans else TooHigh

-- the same of a number that has to be there
abbrev pub bumped : Option ℕ → Outcome
bumped None = TooHigh
bumped (Some n) = raised (Some n)

-- `==V`, `!=V`
abbrev pub equal_outcome : Domain → Fields → List Ident → Outcome
equal_outcome All bound [] = raised (raised_of bound)
equal_outcome All bound (part ∷ parts) = Spans
equal_outcome Releases bound local = Spans

-- `>V`
abbrev pub greater_outcome : Fields → Option PrePart → Option ℕ → Option ℕ → Outcome
greater_outcome bound pre post (Some dev) = raised (raised_of bound)
greater_outcome bound pre (Some post) None = raised (raised_of bound)
greater_outcome bound (Some pre) None None = raised (pre_number (Some pre))
greater_outcome bound None None None = NoEnd GreaterThanFinal

-- the operators that take a public V
abbrev pub compared_outcome : Comparison → Domain → Fields → Outcome
compared_outcome Compatible domain bound = bumped (last_number (prefix_of bound).release)
compared_outcome LessOrEqual All bound = raised (raised_of bound)
compared_outcome LessOrEqual Releases bound = Spans
compared_outcome GreaterOrEqual domain bound = Spans
compared_outcome Less domain bound = Spans
compared_outcome Greater All bound = greater_outcome bound bound.pre bound.post bound.dev
compared_outcome Greater Releases bound = Spans

-- what becomes of a construct in a domain
abbrev pub outcome : Domain → Construct → Outcome
outcome domain (Compares how bound) = compared_outcome how domain (public_of bound)
outcome domain (Equal bound) = equal_outcome domain bound bound.local
outcome domain (NotEqual bound) = equal_outcome domain bound bound.local
outcome domain (Within r) = bumped (last_number r.release)
outcome domain (NotWithin r) = bumped (last_number r.release)
outcome domain (Identical text) = NoEnd ArbitraryEquality

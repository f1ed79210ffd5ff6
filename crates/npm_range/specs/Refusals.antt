-- What is refused of a construct, a limit of this project: a numeral past 2^128-1, or one that cannot be raised within it.
use Rattle.std.specs.Prelude.{◌≡◌, ◌==◌, ◌+◌, ◌-◌, ◌<◌, ◌^◌, nat_lt, ℕ, Bool, true, List, ◌∷◌, ◌⊎◌, length, if◌then◌else◌, Option, Some, None}
use Rattle.vx_range.specs.declared.making.Outcome.{Outcome}
use Rattle.vx_range.specs.declared.making.Outcome.TheVariants.{Spans, TooHigh}
use Rattle.vx_range.specs.Pieces.{Written}
use Rattle.vx_order.specs.PastParts.{first_past_part}
use Rattle.npm_scheme.specs.Version.{IsWithin}
use Rattle.npm_scheme.specs.Spelling.{Parts}
use Rattle.npm_scheme.specs.Written.{IsVersionWritten}
use Rattle.npm_range.specs.declared.cutting.Kind.{Kind}
use Rattle.npm_range.specs.declared.construct.Construct.{Construct}
use Rattle.npm_range.specs.declared.construct.Operator.{Operator}
use Rattle.npm_range.specs.declared.construct.Operator.TheVariants.{Equal, Less, LessEqual, Greater, GreaterEqual, Tilde, Caret}
use Rattle.npm_range.specs.declared.construct.Partial.{Partial}
use Rattle.npm_range.specs.declared.construct.Partial.TheVariants.{Any, Major, Minor, Full}
use Rattle.npm_range.specs.Reading.{is_short, numbers, before_any, partial_text, ReadsAs}

-- ---- numerals past the limit

-- The parts of a partial's text that count, with one byte between each two: of one to three numbers those before the
-- first sign for any number, and of a whole version its numbers and pre-release identifiers, but not its build.
abbrev pub AreCounted : List ℕ → List (List ℕ) → Type 0
AreCounted text parts =
    ((is_short text ≡ true) × (parts ≡ before_any (numbers text)))
    ⊎ ((p : Parts) × IsVersionWritten text p × (parts ≡ p.major ∷ p.minor ∷ p.patch ∷ p.pre))

-- Where the text of a partial, without its `v`, begins in the range text: it is what stands last in the piece.
abbrev pub partial_place : Written Kind → ℕ
partial_place piece = piece.at + (length piece.bytes - length (partial_text piece))

-- The piece is a construct, and the first numeral of it that is past the limit begins at this place of the range text.
pub record IsPast (piece : Written Kind) (at : ℕ) : Type 0 where
  pub construct : Construct
  pub reads : ReadsAs piece construct
  pub parts : List (List ℕ)
  pub counted : AreCounted (partial_text piece) parts
  pub first : first_past_part (partial_place piece) parts ≡ Some at

-- each numeral of a partial is within 2^128-1
abbrev pub PartialIsWithin : Partial → Type 0
PartialIsWithin Any = Unit {0}
PartialIsWithin (Major major) = major < 2 ^ 128
PartialIsWithin (Minor major minor) = (major < 2 ^ 128) × (minor < 2 ^ 128)
PartialIsWithin (Full version) = IsWithin version

-- ---- numerals that are raised

-- the last numeral of a partial of one or two
abbrev pub last_numeral : Partial → Option ℕ
last_numeral (Full version) = None
last_numeral (Minor major minor) = Some minor
last_numeral (Major major) = Some major
last_numeral Any = None

-- `~` raises the second number of a full version
abbrev pub raised_by_tilde : Partial → Option ℕ
raised_by_tilde (Full version) = Some version.minor
raised_by_tilde (Minor major minor) = Some minor
raised_by_tilde (Major major) = Some major
raised_by_tilde Any = None

-- `^` raises the first numeral that is not 0, or the last where all are 0
abbrev pub raised_by_caret : Partial → Option ℕ
raised_by_caret (Full version) = Some (if version.major == 0 then (if version.minor == 0 then version.patch else version.minor) else version.major)
raised_by_caret (Minor major minor) = Some (if major == 0 then minor else major)
raised_by_caret (Major major) = Some major
raised_by_caret Any = None

-- the numeral that an operator raises by one in the partial, if any
abbrev pub raised_numeral : Operator → Partial → Option ℕ
raised_numeral Equal = last_numeral
raised_numeral Greater = last_numeral
raised_numeral GreaterEqual = λ _. None
raised_numeral Less = λ _. None
raised_numeral LessEqual = last_numeral
raised_numeral Tilde = raised_by_tilde
raised_numeral Caret = raised_by_caret

-- one more than it is within the limit
abbrev pub is_raisable : Option ℕ → Bool
is_raisable None = true
is_raisable (Some numeral) = nat_lt (numeral + 1) (2 ^ 128)

-- what becomes of a construct, the same in each domain
abbrev pub outcome : Construct → Outcome
outcome c = if is_raisable (raised_numeral c.operator c.partial) then Spans else TooHigh

-- What is refused of a requirement, a limit of this project and of `semver`: a text that `semver` does not read, and a number that
-- cannot be raised within 2^64-1.
use Rattle.std.specs.Prelude.{◌≡◌, ◌⊎◌, ◌+◌, ◌==◌, ◌^◌, nat_lt, ℕ, Bool, false, true, List, length, slice_get, if◌then◌else◌, Option, Some, None, Ok, Err}
use Rattle.std.specs.List.{list_all, prefix_len, slice_split}
use Rattle.semver.specs.Parse.{Held, req_of}
use Rattle.semver.specs.declared.error.Error.{Error}
use Rattle.semver.specs.declared.Op.{Op}
use Rattle.semver.specs.declared.Op.TheVariants.{Exact, Greater, GreaterEq, Less, LessEq, Tilde, Caret, Wildcard}
use Rattle.vx_scheme.specs.declared.range_fault.RangeFault.{RangeFault}
use Rattle.vx_scheme.specs.declared.range_fault.RangeFault.TheVariants.{Syntax, Numeral, NoEndpoint, NoMemory}
use Rattle.vx_text.specs.declared.cutting.Piece.{Piece}
use Rattle.vx_text.specs.Pieces.{places}
use Rattle.cargo_range.specs.declared.construct.Partial.{Partial}
use Rattle.cargo_range.specs.declared.construct.Partial.TheVariants.{Major, Minor, Full}
use Rattle.cargo_range.specs.declared.construct.Construct.{Construct}
use Rattle.cargo_range.specs.Reading.{Reads, forms_of}

-- ---- texts that are no requirement

-- `semver` refuses the text
abbrev pub IsNoRequirement : List ℕ → Type 0
IsNoRequirement text = (error : Error) × (req_of text ≡ Err error)

-- `semver` reads the text, and one of the comparators has no form; that it reads none such is a law
abbrev pub HasFormless : List ℕ → Type 0
HasFormless text = (held : List Held) × (req_of text ≡ Ok held) × (forms_of held ≡ None)

-- ---- numbers that are raised

-- the last number of one or two
abbrev pub last_number : Partial → Option ℕ
last_number (Full version) = None
last_number (Minor major minor) = Some minor
last_number (Major major) = Some major

-- `~` raises the second number of three
abbrev pub raised_by_tilde : Partial → Option ℕ
raised_by_tilde (Full version) = Some version.1
raised_by_tilde (Minor major minor) = Some minor
raised_by_tilde (Major major) = Some major

-- `^` raises the first number, or the second where the first is 0 and a second is named; of three numbers of which the first two are 0 it raises
-- none
abbrev pub raised_by_caret : Partial → Option ℕ
raised_by_caret (Full version) = if version.0 == 0 then (if version.1 == 0 then None else Some version.1) else Some version.0
raised_by_caret (Minor major minor) = if major == 0 then Some minor else Some major
raised_by_caret (Major major) = Some major

-- the number that an operator raises by one, if any
abbrev pub raised_number : Op → Partial → Option ℕ
raised_number Exact = last_number
raised_number Wildcard = last_number
raised_number Greater = last_number
raised_number GreaterEq = λ _. None
raised_number Less = λ _. None
raised_number LessEq = last_number
raised_number Tilde = raised_by_tilde
raised_number Caret = raised_by_caret

-- one more than it is within the limit
abbrev pub is_raisable : Option ℕ → Bool
is_raisable None = true
is_raisable (Some number) = nat_lt (number + 1) (2 ^ 64)

-- the comparator has no number that cannot be raised
abbrev pub can_raise : Construct → Bool
can_raise construct = is_raisable (raised_number construct.operator construct.partial)

-- ---- places

-- where a piece begins, or the end of the text where there is none
abbrev pub start_or : ℕ → Option Piece → ℕ
start_or end None = end
start_or end (Some piece) = piece.start

-- where the i-th piece of the text between its commas (44) begins, or the length of the text where there are fewer
abbrev pub place_of : List ℕ → ℕ → ℕ
place_of text i = start_or (length text) (slice_get (places 0 (slice_split (λ b. b == 44) text)) i)

-- ---- refusals

-- the first comparator that cannot be raised begins there
pub record IsTooHigh (text : List ℕ) (at : ℕ) : Type 0 where
  pub all : List Construct
  pub reads : Reads text all
  pub some : list_all can_raise all ≡ false
  pub place : at ≡ place_of text (prefix_len can_raise all)

-- The first refusal of a text: that it is no requirement, at 0; else the first comparator that cannot be raised.
abbrev pub RefusesText : List ℕ → RangeFault → Type 0
RefusesText text (Syntax at) = (at ≡ 0) × (IsNoRequirement text ⊎ HasFormless text)
RefusesText text (Numeral at) = IsTooHigh text at
RefusesText text (NoEndpoint kind at) = ⊥
RefusesText text NoMemory = ⊥

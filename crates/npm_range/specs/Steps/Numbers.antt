-- One to three numbers, from left to right.
use Rattle.std.specs.Prelude.{◌≡◌, ◌+◌, ◌<◌, ◌^◌, ℕ, true, List, [], ◌∷◌, length, Option, Some, None, Result, Ok, Err}
use Rattle.std.specs.List.{list_all}
use Rattle.vx_order.specs.PastParts.{first_past_part}
use Rattle.npm_range.specs.declared.construct.Partial.{Partial}
use Rattle.npm_range.specs.declared.partials.Numbers.{Numbers}
use Rattle.npm_range.specs.Reading.{is_number, numbers, before_any, values, partial_of}

-- what stands there is numbers, and within the places of a text
abbrev pub AreNumbers : Option Numbers → Type 0
AreNumbers None = Unit {0}
AreNumbers (Some n) = (list_all is_number (numbers n.text.now) ≡ true) × (n.at + length n.text.now < 2 ^ 64)

-- their values before the first sign for any number
abbrev pub values_in : Option Numbers → List ℕ
values_in None = []
values_in (Some n) = values n.text.now

-- where the first of the numbers of a text that begins at this place begins that is past the limit
abbrev pub past_of : ℕ → List ℕ → Option ℕ
past_of at text = first_past_part at (before_any (numbers text))

abbrev pub past_in : Option Numbers → Option ℕ
past_in None = None
past_in (Some n) = past_of n.at n.text.now

-- of numbers with these values and this first numeral past the limit: the first of them, and those behind it
abbrev pub LeadsTo : List ℕ → Option ℕ → Result (Option (ℕ × Option Numbers)) ℕ → Type 0
LeadsTo values past (Ok None) = (values ≡ []) × (past ≡ None)
LeadsTo values past (Ok (Some (number, behind))) = (values ≡ number ∷ values_in behind) × (past ≡ past_in behind) × AreNumbers behind
LeadsTo values past (Err at) = past ≡ Some at

-- the partial, whose numerals are within the limit, or where the first is that is past it
abbrev pub AnswersShort : ℕ → List ℕ → Result Partial ℕ → Type 0
AnswersShort at text (Ok partial) = (partial ≡ partial_of (values text)) × (past_of at text ≡ None)
AnswersShort at text (Err place) = past_of at text ≡ Some place

-- What is answered where a text has no reading, and the forms before others.
use Rattle.std.specs.Prelude.{◌≡◌, ◌++◌, ℕ, List, Option, Some, None}
use Rattle.semver.specs.Parse.{Held}
use Rattle.vx_scheme.specs.declared.range_fault.RangeFault.{RangeFault}
use Rattle.vx_scheme.specs.declared.range_fault.RangeFault.TheVariants.{Syntax, Numeral, NoEndpoint, NoMemory}
use Rattle.cargo_range.specs.declared.construct.Construct.{Construct}
use Rattle.cargo_range.specs.Reading.{form_of, forms_of}
use Rattle.cargo_range.specs.Refusals.{IsNoRequirement}

-- the text is no requirement, or memory ended
abbrev pub IsNoReading : List ℕ → RangeFault → Type 0
IsNoReading text (Syntax at) = (at ≡ 0) × IsNoRequirement text
IsNoReading text (Numeral at) = ⊥
IsNoReading text (NoEndpoint kind at) = ⊥
IsNoReading text NoMemory = Unit {0}

-- the comparator has a form, and each of these has one
abbrev pub HasForm : Held → Type 0
HasForm c = (form : Construct) × (form_of c ≡ Some form)

abbrev pub HaveForms : List Held → Type 0
HaveForms held = (all : List Construct) × (forms_of held ≡ Some all)

-- these before the others, where those are there
abbrev pub with_forms : List Construct → Option (List Construct) → Option (List Construct)
with_forms all None = None
with_forms all (Some more) = Some (all ++ more)

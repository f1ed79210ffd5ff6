-- The parts of a text as the program holds them: what stands between two signs still joined.
use Rattle.std.specs.Prelude.{◌≡◌, ◌&&◌, ◌<◌, ◌^◌, nat_lt, Bool, List, [], ◌∷◌, length, ℕ}
use Rattle.std.specs.Option.{option_copied}
use Rattle.std.specs.List.{list_all}
use Rattle.vx_spec.specs.Numerals.{is_numeral, value}
use Rattle.vx_order.specs.Dotted.{dotted, pieces}
use Rattle.vx_order.specs.Identifiers.{is_identifier}
use Rattle.nuget_scheme.specs.Spelling.{Parts, AreVersionParts, whole}
use Rattle.nuget_scheme.specs.declared.spelling.Written.{Written}

-- the parts that the program holds
abbrev pub parts : Written → Parts
parts w = record { numbers = dotted w.numbers.now; labels = pieces (option_copied w.labels); build = pieces (option_copied w.build) }

-- the text is made of these parts, which have their form
pub record IsVersionWritten (text : List ℕ) (p : Parts) : Type 0 where
  pub joined : text ≡ whole p
  pub form : AreVersionParts p

-- the parts have their form, but for there being a number at all: cut texts have a part
abbrev pub has_form : Parts → Bool
has_form p = nat_lt (length p.numbers) 5 && (list_all is_numeral p.numbers && (list_all is_identifier p.labels && list_all is_identifier p.build))

-- the text is made of no such parts
abbrev pub NoVersionWritten : List ℕ → Type 0
NoVersionWritten text = (p : Parts) → ¬ (IsVersionWritten text p)

-- the number in front, 0 where there is none
abbrev pub first_value : List (List ℕ) → ℕ
first_value [] = 0
first_value (number ∷ numbers) = value number

-- the numbers behind it
abbrev pub behind_first : List (List ℕ) → List (List ℕ)
behind_first [] = []
behind_first (number ∷ numbers) = numbers

-- this number stands in front, is within the limit of 128 bits, and those numbers stand behind it
pub record IsNext (numbers : List (List ℕ)) (number : ℕ) (behind : List (List ℕ)) : Type 0 where
  pub first : number ≡ first_value numbers
  pub small : number < 2 ^ 128
  pub rest : behind ≡ behind_first numbers

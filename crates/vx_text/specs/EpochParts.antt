-- The text of a version in three parts, as Debian Policy, 5.6.12, and rpm-version(7) write it: an epoch and ':', which may be
-- left out; the main part; and '-' and the last part, which may be left out.
use Rattle.std.specs.Prelude.{◌≡◌, ℕ, Bool, true, List, ◌++◌, Option, Some, None}
use Rattle.std.specs.Option.{option_copied}
use Rattle.vx_spec.specs.Marks.{IsFirstCut, IsLastCut, Lacks, in_front, marked}
use Rattle.vx_spec.specs.Numerals.{is_numeral, value}
use Rattle.vx_spec.specs.Signs.{colon, hyphen}
use Rattle.vx_text.specs.declared.epochs.EpochParts.{EpochParts}

-- the parts of a text, two of which may be left out
pub record Parts : Type 0 where
  pub epoch : Option (List ℕ)
  pub main : List ℕ
  pub last : Option (List ℕ)

-- the whole text: the epoch and ':', the main part, '-' and the last part
abbrev pub whole : Parts → List ℕ
whole p = in_front colon p.epoch (p.main ++ marked hyphen p.last)

-- an epoch that is not left out is a numeral
abbrev pub is_epoch : Option (List ℕ) → Bool
is_epoch None = true
is_epoch (Some part) = is_numeral part

-- an epoch that is left out is 0
abbrev pub epoch_value : Option (List ℕ) → ℕ
epoch_value None = 0
epoch_value (Some part) = value part

-- a part that is not left out has its form
abbrev pub is_optional : (List ℕ → Bool) → Option (List ℕ) → Bool
is_optional has_form None = true
is_optional has_form (Some part) = has_form part

-- each part has its form, and the last part is what stands behind the last '-': without one the main part holds none
pub record HaveForms (main_form last_form : List ℕ → Bool) (p : Parts) : Type 0 where
  pub epoch : is_epoch p.epoch ≡ true
  pub main : main_form p.main ≡ true
  pub last : is_optional last_form p.last ≡ true
  pub alone : p.last ≡ None → Lacks hyphen p.main

-- the text is made of these parts, which have their forms
pub record IsMadeOf (main_form last_form : List ℕ → Bool) (text : List ℕ) (p : Parts) : Type 0 where
  pub joined : text ≡ whole p
  pub forms : HaveForms main_form last_form p

-- the text is made of no such parts
abbrev pub NotMade : (List ℕ → Bool) → (List ℕ → Bool) → List ℕ → Type 0
NotMade main_form last_form text = (p : Parts) → ¬ (IsMadeOf main_form last_form text p)

-- the text is made of some such parts
abbrev pub IsMade : (List ℕ → Bool) → (List ℕ → Bool) → List ℕ → Type 0
IsMade main_form last_form text = (p : Parts) × IsMadeOf main_form last_form text p

-- The text spells the version by its parts, with numerals of any length: it is made of parts that have their forms, and the
-- version is the one that they stand for.
pub record SpellsByParts {V : Type 0} (main_form last_form : List ℕ → Bool) (version_of : List ℕ → Parts → V) (text : List ℕ) (v : V) : Type 0 where
  pub parts : Parts
  pub joined : text ≡ whole parts
  pub form : HaveForms main_form last_form parts
  pub values : v ≡ version_of text parts

-- A text cut apart: at its first ':', and behind that at its last '-'.
pub record IsApart (text : List ℕ) (p : Parts) : Type 0 where
  pub rest : List ℕ
  pub first : IsFirstCut colon text p.epoch rest
  pub last : IsLastCut hyphen rest p.main p.last

-- the parts that the program holds
abbrev pub parts : EpochParts → Parts
parts p = record { epoch = option_copied p.epoch; main = p.main.now; last = option_copied p.last }

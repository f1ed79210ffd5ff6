-- The text of a version after rpm-version(7): the text is its parts, joined by their signs: an epoch, the version, which is the
-- main part, and the release, which is the last; each part has its form; and the version has their values.
use Rattle.std.specs.Prelude.{ℕ, ◌&&◌, ◌||◌, ◌==◌, Bool, List, Option, Some, None}
use Rattle.std.specs.Char.{is_ascii_alphanumeric}
use Rattle.std.specs.List.{list_all}
use Rattle.vx_spec.specs.Runs.{begins}
use Rattle.vx_spec.specs.Signs.{caret, dot, plus, tilde, underscore}
use Rattle.vx_text.specs.EpochParts.{HaveForms, Parts, SpellsByParts, epoch_value}
use Rattle.vx_order.specs.declared.letter.Letter.{Letter}
use Rattle.rpm_scheme.specs.Version.{Fields, letters_of}

-- a letter, a digit, '.', '_', '+', '~' or '^'
abbrev pub is_part_byte : ℕ → Bool
is_part_byte b = is_ascii_alphanumeric b || b == dot || b == underscore || b == plus || b == tilde || b == caret

-- one such byte or more, the first of which is a letter or a digit
abbrev pub is_part : List ℕ → Bool
is_part part = begins is_ascii_alphanumeric part && list_all is_part_byte part

-- each part has its form; a release that is left out has any
abbrev pub AreVersionParts : Parts → Type 0
AreVersionParts p = HaveForms is_part is_part p

-- the letters of a release, where there is one
abbrev pub release_letters : Option (List ℕ) → Option (List Letter)
release_letters None = None
release_letters (Some part) = Some (letters_of part)

-- the version of a text with these parts
abbrev pub version_of : List ℕ → Parts → Fields
version_of text p = record { text = text; epoch = epoch_value p.epoch; version = letters_of p.main; release = release_letters p.last }

-- The text spells the version, with numerals of any length.
abbrev pub Spells : List ℕ → Fields → Type 0
Spells = SpellsByParts is_part is_part version_of

-- The fields are a version's: its text spells it.
abbrev pub IsVersion : Fields → Type 0
IsVersion v = Spells v.text v

-- The text spells a version.
abbrev pub IsVersionText : List ℕ → Type 0
IsVersionText text = (v : Fields) × Spells text v

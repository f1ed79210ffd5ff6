-- The text of a version after Debian Policy, 5.6.12: the text is its parts, joined by their signs: an epoch, the upstream part,
-- which is the main one, and the revision, which is the last; each part has its form; and the version has their values.
use Rattle.std.specs.Prelude.{ℕ, ◌||◌, ◌==◌, Bool, List, Option, Some, None, codes}
use Rattle.std.specs.Char.{is_ascii_alphanumeric}
use Rattle.vx_spec.specs.Runs.{is_made_of}
use Rattle.vx_spec.specs.Signs.{dot, hyphen, plus, tilde}
use Rattle.vx_text.specs.EpochParts.{HaveForms, Parts, SpellsByParts, epoch_value}
use Rattle.deb_scheme.specs.Version.{Fields, letters_of}

-- a letter, a digit, '.', '+' or '~'
abbrev pub is_revision_byte : ℕ → Bool
is_revision_byte b = is_ascii_alphanumeric b || b == dot || b == plus || b == tilde

-- the same, or '-'
abbrev pub is_upstream_byte : ℕ → Bool
is_upstream_byte b = is_revision_byte b || b == hyphen

-- an upstream part and a revision are made of their bytes, one or more
abbrev pub is_upstream : List ℕ → Bool
is_upstream part = is_made_of is_upstream_byte part

abbrev pub is_revision : List ℕ → Bool
is_revision part = is_made_of is_revision_byte part

-- each part has its form, and the revision is what stands behind the last '-': without one the upstream part holds none
abbrev pub AreVersionParts : Parts → Type 0
AreVersionParts p = HaveForms is_upstream is_revision p

-- a revision that is left out is as good as '0'
abbrev pub revision_text : Option (List ℕ) → List ℕ
revision_text None = codes "0"
revision_text (Some part) = part

-- the version of a text with these parts
abbrev pub version_of : List ℕ → Parts → Fields
version_of text p = record { text = text; epoch = epoch_value p.epoch; upstream = letters_of p.main; revision = letters_of (revision_text p.last) }

-- The text spells the version, with numerals of any length.
abbrev pub Spells : List ℕ → Fields → Type 0
Spells = SpellsByParts is_upstream is_revision version_of

-- The fields are a version's: its text spells it.
abbrev pub IsVersion : Fields → Type 0
IsVersion v = Spells v.text v

-- The text spells a version.
abbrev pub IsVersionText : List ℕ → Type 0
IsVersionText text = (v : Fields) × Spells text v

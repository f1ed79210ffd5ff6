-- The text of a version after the POM reference, "Version Order Specification": one or more letters, digits, '.', '-', '_'
-- and '+'.
use Rattle.std.specs.Prelude.{◌≡◌, ℕ, ◌||◌, ◌==◌, Bool, true, List}
use Rattle.std.specs.Char.{is_ascii_alphanumeric}
use Rattle.vx_spec.specs.Runs.{is_made_of}
use Rattle.maven_scheme.specs.Version.{Fields}
use Rattle.vx_spec.specs.Signs.{dot, hyphen, plus, underscore}
use Rattle.maven_scheme.specs.Letters.{letters_of}

-- a letter, a digit, '.', '-', '_' or '+'
abbrev pub is_version_byte : ℕ → Bool
is_version_byte b = is_ascii_alphanumeric b || b == dot || b == hyphen || b == underscore || b == plus

-- one such byte or more
abbrev pub is_version_text : List ℕ → Bool
is_version_text text = is_made_of is_version_byte text

-- the version of a text
abbrev pub version_of : List ℕ → Fields
version_of text = record { text = text; letters = letters_of text }

-- The text spells the version, with numerals of any length.
pub record Spells (text : List ℕ) (v : Fields) : Type 0 where
  pub form : is_version_text text ≡ true
  pub values : v ≡ version_of text

-- The fields are a version's: its text spells it.
abbrev pub IsVersion : Fields → Type 0
IsVersion v = Spells v.text v

-- The text spells a version.
abbrev pub IsVersionText : List ℕ → Type 0
IsVersionText text = (v : Fields) × Spells text v

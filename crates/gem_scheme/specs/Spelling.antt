-- The text of a version after RubyGems' `Gem::Version::VERSION_PATTERN`: the text is its parts, joined by their signs; each
-- part has its form; and the version has the segments that are scanned from the text.
use Rattle.std.specs.Prelude.{◌≡◌, ◌==◌, ℕ, if◌then◌else◌, Bool, true, List, [], ◌∷◌, ◌++◌, codes}
use Rattle.std.specs.Char.{is_ascii_alphanumeric}
use Rattle.std.specs.List.{flat_map, list_all}
use Rattle.vx_spec.specs.Numerals.{is_numeral}
use Rattle.vx_spec.specs.Runs.{is_made_of}
use Rattle.vx_scheme.specs.declared.ident.Ident.{Ident}
use Rattle.vx_scheme.specs.declared.ident.Ident.TheVariants.{Number, Word}
use Rattle.vx_spec.specs.Signs.{dot, hyphen}
use Rattle.vx_order.specs.Dotted.{tail}
use Rattle.vx_order.specs.Identifiers.{is_identifier}
use Rattle.vx_order.specs.Scanning.{behind_token, scanned, token_entries}
use Rattle.gem_scheme.specs.Version.{Fields}

-- the parts of a version's text: digits, pieces behind '.', and the labels behind '-', of which there are none where it is
-- left out
pub record Parts : Type 0 where
  pub number : List ℕ
  pub pieces : List (List ℕ)
  pub labels : List (List ℕ)

-- the whole text: `[0-9]+(\.[0-9a-zA-Z]+)*(-[0-9A-Za-z-]+(\.[0-9A-Za-z-]+)*)?`
abbrev pub whole : Parts → List ℕ
whole p = p.number ++ tail dot p.pieces ++ tail hyphen p.labels

-- one letter or digit or more
abbrev pub is_piece : List ℕ → Bool
is_piece text = is_made_of is_ascii_alphanumeric text

-- each part has its form; that of a label is one letter, digit or '-' or more, as that of an identifier
pub record AreVersionParts (p : Parts) : Type 0 where
  pub number : is_numeral p.number ≡ true
  pub pieces : list_all is_piece p.pieces ≡ true
  pub labels : list_all is_identifier p.labels ≡ true

-- `Gem::Version#initialize`: each '-' stands for '.pre.'
abbrev pub written_byte : ℕ → List ℕ
written_byte b = if b == hyphen then codes ".pre." else b ∷ []

abbrev pub written_out : List ℕ → List ℕ
written_out text = flat_map written_byte text

-- `Gem::Version#segments` scans the text for `[0-9]+|[a-z]+` in either case: the segment at the front of a text; none where
-- another byte stands there
abbrev pub first_segments : List ℕ → List Ident
first_segments text = token_entries Number Word (λ b. []) text

-- the segments of a version's text
abbrev pub segments_of : List ℕ → List Ident
segments_of text = scanned first_segments behind_token (written_out text)

-- the version of a text
abbrev pub version_of : List ℕ → Fields
version_of text = record { segments = segments_of text }

-- The text spells the version, with numerals of any length.
pub record Spells (text : List ℕ) (v : Fields) : Type 0 where
  pub parts : Parts
  pub joined : text ≡ whole parts
  pub form : AreVersionParts parts
  pub values : v ≡ version_of text

-- The text spells a version.
abbrev pub IsVersionText : List ℕ → Type 0
IsVersionText text = (v : Fields) × Spells text v

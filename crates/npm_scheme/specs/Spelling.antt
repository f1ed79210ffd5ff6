-- The text of a version after Semantic Versioning 2.0, items 2, 9 and 10 and the grammar: the text is its parts, joined by their
-- signs; each part has its form; and the version has their values.
use Rattle.std.specs.Prelude.{◌≡◌, ℕ, ◌&&◌, ◌==◌, not, nat_lt, Bool, true, List, ◌∷◌, ◌++◌, length, map, slice_index}
use Rattle.std.specs.List.{list_all, join_with_byte}
use Rattle.vx_spec.specs.Numerals.{is_numeral, value}
use Rattle.vx_spec.specs.Signs.{dot, hyphen, plus}
use Rattle.vx_order.specs.Dotted.{tail}
use Rattle.vx_order.specs.Identifiers.{identifier_of, is_identifier}
use Rattle.npm_scheme.specs.Version.{Fields}

-- the parts of a version's text; no identifiers where the pre-release or the build is left out
pub record Parts : Type 0 where
  pub major : List ℕ
  pub minor : List ℕ
  pub patch : List ℕ
  pub pre : List (List ℕ)
  pub build : List (List ℕ)

-- the byte '0'
abbrev pub zero_digit : ℕ
zero_digit = 48

-- item 2: three numerals joined by '.'
abbrev pub core : List ℕ → List ℕ → List ℕ → List ℕ
core major minor patch = major ++ (dot ∷ (minor ++ (dot ∷ patch)))

-- the whole text: the version core, '-' and the pre-release, '+' and the build
abbrev pub whole : Parts → List ℕ
whole p = core p.major p.minor p.patch ++ tail hyphen p.pre ++ tail plus p.build

-- a zero, and something behind it
abbrev pub has_leading_zero : List ℕ → Bool
has_leading_zero text = (slice_index text 0 == zero_digit) && nat_lt 1 (length text)

-- items 2 and 9, the grammar's numeric identifier: digits without leading zeros
abbrev pub is_plain_numeral : List ℕ → Bool
is_plain_numeral text = is_numeral text && not (has_leading_zero text)

-- item 9, the grammar's pre-release identifier: an identifier that has no leading zeros where it is digits alone
abbrev pub is_pre_identifier : List ℕ → Bool
is_pre_identifier text = is_identifier text && not (is_numeral text && has_leading_zero text)

-- each part has the form that the grammar names for it
pub record AreVersionParts (p : Parts) : Type 0 where
  pub major : is_plain_numeral p.major ≡ true
  pub minor : is_plain_numeral p.minor ≡ true
  pub patch : is_plain_numeral p.patch ≡ true
  pub pre : list_all is_pre_identifier p.pre ≡ true
  pub build : list_all is_identifier p.build ≡ true

-- the version that the parts stand for
abbrev pub version_of : Parts → Fields
version_of p = record { major = value p.major; minor = value p.minor; patch = value p.patch; pre = map identifier_of p.pre; build = join_with_byte dot p.build }

-- The text spells the version, with numerals of any length.
pub record Spells (text : List ℕ) (v : Fields) : Type 0 where
  pub parts : Parts
  pub joined : text ≡ whole parts
  pub form : AreVersionParts parts
  pub values : v ≡ version_of parts

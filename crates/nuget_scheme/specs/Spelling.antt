-- The text of a version after NuGet's page "Package versioning", "Version basics", "Where NuGetVersion diverges from Semantic
-- Versioning" and "Normalized version numbers": the text is its parts, joined by their signs; each part has its form; and the
-- version has their values.
use Rattle.std.specs.Prelude.{◌≡◌, ℕ, nat_lt, true, List, ◌++◌, length, map}
use Rattle.std.specs.List.{list_all, join_with_byte}
use Rattle.vx_spec.specs.Numerals.{is_numeral, value}
use Rattle.vx_spec.specs.Places.{endless}
use Rattle.vx_spec.specs.Signs.{dot, hyphen, plus}
use Rattle.vx_order.specs.Dotted.{tail}
use Rattle.vx_order.specs.Identifiers.{identifier_of, is_identifier}
use Rattle.nuget_scheme.specs.Version.{Fields}

-- the parts of a version's text; none where the labels or the build are left out
pub record Parts : Type 0 where
  pub numbers : List (List ℕ)
  pub labels : List (List ℕ)
  pub build : List (List ℕ)

-- the whole text: the numbers joined by '.', '-' and the labels, '+' and the build
abbrev pub whole : Parts → List ℕ
whole p = join_with_byte dot p.numbers ++ tail hyphen p.labels ++ tail plus p.build

-- each part has its form
pub record AreVersionParts (p : Parts) : Type 0 where
  -- "Where NuGetVersion diverges from Semantic Versioning": one number is required, and there may be four
  pub some : nat_lt 0 (length p.numbers) ≡ true
  pub few : nat_lt (length p.numbers) 5 ≡ true
  -- "Normalized version numbers": leading zeros are accepted
  pub numerals : list_all is_numeral p.numbers ≡ true
  -- labels, and what stands between the dots of a build, hold only ASCII letters, digits and '-'
  pub labels : list_all is_identifier p.labels ≡ true
  pub build : list_all is_identifier p.build ≡ true

-- the number at a place, counted from 0; "all others are optional, and are equivalent to zero"
abbrev pub number_at : ℕ → List (List ℕ) → ℕ
number_at place numbers = endless 0 (map value numbers) place

-- the version that the parts stand for; "Normalized version numbers": the build is removed
abbrev pub version_of : Parts → Fields
version_of p = record {
  major = number_at 0 p.numbers;
  minor = number_at 1 p.numbers;
  patch = number_at 2 p.numbers;
  fourth = number_at 3 p.numbers;
  labels = map identifier_of p.labels;
}

-- The text spells the version, with numerals of any length.
pub record Spells (text : List ℕ) (v : Fields) : Type 0 where
  pub parts : Parts
  pub joined : text ≡ whole parts
  pub form : AreVersionParts parts
  pub values : v ≡ version_of parts

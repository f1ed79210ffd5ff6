-- A version of NuGet after its page "Package versioning", "Version basics" and "Where NuGetVersion diverges from Semantic
-- Versioning": its fields, with numbers of any size and texts as their bytes; when they are a version's; and the limit of numerals.
use Rattle.std.specs.Prelude.{◌≡◌, ◌^◌, ◌<◌, ℕ, true, List, []}
use Rattle.std.specs.List.{AllByRecursion, list_all}
use Rattle.vx_scheme.specs.declared.ident.Ident.{Ident}
use Rattle.vx_order.specs.Identifiers.{IdentIsWithin, is_ident}

-- the fields: "Version basics" has the three numbers and the labels of a pre-release, "Where NuGetVersion diverges from
-- Semantic Versioning" the fourth number; the build is no field, since the version is the same without it
pub record Fields : Type 0 where
  pub major : ℕ
  pub minor : ℕ
  pub patch : ℕ
  pub fourth : ℕ
  pub labels : List Ident

-- The fields are a version's: each label is an identifier of Semantic Versioning 2.0, item 9.
pub record IsVersion (v : Fields) : Type 0 where
  pub labels : list_all is_ident v.labels ≡ true

-- each number of the version is within the limit of 128 bits
abbrev pub IsWithin : Fields → Type 0
IsWithin v = (v.major < 2 ^ 128) × (v.minor < 2 ^ 128) × (v.patch < 2 ^ 128) × (v.fourth < 2 ^ 128) × AllByRecursion IdentIsWithin v.labels

-- "Pre-release versions": a version without labels is a release
abbrev pub IsRelease : Fields → Type 0
IsRelease v = v.labels ≡ []

-- A version after Semantic Versioning 2.0, items 2, 9 and 10: its fields, with numbers of any size and texts as their bytes;
-- when they are a version's; and the limit of numerals.
use Rattle.std.specs.Prelude.{◌≡◌, ◌^◌, ◌<◌, ℕ, true, List, [], ◌∷◌}
use Rattle.std.specs.List.{AllByRecursion, list_all}
use Rattle.vx_scheme.specs.declared.ident.Ident.{Ident}
use Rattle.vx_scheme.specs.declared.ident.Ident.TheVariants.{Number}
use Rattle.vx_order.specs.Dotted.{dotted}
use Rattle.vx_order.specs.Identifiers.{IdentIsWithin, is_ident, is_identifier}

-- the fields: item 2 has the three numbers, item 9 the pre-release identifiers, item 10 the build, as it is written
pub record Fields : Type 0 where
  pub major : ℕ
  pub minor : ℕ
  pub patch : ℕ
  pub pre : List Ident
  pub build : List ℕ

-- the identifiers of a build: none where it is left out, else those between its dots
abbrev pub build_pieces : List ℕ → List (List ℕ)
build_pieces [] = []
build_pieces (byte ∷ build) = dotted (byte ∷ build)

-- The fields are a version's: the pre-release and the build are made of identifiers (items 9 and 10).
pub record IsVersion (v : Fields) : Type 0 where
  pub pre : list_all is_ident v.pre ≡ true
  pub build : list_all is_identifier (build_pieces v.build) ≡ true

-- each number of the version is within the limit of 128 bits
abbrev pub IsWithin : Fields → Type 0
IsWithin v = (v.major < 2 ^ 128) × (v.minor < 2 ^ 128) × (v.patch < 2 ^ 128) × AllByRecursion IdentIsWithin v.pre

-- item 9: a version without pre-release identifiers is a release
abbrev pub IsRelease : Fields → Type 0
IsRelease v = v.pre ≡ []

-- the release `M.m.p`
abbrev pub release_of : ℕ → ℕ → ℕ → Fields
release_of major minor patch = record { major = major; minor = minor; patch = patch; pre = []; build = [] }

-- the version `M.m.p-0`
abbrev pub lowest_of : ℕ → ℕ → ℕ → Fields
lowest_of major minor patch = record { major = major; minor = minor; patch = patch; pre = Number 0 ∷ []; build = [] }

-- the version with another build
abbrev pub with_build : List ℕ → Fields → Fields
with_build build v = record { major = v.major; minor = v.minor; patch = v.patch; pre = v.pre; build = build }

-- the version without its build
abbrev pub without_build : Fields → Fields
without_build = with_build []

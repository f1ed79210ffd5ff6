-- The one table of schemes: what the implementations of `Scheme` and `Native` of each say of themselves, what its constructs are,
-- and what its refusal for want of an end proves. A further scheme is one row more.
use Rattle.std.specs.Prelude.{ℕ, List}
use Rattle.vx_scheme.specs.declared.domain.Domain.{Domain}
use Rattle.vx_scheme.specs.declared.name.SchemeName.{SchemeName}
use Rattle.vx_scheme.specs.declared.name.SchemeName.TheVariants.{Npm, Pypi, Maven, Gem, Deb, Rpm, Nuget, Cargo}
use Rattle.vx_scheme.specs.declared.range_fault.EndKind.{EndKind}
use Rattle.vx_scheme.specs.declared.scheme.Scheme.{Ghosts as Scheme}
use Rattle.vx_scheme.specs.declared.native.Native.{Ghosts as Language}
use Rattle.npm_range.specs.contracts.range.NpmRangeScheme.TheImpl.{ghosts as npm_scheme}
use Rattle.npm_range.specs.contracts.range.NpmRangeNative.TheImpl.{ghosts as npm_native}
use Rattle.pep440_range.specs.contracts.range.PypiRangeScheme.TheImpl.{ghosts as pypi_scheme}
use Rattle.pep440_range.specs.contracts.range.PypiRangeNative.TheImpl.{ghosts as pypi_native}
use Rattle.bracket_ranges.specs.Maven.Members.{maven_scheme, maven_native}
use Rattle.bracket_ranges.specs.Nuget.Members.{nuget_scheme, nuget_native}
use Rattle.relation_ranges.specs.Deb.Members.{deb_scheme, deb_native}
use Rattle.relation_ranges.specs.Gem.Members.{gem_scheme, gem_native}
use Rattle.relation_ranges.specs.Rpm.Members.{rpm_scheme, rpm_native}
use Rattle.cargo_range.specs.contracts.scheme.CargoScheme.TheImpl.{ghosts as cargo_scheme}
use Rattle.cargo_range.specs.contracts.range.CargoNative.TheImpl.{ghosts as cargo_native}
use Rattle.npm_range.specs.Sizes as npm
use Rattle.pep440_range.specs.Sizes as pypi
use Rattle.bracket_ranges.specs.Maven.Sizes as maven
use Rattle.bracket_ranges.specs.Nuget.Sizes as nuget
use Rattle.relation_ranges.specs.Deb.Sizes as deb
use Rattle.relation_ranges.specs.Gem.Sizes as gem
use Rattle.relation_ranges.specs.Rpm.Sizes as rpm
use Rattle.cargo_range.specs.Sizes as cargo
use Rattle.vx_translate.specs.Necessary.{NeverComes, PypiHasNoList, GemHasNoList, RpmHasNoList}

pub record Row : Type 1 where
  -- a scheme with its range language
  pub Self : Type 0
  pub Version : Type 0
  pub scheme : Scheme Self Version
  pub language : Language Self Version
  -- the range text has n constructs; a hyphen range is one
  pub HasConstructs : List ℕ → ℕ → Type 0
  -- what a refusal of the text in the domain proves, for want of an end of this kind at this place
  pub ProvesNoEnd : Domain → List ℕ → EndKind → ℕ → Type 0

abbrev pub row : {S V : Type 0} → Scheme S V → Language S V → (List ℕ → ℕ → Type 0) → (Domain → List ℕ → EndKind → ℕ → Type 0) → Row
row {S} {V} scheme language HasConstructs ProvesNoEnd =
    record { Self = S; Version = V; scheme = scheme; language = language; HasConstructs = HasConstructs; ProvesNoEnd = ProvesNoEnd }

-- what is said of the row of a scheme
abbrev pub of_scheme {ℓ} : {A : Type ℓ} → (Row → A) → SchemeName → A
of_scheme said Npm = said (row npm_scheme npm_native npm.HasConstructs NeverComes)
of_scheme said Pypi = said (row pypi_scheme pypi_native pypi.HasConstructs PypiHasNoList)
of_scheme said Maven = said (row maven_scheme maven_native maven.HasConstructs NeverComes)
of_scheme said Gem = said (row gem_scheme gem_native gem.HasConstructs GemHasNoList)
of_scheme said Deb = said (row deb_scheme deb_native deb.HasConstructs NeverComes)
of_scheme said Rpm = said (row rpm_scheme rpm_native rpm.HasConstructs RpmHasNoList)
of_scheme said Nuget = said (row nuget_scheme nuget_native nuget.HasConstructs NeverComes)
of_scheme said Cargo = said (row cargo_scheme cargo_native cargo.HasConstructs NeverComes)

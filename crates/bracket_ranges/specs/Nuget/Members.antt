-- The members of NuGet's range language, as a scheme and as a range language: those that the table gives.
use Rattle.vx_scheme.specs.declared.scheme.Scheme.{Ghosts as Scheme}
use Rattle.vx_scheme.specs.declared.native.Native.{Ghosts as Native}
use Rattle.nuget_scheme.specs.Version.{Fields}
use Rattle.nuget_scheme.specs.contracts.scheme.Nuget as nuget
use Rattle.nuget_scheme.specs.contracts.scheme.NugetScheme.TheImpl as versions
use Rattle.nuget_scheme.specs.contracts.version.NugetVersion as version
use Rattle.bracket_ranges.specs.declared.range.BracketRange.{BracketRange}
use Rattle.bracket_ranges.specs.contracts.nuget.NugetBrackets.TheImpl as table
use Rattle.bracket_ranges.specs.contracts.nuget.NugetPlacedVersionsNugetRange.TheImpl as placed
use Rattle.bracket_ranges.specs.contracts.range.BracketRangeScheme.TheImpl.{ghosts as scheme_of, no_dict}
use Rattle.bracket_ranges.specs.contracts.range.BracketRangeNative.TheImpl.{ghosts as native_of}

-- NuGet's range language, as contracts name its type
abbrev pub NugetRange : Type 0
NugetRange = BracketRange nuget.the_row.Denot

-- its members as a scheme: those of NuGet's versions
abbrev pub nuget_scheme : Scheme NugetRange Fields
nuget_scheme = scheme_of nuget.the_row version.the_row table.ghosts no_dict placed.ghosts no_dict versions.ghosts no_dict no_dict

-- and as a range language
abbrev pub nuget_native : Native NugetRange Fields
nuget_native = native_of nuget.the_row version.the_row table.ghosts no_dict placed.ghosts no_dict versions.ghosts no_dict no_dict

-- The members of Maven's range language, as a scheme and as a range language: those that the table gives.
use Rattle.vx_scheme.specs.declared.scheme.Scheme.{Ghosts as Scheme}
use Rattle.vx_scheme.specs.declared.native.Native.{Ghosts as Native}
use Rattle.maven_scheme.specs.Version.{Fields}
use Rattle.maven_scheme.specs.contracts.scheme.Maven as maven
use Rattle.maven_scheme.specs.contracts.scheme.MavenScheme.TheImpl as versions
use Rattle.maven_scheme.specs.contracts.version.MavenVersion as version
use Rattle.bracket_ranges.specs.declared.range.BracketRange.{BracketRange}
use Rattle.bracket_ranges.specs.contracts.maven.MavenBrackets.TheImpl as table
use Rattle.bracket_ranges.specs.contracts.maven.MavenPlacedVersionsMavenRange.TheImpl as placed
use Rattle.bracket_ranges.specs.contracts.range.BracketRangeScheme.TheImpl.{ghosts as scheme_of, no_dict}
use Rattle.bracket_ranges.specs.contracts.range.BracketRangeNative.TheImpl.{ghosts as native_of}

-- Maven's range language, as contracts name its type
abbrev pub MavenRange : Type 0
MavenRange = BracketRange maven.the_row.Denot

-- its members as a scheme: those of Maven's versions
abbrev pub maven_scheme : Scheme MavenRange Fields
maven_scheme = scheme_of maven.the_row version.the_row table.ghosts no_dict placed.ghosts no_dict versions.ghosts no_dict no_dict

-- and as a range language
abbrev pub maven_native : Native MavenRange Fields
maven_native = native_of maven.the_row version.the_row table.ghosts no_dict placed.ghosts no_dict versions.ghosts no_dict no_dict

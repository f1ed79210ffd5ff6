-- The default domain of each scheme, and the domain that a line chooses.
use Rattle.std.specs.Prelude.{Option, Some, None}
use Rattle.vx_scheme.specs.declared.name.SchemeName.{SchemeName}
use Rattle.vx_scheme.specs.declared.name.SchemeName.TheVariants.{Npm, Pypi, Maven, Gem, Deb, Rpm, Nuget, Cargo}
use Rattle.vx_scheme.specs.declared.domain.Domain.{Domain}
use Rattle.vx_scheme.specs.declared.domain.Domain.TheVariants.{All, Releases}

abbrev pub usual_of : SchemeName → Domain
usual_of Npm = All
usual_of Pypi = Releases
usual_of Maven = All
usual_of Gem = Releases
usual_of Deb = All
usual_of Rpm = All
usual_of Nuget = All
usual_of Cargo = Releases

-- the domain that is named, or the default of the scheme where none is
abbrev pub chosen_domain : Option Domain → SchemeName → Domain
chosen_domain None name = usual_of name
chosen_domain (Some domain) name = domain

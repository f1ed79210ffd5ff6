-- VERS, "<versioning-scheme>": the names of the schemes, as texts, which are types of package URLs too (ECMA-427).
use Rattle.std.specs.Prelude.{ℕ, List, codes, Option, Some, None, if◌then◌else◌, bytes_eq}
use Rattle.vx_scheme.specs.declared.name.SchemeName.{SchemeName}
use Rattle.vx_scheme.specs.declared.name.SchemeName.TheVariants.{Npm, Pypi, Maven, Gem, Deb, Rpm, Nuget, Cargo}

abbrev pub text_of : SchemeName → List ℕ
text_of Npm = codes "npm"
text_of Pypi = codes "pypi"
text_of Maven = codes "maven"
text_of Gem = codes "gem"
text_of Deb = codes "deb"
text_of Rpm = codes "rpm"
text_of Nuget = codes "nuget"
text_of Cargo = codes "cargo"

-- the scheme of this name
abbrev pub scheme_named : List ℕ → Option SchemeName
scheme_named text =
    if bytes_eq text (codes "npm") then Some Npm
    else if bytes_eq text (codes "pypi") then Some Pypi
    else if bytes_eq text (codes "maven") then Some Maven
    else if bytes_eq text (codes "gem") then Some Gem
    else if bytes_eq text (codes "deb") then Some Deb
    else if bytes_eq text (codes "rpm") then Some Rpm
    else if bytes_eq text (codes "nuget") then Some Nuget
    else if bytes_eq text (codes "cargo") then Some Cargo
    else None

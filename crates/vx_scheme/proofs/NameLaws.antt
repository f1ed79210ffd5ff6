-- What is so of each scheme is so of all, and a name is read back. All that goes over the names of the schemes goes by these.
use Rattle.std.proofs.Common.{◌≡◌, Bool, true, List, [], ◌∷◌, refl, sym, ap, ◌∙◌, Some}
use Rattle.std.specs.List.{AllByRecursion, list_all}
use Rattle.std.proofs.lemmas.List.Elements.{recursion_from_All}
use Rattle.std.proofs.lemmas.List.Sums.{AllPass-from_list_all}
use Rattle.vx_scheme.specs.declared.name.SchemeName.{SchemeName}
use Rattle.vx_scheme.specs.declared.name.SchemeName.TheVariants.{Npm, Pypi, Maven, Gem, Deb, Rpm, Nuget, Cargo}
use Rattle.vx_scheme.specs.Names.{scheme_named, text_of}

-- what is so of each scheme is so of all
pub by_scheme : (P : SchemeName → Type 0) → P Npm → P Pypi → P Maven → P Gem → P Deb → P Rpm → P Nuget → P Cargo → (name : SchemeName) → P name
by_scheme P npm pypi maven gem deb rpm nuget cargo Npm = npm
by_scheme P npm pypi maven gem deb rpm nuget cargo Pypi = pypi
by_scheme P npm pypi maven gem deb rpm nuget cargo Maven = maven
by_scheme P npm pypi maven gem deb rpm nuget cargo Gem = gem
by_scheme P npm pypi maven gem deb rpm nuget cargo Deb = deb
by_scheme P npm pypi maven gem deb rpm nuget cargo Rpm = rpm
by_scheme P npm pypi maven gem deb rpm nuget cargo Nuget = nuget
by_scheme P npm pypi maven gem deb rpm nuget cargo Cargo = cargo

-- all schemes, in one list
abbrev pub schemes : List SchemeName
schemes = Npm ∷ Pypi ∷ Maven ∷ Gem ∷ Deb ∷ Rpm ∷ Nuget ∷ Cargo ∷ []

pub by_list : (P : SchemeName → Type 0) → AllByRecursion P schemes → (name : SchemeName) → P name
by_list P (npm, (pypi, (maven, (gem, (deb, (rpm, (nuget, (cargo, _)))))))) = by_scheme P npm pypi maven gem deb rpm nuget cargo

-- so it is of a test, which the list decides
pub by_test : (test : SchemeName → Bool) → list_all test schemes ≡ true → (name : SchemeName) → test name ≡ true
by_test test all = by_list (λ name. test name ≡ true) (recursion_from_All (λ name. test name ≡ true) schemes (AllPass-from_list_all test schemes all))

-- a name is read back
read_back : (name : SchemeName) → scheme_named (text_of name) ≡ Some name
read_back = by_scheme (λ name. scheme_named (text_of name) ≡ Some name) refl refl refl refl refl refl refl refl

-- two schemes have two names
pub one_name : (a b : SchemeName) → text_of a ≡ text_of b → a ≡ b
one_name a b e = cc (sym (read_back a) ∙ ap scheme_named e ∙ read_back b)

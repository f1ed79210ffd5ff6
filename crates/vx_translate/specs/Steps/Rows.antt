-- What a VERS text is answered by the row of a scheme.
use Rattle.std.specs.Prelude.{ℕ, Bool, List}
use Rattle.vx_scheme.specs.declared.name.SchemeName.{SchemeName}
use Rattle.vx_scheme.specs.declared.domain.Domain.{Domain}
use Rattle.vx_translate.specs.Backward.{TranslatesBack, RefusesBack}
use Rattle.vx_translate.specs.Canonical.{PrintsSimplified, RefusesCanonical}
use Rattle.vx_translate.specs.Checking.{TellsCheck, RefusesCheck}
use Rattle.vx_translate.specs.Having.{TellsMembership, RefusesMembership}
use Rattle.vx_translate.specs.Table.{of_scheme}
use Rattle.vx_translate.specs.declared.check_refusal.CheckRefusal.{CheckRefusal}
use Rattle.vx_translate.specs.declared.refusal.Refusal.{Refusal}

abbrev pub IsRowBack : Domain → List ℕ → List ℕ → SchemeName → Type 0
IsRowBack domain vers text = of_scheme (λ row. TranslatesBack row.scheme row.language domain vers text)

abbrev pub IsRowBackRefused : Domain → List ℕ → Refusal → SchemeName → Type 0
IsRowBackRefused domain vers refusal = of_scheme (λ row. RefusesBack row.scheme row.language domain vers refusal)

abbrev pub IsRowCanon : List ℕ → List ℕ → SchemeName → Type 0
IsRowCanon vers text = of_scheme (λ row. PrintsSimplified row.scheme vers text)

abbrev pub IsRowCanonRefused : List ℕ → Refusal → SchemeName → Type 0
IsRowCanonRefused vers refusal = of_scheme (λ row. RefusesCanonical row.scheme vers refusal)

abbrev pub IsRowHas : List ℕ → List ℕ → Bool → SchemeName → Type 0
IsRowHas vers version decision = of_scheme (λ row. TellsMembership row.scheme vers version decision)

abbrev pub IsRowHasRefused : List ℕ → List ℕ → Refusal → SchemeName → Type 0
IsRowHasRefused vers version refusal = of_scheme (λ row. RefusesMembership row.scheme vers version refusal)

abbrev pub IsRowCheck : List ℕ → List ℕ → Bool → SchemeName → Type 0
IsRowCheck purl vers decision = of_scheme (λ row. TellsCheck row.scheme purl vers decision)

abbrev pub IsRowCheckRefused : List ℕ → List ℕ → CheckRefusal → SchemeName → Type 0
IsRowCheckRefused purl vers refusal = of_scheme (λ row. RefusesCheck row.scheme purl vers refusal)

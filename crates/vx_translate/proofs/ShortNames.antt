-- A translation is short, by the name of a scheme.
use Rattle.std.proofs.Common.{◌≤◌, ◌*◌, ℕ, true, false, List, Result, Ok, Err, IfOk, le_trans}
use Rattle.vx_scheme.specs.declared.domain.Domain.{Domain}
use Rattle.vx_scheme.specs.declared.name.SchemeName.{SchemeName}
use Rattle.vx_scheme.specs.declared.name.SchemeName.TheVariants.{Npm, Pypi, Maven, Gem, Deb, Rpm, Nuget, Cargo}
use Rattle.vx_scheme.specs.declared.span.Span.{Span}
use Rattle.vx_range.specs.Sizes.{cut_count}
use Rattle.npm_range.specs.Laws.Sizes.{npm_short}
use Rattle.pep440_range.specs.Laws.Sizes.{pypi_short}
use Rattle.vx_text.specs.Past.{first_past}
use Rattle.maven_scheme.specs.Order as maven_order
use Rattle.maven_scheme.specs.Spelling as maven_versions
use Rattle.nuget_scheme.specs.Order as nuget_order
use Rattle.nuget_scheme.specs.Past.{past_numeral_of}
use Rattle.nuget_scheme.specs.Spelling as nuget_versions
use Rattle.bracket_ranges.specs.Laws.Sizes.{brackets_short}
use Rattle.bracket_ranges.specs.Maven.Alone as maven
use Rattle.bracket_ranges.specs.Nuget.Alone as nuget
use Rattle.relation_ranges.specs.Laws.Sizes.{deb_short, gem_short, rpm_short}
use Rattle.cargo_range.specs.Laws.Sizes.{cargo_short}
use Rattle.vx_translate.specs.Sizes.{IsShort, IsShortRange, HasNoMore, HasNoMoreThanCuts}
use Rattle.vx_translate.specs.Table.{Row, of_scheme}

module _ (row : Row) (domain : Domain) (text out : List ℕ) where
  -- where bounds have at most twice as many cuts as there are constructs
  is_short : ((bounds : List (List (List (Span row.Version)))) → row.language.Makes domain text bounds → (n : ℕ) × row.HasConstructs text n × (cut_count bounds ≤ 2 * n)) → HasNoMore row.scheme row.language domain text out → IsShort row.scheme (row.HasConstructs text) out
  is_short few more =
      let counted = few more.bounds more.made in
      record {
        list = more.list;
        read = more.read;
        constructs = counted.0;
        counted = counted.1;
        short = le_trans more.short counted.2;
      }

abbrev row_of : SchemeName → Row
row_of = of_scheme (λ row. row)

short_range : (name : SchemeName) (domain : Domain) (text out : List ℕ) → HasNoMoreThanCuts name domain text out → IsShortRange name text out
short_range Npm domain text out = is_short (row_of Npm) domain text out (npm_short domain text)
short_range Pypi domain text out = is_short (row_of Pypi) domain text out (pypi_short domain text)
short_range Maven domain text out = is_short (row_of Maven) domain text out (brackets_short true maven.alone maven_versions.Spells first_past maven_order.order_of domain text)
short_range Gem domain text out = is_short (row_of Gem) domain text out (gem_short domain text)
short_range Deb domain text out = is_short (row_of Deb) domain text out (deb_short domain text)
short_range Rpm domain text out = is_short (row_of Rpm) domain text out (rpm_short domain text)
short_range Nuget domain text out = is_short (row_of Nuget) domain text out (brackets_short false nuget.alone nuget_versions.Spells past_numeral_of nuget_order.order_of domain text)
short_range Cargo domain text out = is_short (row_of Cargo) domain text out (cargo_short domain text)

pub short_ok : {E : Type 0} (result : Result (List ℕ) E) (name : SchemeName) (domain : Domain) (text : List ℕ) → IfOk result (HasNoMoreThanCuts name domain text) → IfOk result (IsShortRange name text)
short_ok (Ok out) name domain text more = short_range name domain text out more
short_ok (Err fault) name domain text more = tt

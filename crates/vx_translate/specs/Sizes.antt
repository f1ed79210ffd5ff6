-- How long a translation is: its list has at most twice as many constraints as the range text has constructs.
use Rattle.std.specs.Prelude.{◌*◌, ◌≤◌, ℕ, List, length}
use Rattle.vx_scheme.specs.declared.domain.Domain.{Domain}
use Rattle.vx_scheme.specs.declared.name.SchemeName.{SchemeName}
use Rattle.vx_scheme.specs.declared.native.Native.{Ghosts as Language}
use Rattle.vx_scheme.specs.declared.scheme.Scheme.{Ghosts as Scheme}
use Rattle.vx_scheme.specs.declared.span.Span.{Span}
use Rattle.vx_range.specs.Sizes.{cut_count}
use Rattle.vx_vers.specs.declared.constraints.Constraint.{Constraint}
use Rattle.vx_translate.specs.Table.{of_scheme}
use Rattle.vx_translate.specs.VersTexts.{SpellsVers}

-- The answer is read as a list of at most twice as many constraints as there are constructs.
pub record IsShort {S V : Type 0} (scheme : Scheme S V) (AreCounted : ℕ → Type 0) (out : List ℕ) : Type 0 where
  pub list : List (Constraint V)
  pub read : SpellsVers scheme out list
  pub constructs : ℕ
  pub counted : AreCounted constructs
  pub short : length list ≤ 2 * constructs

-- so it is with the constructs of the range text
abbrev pub IsShortRange : SchemeName → List ℕ → List ℕ → Type 0
IsShortRange name text out = of_scheme (λ row. IsShort row.scheme (row.HasConstructs text) out) name

-- ---- by the cuts that are made

-- The text makes bounds, and the answer is read as a list of at most as many constraints as the bounds have cuts.
pub record HasNoMore {S V : Type 0} (scheme : Scheme S V) (language : Language S V) (domain : Domain) (text out : List ℕ) : Type 0 where
  pub bounds : List (List (List (Span V)))
  pub made : language.Makes domain text bounds
  pub list : List (Constraint V)
  pub read : SpellsVers scheme out list
  pub short : length list ≤ cut_count bounds

abbrev pub HasNoMoreThanCuts : SchemeName → Domain → List ℕ → List ℕ → Type 0
HasNoMoreThanCuts name domain text out = of_scheme (λ row. HasNoMore row.scheme row.language domain text out) name

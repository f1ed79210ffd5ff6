-- Cargo's range language, after the Cargo book, "Specifying Dependencies": which versions are in a requirement, which spans it
-- makes, and what it is refused for. Only releases are offered, since a pre-release is matched only by a requirement that names a
-- pre-release of the same three numbers, which no span says.
use Rattle.std.specs.Prelude.{◌≡◌, ℕ, true, List, [], ◌∷◌, Some, Ok}
use Rattle.std.specs.List.{list_all}
use Rattle.semver.specs.EvalViews.{matches_views}
use Rattle.semver.specs.Parse.{Held, Parts, req_of}
use Rattle.vx_scheme.specs.declared.domain.Domain.{Domain}
use Rattle.vx_scheme.specs.declared.domain.Domain.TheVariants.{Releases}
use Rattle.vx_scheme.specs.declared.range_fault.RangeFault.{RangeFault}
use Rattle.vx_scheme.specs.declared.span.Span.{Span}
use Rattle.vx_range.specs.Making.{alternatives_of}
use Rattle.cargo_range.specs.declared.construct.Construct.{Construct}
use Rattle.cargo_range.specs.Reading.{Reads, forms_of}
use Rattle.cargo_range.specs.Spans.{made_spans}
use Rattle.cargo_range.specs.Refusals.{can_raise, RefusesText}

-- the domain of releases alone is offered
abbrev pub Offers : Domain → Type 0
Offers domain = domain ≡ Releases

-- the text has a reading
abbrev pub IsRange : List ℕ → Type 0
IsRange text = (all : List Construct) × Reads text all

-- The version is in the text: it has a reading, and `VersionReq::matches` answers true on the comparators that `semver`
-- reads.
pub record In (text : List ℕ) (v : Parts) : Type 0 where
  pub held : List Held
  pub read : req_of text ≡ Ok held
  pub all : List Construct
  pub formed : forms_of held ≡ Some all
  pub matched : matches_views held v ≡ true

-- The text makes these bounds: it has a reading, no number is raised past the limit, and each comparator is one term of the
-- one alternative.
pub record MakesBounds (text : List ℕ) (bounds : List (List (List (Span Parts)))) : Type 0 where
  pub all : List Construct
  pub reads : Reads text all
  pub raised : list_all can_raise all ≡ true
  pub are : bounds ≡ alternatives_of made_spans (all ∷ [])

-- the bounds of a text in an offered domain
abbrev pub Makes : Domain → List ℕ → List (List (List (Span Parts))) → Type 0
Makes domain text bounds = Offers domain × MakesBounds text bounds

-- the first refusal of a text in an offered domain
abbrev pub Refuses : Domain → List ℕ → RangeFault → Type 0
Refuses domain text fault = Offers domain × RefusesText text fault

-- What a refusal for want of an end proves, by the name of a scheme.
use Rattle.std.proofs.Common.{◌≡◌, ◌≢◌, ℕ, Bool, true, false, List, if◌then◌else◌, None}
use Rattle.vx_scheme.specs.declared.domain.Domain.{Domain}
use Rattle.vx_scheme.specs.declared.name.SchemeName.{SchemeName}
use Rattle.vx_scheme.specs.declared.name.SchemeName.TheVariants.{Npm, Pypi, Maven, Gem, Deb, Rpm, Nuget, Cargo}
use Rattle.vx_scheme.specs.declared.range_fault.EndKind.{EndKind}
use Rattle.vx_scheme.specs.declared.range_fault.RangeFault.TheVariants as fault_of
use Rattle.vx_scheme.specs.Domains.{InDomain}
use Rattle.vx_text.specs.Past.{first_past}
use Rattle.vx_range.specs.declared.making.Outcome.TheVariants as made
use Rattle.vx_range.specs.Laws.Apart.{never_endless}
use Rattle.npm_range.specs.Cutting.{IsCut}
use Rattle.npm_range.specs.Reading.{ReadsAs}
use Rattle.npm_range.specs.Refusals as npm
use Rattle.pep440_range.specs.contracts.range.PypiRangeScheme.TheImpl.{ghosts as pypi_scheme}
use Rattle.pep440_range.specs.contracts.range.PypiRangeNative.TheImpl.{ghosts as pypi_native}
use Rattle.pep440_range.specs.Apart as pypi_apart
use Rattle.pep440_range.specs.Holds as pypi_holds
use Rattle.pep440_range.specs.Reading as pypi
use Rattle.pep440_range.specs.Refusals as pypi_refusals
use Rattle.pep440_range.specs.Laws.NoEnd.{pypi_no_end}
use Rattle.bracket_ranges.specs.Spans as brackets
use Rattle.gem_scheme.specs.Laws.Texts.{gem_texts}
use Rattle.gem_scheme.specs.Spelling as gem_versions
use Rattle.rpm_scheme.specs.Laws.Texts.{rpm_texts}
use Rattle.rpm_scheme.specs.Spelling as rpm_versions
use Rattle.relation_ranges.specs.Comparison as comparison
use Rattle.relation_ranges.specs.NoEnd.{relation_tells}
use Rattle.relation_ranges.specs.Range.{relation_holds, relation_outcome}
use Rattle.relation_ranges.specs.Deb.Refusals as deb
use Rattle.relation_ranges.specs.Gem.Apart as gem_apart
use Rattle.relation_ranges.specs.Gem.Holds as gem_holds
use Rattle.relation_ranges.specs.Gem.Members.{gem_scheme, gem_native}
use Rattle.relation_ranges.specs.Gem.Operators as gem_operators
use Rattle.relation_ranges.specs.Gem.Reading as gem
use Rattle.relation_ranges.specs.Gem.Spans as gem_spans
use Rattle.relation_ranges.specs.Rpm.Apart as rpm_apart
use Rattle.relation_ranges.specs.Rpm.Holds as rpm_holds
use Rattle.relation_ranges.specs.Rpm.Members.{rpm_scheme, rpm_native}
use Rattle.relation_ranges.specs.Rpm.Reading as rpm
use Rattle.relation_ranges.specs.Rpm.Spans as rpm_spans
use Rattle.relation_ranges.specs.Laws.GemApart as gem_laws
use Rattle.relation_ranges.specs.Laws.NoEnd.{relation_no_end}
use Rattle.relation_ranges.specs.Laws.RpmApart as rpm_laws
use Rattle.vx_translate.specs.Names.{IsRefused, ProvesNoEnd}
use Rattle.vx_translate.specs.declared.refusal.Refusal.TheVariants as refusal_of
use Rattle.vx_translate.proofs.NoListLaws.{has_no_list}

-- ---- schemes with constructs that have no end

pypi_proves : (domain : Domain) (text : List ℕ) (kind : EndKind) (at : ℕ) → pypi_native.Refuses domain text (fault_of.NoEndpoint kind at) → ProvesNoEnd Pypi domain text kind at
pypi_proves domain text kind at refused =
    has_no_list pypi_scheme domain pypi_apart.size pypi.IsCut pypi.ReadsAs (pypi_refusals.outcome domain) pypi_holds.holds (pypi_apart.AreWitnesses domain) text kind at
    (pypi_no_end domain text kind at refused)

gem_proves : (domain : Domain) (text : List ℕ) (kind : EndKind) (at : ℕ) → gem_native.Refuses domain text (fault_of.NoEndpoint kind at) → ProvesNoEnd Gem domain text kind at
gem_proves domain text kind at refused =
    has_no_list gem_scheme domain gem_apart.size gem.IsCut gem.ReadsAs (relation_outcome (gem_spans.outcome domain)) (relation_holds gem_holds.holds) (relation_tells gem_apart.Tells) text kind at
    (relation_no_end None gem_operators.is_sign gem_operators.HasSigns gem_versions.Spells first_past gem_scheme.order gem_scheme.IsVersion (InDomain gem_scheme)
    gem_spans.outcome gem_holds.holds gem_apart.size gem_apart.Tells gem_texts.spelled_version gem_laws.gem_tells
    (λ domain operator bound kind n v w is none tells. gem_laws.gem_apart domain operator bound is kind none n v w tells) domain text kind at refused)

rpm_proves : (domain : Domain) (text : List ℕ) (kind : EndKind) (at : ℕ) → rpm_native.Refuses domain text (fault_of.NoEndpoint kind at) → ProvesNoEnd Rpm domain text kind at
rpm_proves domain text kind at refused =
    has_no_list rpm_scheme domain rpm_apart.size rpm.IsCut rpm.ReadsAs (relation_outcome (rpm_spans.outcome domain)) (relation_holds rpm_holds.holds) (relation_tells rpm_apart.Tells) text kind at
    (relation_no_end None comparison.is_sign rpm.HasSigns rpm_versions.Spells first_past rpm_scheme.order rpm_scheme.IsVersion (InDomain rpm_scheme)
    rpm_spans.outcome rpm_holds.holds rpm_apart.size rpm_apart.Tells rpm_texts.spelled_version
    (λ domain operator bound kind none n. (rpm_apart.with_release (rpm_apart.beyond n bound) bound, rpm_apart.with_tildes (rpm_apart.beyond n bound) bound, rpm_laws.rpm_tells domain operator bound kind n none))
    rpm_laws.rpm_apart domain text kind at refused)

-- ---- by name

spans_or_high : (b : Bool) (kind : EndKind) → ¬ ((if b then made.Spans else made.TooHigh) ≡ made.NoEnd kind)
spans_or_high true kind e = cc e
spans_or_high false kind e = cc e

some : (kind : EndKind) (at : ℕ) → refusal_of.NoEndpoint kind at ≢ refusal_of.NoMemory
some kind at e = cc e

pub proves_no_end : (name : SchemeName) (domain : Domain) (text : List ℕ) (kind : EndKind) (at : ℕ) → IsRefused name domain text (refusal_of.NoEndpoint kind at) → ProvesNoEnd name domain text kind at
proves_no_end Npm domain text kind at refused =
    never_endless IsCut ReadsAs npm.IsPast npm.outcome text kind at (refused (some kind at)).1 (λ c e. spans_or_high (npm.is_raisable (npm.raised_numeral c.operator c.partial)) kind e)
proves_no_end Pypi domain text kind at refused = pypi_proves domain text kind at (refused (some kind at)).1
proves_no_end Maven domain text kind at refused = never_endless _ _ _ (brackets.outcome domain) text kind at (refused (some kind at)).1 (λ c e. cc e)
proves_no_end Gem domain text kind at refused = gem_proves domain text kind at (refused (some kind at)).1
proves_no_end Deb domain text kind at refused = never_endless _ _ _ (relation_outcome (deb.outcome domain)) text kind at (refused (some kind at)).1 (λ c e. cc e)
proves_no_end Rpm domain text kind at refused = rpm_proves domain text kind at (refused (some kind at)).1
proves_no_end Nuget domain text kind at refused = never_endless _ _ _ (brackets.outcome domain) text kind at (refused (some kind at)).1 (λ c e. cc e)
proves_no_end Cargo domain text kind at refused = (refused (some kind at)).1.1

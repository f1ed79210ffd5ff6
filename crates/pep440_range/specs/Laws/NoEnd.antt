-- A text of PyPI is refused for a construct without an end only where that construct tells versions of the domain apart.
use Rattle.std.specs.Prelude.{⊤}
use Rattle.std.proofs.Common.{ℕ, List}
use Rattle.vx_scheme.specs.declared.domain.Domain.{Domain}
use Rattle.vx_scheme.specs.declared.range_fault.EndKind.{EndKind}
use Rattle.vx_scheme.specs.declared.range_fault.RangeFault.TheVariants as fault_of
use Rattle.vx_scheme.specs.Native.{by_domain}
use Rattle.vx_range.specs.Laws.Apart.{has_no_end}
use Rattle.pep440_scheme.specs.Order.{order_of}
use Rattle.pep440_scheme.specs.Version.{IsRelease, IsVersion}
use Rattle.pep440_range.specs.Apart.{AreWitnesses, size}
use Rattle.pep440_range.specs.Holds.{holds}
use Rattle.pep440_range.specs.NoEnd.{HasNoEnd}
use Rattle.pep440_range.specs.Range.{Refuses}
use Rattle.pep440_range.specs.Reading.{IsCut, ReadsAs}
use Rattle.pep440_range.specs.Refusals.{IsPast, outcome}
use Rattle.pep440_range.specs.Laws.Apart.{pypi_apart, reads_version, some_witnesses}

pub pypi_no_end : (domain : Domain) (text : List ℕ) (kind : EndKind) (at : ℕ) → Refuses domain text (fault_of.NoEndpoint kind at) → HasNoEnd domain text kind at
pypi_no_end domain text kind at refused =
    has_no_end IsCut ReadsAs IsPast (outcome domain) text kind at refused order_of IsVersion (by_domain (λ _. ⊤) IsRelease domain) size holds (AreWitnesses domain)
    (λ construct none other n. some_witnesses domain construct kind n none other)
    (λ construct piece reads none n v w are. pypi_apart domain construct kind n v w (reads_version piece construct reads) none are)

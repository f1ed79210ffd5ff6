-- What a refusal for want of an end says of a text in PyPI's range language.
use Rattle.std.specs.Prelude.{ℕ, List, ⊤}
use Rattle.vx_scheme.specs.declared.domain.Domain.{Domain}
use Rattle.vx_scheme.specs.declared.range_fault.EndKind.{EndKind}
use Rattle.vx_scheme.specs.Native.{by_domain}
use Rattle.vx_range.specs.Apart as ends
use Rattle.pep440_scheme.specs.Version.{IsRelease, IsVersion}
use Rattle.pep440_scheme.specs.Order.{order_of}
use Rattle.pep440_range.specs.Apart.{AreWitnesses, size}
use Rattle.pep440_range.specs.Holds.{holds}
use Rattle.pep440_range.specs.Reading.{IsCut, ReadsAs}
use Rattle.pep440_range.specs.Refusals.{outcome}

-- the construct that begins at this place has no end of this kind in the domain, and tells versions of the domain apart
abbrev pub HasNoEnd : Domain → List ℕ → EndKind → ℕ → Type 0
HasNoEnd domain = ends.HasNoEnd order_of IsVersion (by_domain (λ _. ⊤) IsRelease domain) size IsCut ReadsAs (outcome domain) holds (AreWitnesses domain)

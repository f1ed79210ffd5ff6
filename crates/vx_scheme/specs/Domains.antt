-- The versions of a domain, over the members of a scheme: this project's own.
use Rattle.vx_scheme.specs.declared.domain.Domain.{Domain}
use Rattle.vx_scheme.specs.declared.scheme.Scheme.{Ghosts}
use Rattle.vx_scheme.specs.Native.{by_domain}

abbrev pub InDomain : {S V : Type 0} → Ghosts S V → Domain → V → Type 0
InDomain scheme = by_domain scheme.InAll scheme.IsRelease

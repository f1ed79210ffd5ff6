-- What becomes of Debian's relations: this project's own.
use Rattle.vx_scheme.specs.declared.domain.Domain.{Domain}
use Rattle.vx_range.specs.declared.making.Outcome.{Outcome}
use Rattle.vx_range.specs.declared.making.Outcome.TheVariants as made
use Rattle.deb_scheme.specs.Version.{Fields}
use Rattle.relation_ranges.specs.declared.comparison.Comparison.{Comparison}

-- each makes its span, in each domain
abbrev pub outcome : Domain → Comparison → Fields → Outcome
outcome domain operator bound = made.Spans

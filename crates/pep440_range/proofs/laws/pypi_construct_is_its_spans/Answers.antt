use Rattle.vx_scheme.specs.declared.domain.Domain.TheVariants.{All, Releases}
use Rattle.pep440_range.specs.Laws.Agrees.{pypi_agrees}
use Rattle.pep440_range.proofs.laws.pypi_construct_is_its_spans.Goals as goal

pub returns-clause-all : goal.returns-clause-all
returns-clause-all c = λ construct mark v version makes. pypi_agrees All mark construct v version tt makes

pub returns-clause-releases : goal.returns-clause-releases
returns-clause-releases c = λ construct mark v version release makes. pypi_agrees Releases mark construct v version release makes

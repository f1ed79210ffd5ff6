use Rattle.pep440_range.specs.Laws.Sizes.{pypi_short, pypi_one}
use Rattle.pep440_range.proofs.sizes.pypi_is_short.Goals as goal

pub returns : goal.returns
returns c = record { short = pypi_short; one = pypi_one }

use Rattle.pep440_range.specs.Laws.Apart.{greater_witnesses, pypi_apart, reads_version}
use Rattle.pep440_range.proofs.laws.pypi_no_end_tells_apart.Goals as goal

pub returns-clause-apart : goal.returns-clause-apart
returns-clause-apart c = λ piece construct domain kind n v w reads none are.
    pypi_apart domain construct kind n v w (reads_version piece construct reads) none are

pub returns-clause-greater : goal.returns-clause-greater
returns-clause-greater c = λ construct domain n none. greater_witnesses domain construct n none

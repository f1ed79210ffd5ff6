use Rattle.vx_range.specs.Laws.OneRefusal.{reads_one, refuses_one}
use Rattle.pep440_range.specs.Reading.{IsCut, ReadsAs}
use Rattle.pep440_range.specs.Refusals.{IsPast, outcome}
use Rattle.pep440_range.specs.Laws.Readings.{pypi_cuts, pypi_pieces}
use Rattle.pep440_range.proofs.laws.pypi_one_answer.Goals as goal

pub returns-clause-reads : goal.returns-clause-reads
returns-clause-reads c = reads_one ReadsAs IsPast pypi_pieces IsCut pypi_cuts

pub returns-clause-refused : goal.returns-clause-refused
returns-clause-refused c = λ domain. refuses_one ReadsAs IsPast pypi_pieces IsCut pypi_cuts (outcome domain)

use Rattle.vx_range.specs.Laws.OneRefusal.{reads_one, refuses_one}
use Rattle.npm_range.specs.Cutting.{IsCut}
use Rattle.npm_range.specs.Reading.{ReadsAs}
use Rattle.npm_range.specs.Refusals.{IsPast, outcome}
use Rattle.npm_range.specs.Laws.Cuts.{npm_cuts}
use Rattle.npm_range.specs.Laws.Pieces.{npm_pieces}
use Rattle.npm_range.proofs.laws.npm_one_answer.Goals as goal

pub returns-clause-reads : goal.returns-clause-reads
returns-clause-reads c = reads_one ReadsAs IsPast npm_pieces IsCut npm_cuts

pub returns-clause-refused : goal.returns-clause-refused
returns-clause-refused c = λ domain. refuses_one ReadsAs IsPast npm_pieces IsCut npm_cuts outcome

use Rattle.pep440_range.proofs.MakingLaws.{popped}
use Rattle.pep440_range.proofs.making.without_last.Goals as goal

pub returns : goal.returns
returns c = popped c.args.numbers.now c.in_ok-front.front c.pop-last.new.self c.in_ok-front.ensures c.pop-last.result c.pop-last.ensures

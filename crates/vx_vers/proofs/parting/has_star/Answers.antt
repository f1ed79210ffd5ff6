use Rattle.std.proofs.Common.{lit<, rules, tests}
use Rattle.std.proofs.lemmas.Iterator.Search.{any_from_yields_List}
use Rattle.std.proofs.lemmas.Iterator.Splits.{YieldsList-from_str_split}
use Rattle.vx_vers.specs.Steps.Reading.{is_star}
use Rattle.vx_vers.proofs.parting.has_star.Goals as goal

pub returns : goal.returns
returns c =
    any_from_yields_List is_star _ _ c.any.result c.any.ensures.ran
    (YieldsList-from_str_split 124 c.args.text.now (lit< tt) c.split.ensures.text c.split.ensures.has_more c.split.ensures.pattern)
    (λ x b q k. search (rules, tests))

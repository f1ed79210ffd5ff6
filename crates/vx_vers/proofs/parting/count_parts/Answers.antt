use Rattle.std.proofs.Common.{lit<, ◌∙◌, rules, tests}
use Rattle.std.proofs.lemmas.Iterator.Consumers.{YieldsList-at, YieldsList-from_filter, count_from_yields_List}
use Rattle.std.proofs.lemmas.Iterator.Splits.{YieldsList-from_str_split}
use Rattle.std.proofs.lemmas.List.Sums.{length-filter}
use Rattle.vx_vers.specs.Steps.Reading.{is_some_part, parts_of}
use Rattle.vx_vers.proofs.parting.count_parts.Goals as goal

pub returns : goal.returns
returns c =
    count_from_yields_List c.filter.result _ c.count.ensures.ran
    (YieldsList-from_filter _ is_some_part
    (YieldsList-at c.filter.ensures.source (YieldsList-from_str_split 124 c.args.text.now (lit< tt) c.split.ensures.text c.split.ensures.has_more c.split.ensures.pattern))
    c.filter.ensures.closure (λ x b q k. search (rules, tests)))
    ∙ length-filter is_some_part (parts_of c.args.text.now)

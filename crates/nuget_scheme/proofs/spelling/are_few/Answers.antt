use Rattle.std.proofs.Common.{◌≡◌, length, lit<, arith}
use Rattle.std.proofs.lemmas.Bool.Decides.{nat_tests}
use Rattle.std.proofs.lemmas.Iterator.Consumers.{count_from_yields_List}
use Rattle.std.proofs.lemmas.Iterator.Splits.{YieldsList-from_str_split}
use Rattle.vx_order.specs.Dotted.{dotted}
use Rattle.nuget_scheme.proofs.spelling.are_few.Goals as goal

pub returns : goal.returns
returns c =
    let count : c.count.result ≡ length (dotted c.args.text.now) =
    count_from_yields_List _ _ c.count.ensures.ran
    (YieldsList-from_str_split 46 c.args.text.now (lit< tt) c.split.ensures.text c.split.ensures.has_more c.split.ensures.pattern) in
    rw count (grind (arith, nat_tests))

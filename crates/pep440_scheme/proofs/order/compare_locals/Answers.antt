use Rattle.std.proofs.Common.{◌∙◌}
use Rattle.pep440_scheme.proofs.OrderLaws.{locals_compare}
use Rattle.pep440_scheme.proofs.order.compare_locals.Goals as goal

pub returns : goal.returns
returns c = c.compare_idents.ensures.value ∙ locals_compare c.args.a.now c.args.b.now

use Rattle.purl_types.proofs.SameLaws.{each_equal, told_by}
use Rattle.purl_types.proofs.comparing.equal_texts.Goals as goal

pub returns : goal.returns
returns c = told_by c.same_texts.result c.same_texts.ensures (each_equal c.args.a.now c.args.b.now)

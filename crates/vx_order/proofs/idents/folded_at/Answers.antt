use Rattle.std.proofs.Common.{◌∙◌, rules}
use Rattle.vx_order.proofs.IdentLaws.{folded_byte}
use Rattle.vx_order.proofs.idents.folded_at.Goals as goal

pub returns-in-Some : goal.returns-in-Some
returns-in-Some c =
    folded_byte c.args.text.now c.args.i c.in-Some.byte.now c.from.result (search rules) (search rules) (c.from.ensures ∙ c.to_ascii_lowercase.ensures.value)

use Rattle.vx_text.proofs.PastLaws.{digits_utf8}
use Rattle.vx_text.proofs.past.long_number.Goals as goal

pub unreachable-requires : goal.unreachable-requires
unreachable-requires c = c.in-Err.ensures.cases.0 (digits_utf8 c.args.digits.now c.requires.digits)

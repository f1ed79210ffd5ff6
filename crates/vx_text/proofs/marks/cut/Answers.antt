-- A character begins behind an ASCII byte.
use Rattle.std.proofs.Common.{rules}
use Rattle.std.proofs.lemmas.Str.{lead_after_ascii}
use Rattle.vx_text.proofs.marks.cut.Goals as goal

pub range_from-requires : goal.range_from-requires
range_from-requires c _ = (search rules, λ inside high. lead_after_ascii c.args.text.now c.in-Some.at c.utf8.text (search rules) inside high)

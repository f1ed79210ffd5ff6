use Rattle.std.proofs.Common.{codes}
use Rattle.vx_cli.proofs.WordRows.{not_one_word, not_two_words}
use Rattle.vx_cli.proofs.job.job_of.Goals as goal

pub returns-in_default : goal.returns-in_default
returns-in_default c =
    let row = c.of_words.ensures in
    c.job_of_line.ensures _ row (not_one_word _ _ row c.in_default.not-One (codes "batch")) (λ text. not_two_words _ _ row c.in_default.not-Two (codes "drill") text)

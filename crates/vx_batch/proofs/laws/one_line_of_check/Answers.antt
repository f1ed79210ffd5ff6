use Rattle.vx_translate.specs.Names.{IsCheck, IsCheckRefused}
use Rattle.vx_translate.specs.declared.check_refusal.CheckRefusal.TheVariants.{NoMemory}
use Rattle.vx_batch.specs.Answers.{IsDecided, check_line}
use Rattle.vx_batch.proofs.OneLine.{one_line, one_decided}
use Rattle.vx_batch.proofs.laws.one_line_of_check.Goals as goal

pub returns : goal.returns
returns c purl vers =
    one_line NoMemory check_line (IsDecided (IsCheck purl vers)) (IsCheckRefused purl vers)
    (one_decided (IsCheck purl vers) (c.one_check.ensures.decision purl vers)) (c.one_check.ensures.refusal purl vers)
    (λ text refusal some p. c.one_check.ensures.apart purl vers p.0 refusal some p.1)

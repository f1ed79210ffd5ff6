use Rattle.std.proofs.Common.{◌∙◌, ap}
use Rattle.vx_vers.specs.Heads.{solid}
use Rattle.vx_text.specs.Folding.{lowered}
use Rattle.vx_vers.proofs.HeadLaws.{named_parts, no_colon, uncut}
use Rattle.vx_vers.proofs.naming.name_in_front.Goals as goal

pub returns-in_default : goal.returns-in_default
returns-in_default c = let cut = rw c.in_default.is at c.cut.ensures in no_colon c.args.front.now (uncut cut)

pub returns-else-spells_word : goal.returns-else-spells_word
returns-else-spells_word c = λ name is.
    let cut = rw c.in-Some.is at c.cut.ensures in
    let parts = named_parts c.args.front.now c.cut.result.0.now c.in-Some.name.now name cut.joined cut.first is in
    let t = c.spells_word.ensures.1 (ap (λ word. lowered (solid word)) c.as_bytes.ensures.value ∙ parts.0) in
    cc (t, c.if-spells_word.false)

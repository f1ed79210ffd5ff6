use Rattle.std.proofs.Common.{◌∙◌, ap}
use Rattle.pep440_range.specs.Back.{range_text}
use Rattle.pep440_range.specs.Steps.BackTexts.{parts_of}
use Rattle.pep440_range.proofs.BackLaws.{range_is, several_fault, several_parts}
use Rattle.pep440_range.proofs.back.push_all.Goals as goal

pub returns-in-len2-up-clause-ok : goal.returns-in-len2-up-clause-ok
returns-in-len2-up-clause-ok c =
    let first = c.first-item.result in
    let last = c.last-item.result in
    let spans = c.args.spans.now in
    let fault = several_fault c.args.domain first last spans c.first-item.is c.last-item.is c.in-len2-up.len_at_least in
    let text = ap range_text (several_parts c.args.domain first last spans c.first-item.is c.last-item.is c.in-len2-up.len_at_least) ∙ range_is (parts_of c.args.domain first.lower last.upper spans) in
    rw (fault, text) c.push_parts-in-len2-up.ensures.ok

pub returns-in-len2-up-clause-err : goal.returns-in-len2-up-clause-err
returns-in-len2-up-clause-err c =
    let fault = several_fault c.args.domain c.first-item.result c.last-item.result c.args.spans.now c.first-item.is c.last-item.is c.in-len2-up.len_at_least in
    rw fault c.push_parts-in-len2-up.ensures.err

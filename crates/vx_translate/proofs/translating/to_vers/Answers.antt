use Rattle.std.proofs.Common.{IfErr, subst}
use Rattle.vx_translate.specs.Names.{IsRefused}
use Rattle.vx_translate.proofs.NecessaryLaws.{proves_no_end}
use Rattle.vx_translate.proofs.ShortNames.{short_ok}
use Rattle.vx_translate.proofs.translating.to_vers.Goals as goal

pub returns-clause-short : goal.returns-clause-short
returns-clause-short c = short_ok c.translate_named.result c.args.name c.args.domain c.args.text.now c.translate_named.ensures.short

pub returns-clause-no_end : goal.returns-clause-no_end
returns-clause-no_end c kind at is =
    let name = c.args.name in
    let domain = c.args.domain in
    let text = c.args.text.now in
    proves_no_end name domain text kind at (subst (λ r. IfErr r (IsRefused name domain text)) is c.translate_named.ensures.err)

use Rattle.std.proofs.Common.{IfErr, subst}
use Rattle.vx_scheme.specs.Native.{Refused}
use Rattle.pep440_range.specs.Range.{Refuses}
use Rattle.pep440_range.specs.Laws.NoEnd.{pypi_no_end}
use Rattle.pep440_range.proofs.range.PypiRangeNative.bounds.Goals as goal

pub returns-clause-no_end : goal.returns-clause-no_end
returns-clause-no_end c kind at is =
    let domain = c.args.domain in
    let text = c.args.text.now in
    let refused = subst (λ r. IfErr r (Refused (Refuses domain text))) is c.bounds_of_terms.ensures.err in
    pypi_no_end domain text kind at (refused (λ e. cc e))

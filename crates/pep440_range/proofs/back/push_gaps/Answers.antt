use Rattle.std.proofs.Common.{◌++◌, ◌∙◌, ap, sym, append-nil}
use Rattle.pep440_range.specs.Steps.BackTexts.{listed}
use Rattle.pep440_range.proofs.BackLaws.{short_fault, short_gaps}
use Rattle.pep440_range.proofs.back.push_gaps.Goals as goal

pub returns-clause-ok : goal.returns-clause-ok
returns-clause-ok c = (
  sym c.gaps.invariant.1 ∙ short_fault c.args.domain c.gaps.rest.now c.in_default.len_below,
  sym (append-nil c.gaps.out)
      ∙ ap (λ constructs. c.gaps.out ++ listed c.gaps.some constructs) (sym (short_gaps c.args.domain c.gaps.rest.now c.in_default.len_below)) ∙ c.gaps.invariant.0,
)

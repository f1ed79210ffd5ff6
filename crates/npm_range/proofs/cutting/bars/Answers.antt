use Rattle.std.proofs.Common.{arith}
use Rattle.npm_range.specs.Laws.Bars.{cut_found, two_within, none_found, before_most}
use Rattle.npm_range.proofs.cutting.bars.Goals as goal

pub returns-then-at-text-clause-cut : goal.returns-then-at-text-clause-cut
returns-then-at-text-clause-cut c = rw c.before_bars-at.ensures (cut_found c.args.text.now (rw c.before_bars-at.ensures at c.if-at-text.true))

pub returns-then-at-text-clause-within : goal.returns-then-at-text-clause-within
returns-then-at-text-clause-within c = rw c.before_bars-at.ensures (two_within c.args.text.now (rw c.before_bars-at.ensures at c.if-at-text.true))

pub returns-else-at-text-clause-cut : goal.returns-else-at-text-clause-cut
returns-else-at-text-clause-cut c =
    none_found c.args.text.now (omega (arith, c.if-at-text.false, c.before_bars-at.ensures, before_most c.args.text.now))

use Rattle.std.proofs.Common.{sym}
use Rattle.gem_scheme.proofs.SegmentLaws.{shortened_taken}
use Rattle.gem_scheme.proofs.steps.series.Goals as goal

pub returns-then-len-gt1 : goal.returns-then-len-gt1
returns-then-len-gt1 c = rw (← c.front_len-len.ensures.count) (sym (shortened_taken c.front_len-len.result c.args.segments.now c.if-len-gt1.true c.front_len-len.ensures.within))

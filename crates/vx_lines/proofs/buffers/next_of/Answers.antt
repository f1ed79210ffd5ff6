use Rattle.std.proofs.Common.{◌∙◌, arith, inl, inr, subst}
use Rattle.vx_spec.specs.Marks.{Lacks}
use Rattle.vx_lines.proofs.Collected.{with_feed, turn, no_items, no_feed, last_line, no_line, no_read, no_more}
use Rattle.vx_lines.proofs.buffers.next_of.Goals as goal

pub returns-then-take_front-clause-takes : goal.returns-then-take_front-clause-takes
returns-then-take_front-clause-takes g c = λ was is_open.
    let (so, good, below, more, same, first) = c.loop-b.invariant in
    let taken = c.if-take_front.ensures in
    rw c.line_found.ensures (with_feed c.args.b.now c.loop-b.b c.take_front.new.b _ _ so was is_open c.if-b.false below more taken.front taken.sizes taken.counts)

pub loop-b-preserved : goal.loop-b-preserved
loop-b-preserved g c =
    let (so, good, below, more, same, first) = c.loop-b.invariant in
    let taken = c.if-take_front.ensures in
    let read = c.in-More.ensures in
    let lacks = no_feed c.args.b.now c.loop-b.b c.take_front.new.b _ _ so taken.front in (
      turn c.args.b.now c.loop-b.b c.take_front.new.b c.fill.new.b _ _ _ _ so taken.front taken.sizes taken.counts read.filled read.sizes read.line,
      read.good,
      read.filled.ends.1,
      read.filled.ends.2,
      read.kept (λ e. cc e) ∙ same,
      inr (elim first [
        | inl start ↦ subst (Lacks 10) start.1 lacks
        | inr before ↦ before
      ]),
    )

pub returns-in-Ended-2-clause-takes : goal.returns-in-Ended-2-clause-takes
returns-in-Ended-2-clause-takes g c = λ was is_open.
    let (so, good, below, more, same, first) = c.loop-b.invariant in
    let taken = c.if-take_front.ensures in
    let read = c.in-Ended-2.ensures in
    let (none, still, ended, end) = read.filled.ends in
    let all = turn c.args.b.now c.loop-b.b c.take_front.new.b c.fill.new.b _ _ _ _ so taken.front taken.sizes taken.counts read.filled read.sizes read.line in
    rw c.line_found-in-Ended-2.ensures (last_line c.args.b.now c.fill.new.b _ _ all was is_open c.if-b.false (read.filled.held ∙ none) ended end still (λ empty. absurd (grind (arith, empty, c.if-is_empty.ensures))))

pub returns-in-Failed-clause-takes : goal.returns-in-Failed-clause-takes
returns-in-Failed-clause-takes g c = λ was is_open.
    let (so, good, below, more, same, first) = c.loop-b.invariant in
    let taken = c.if-take_front.ensures in
    let read = c.in-Failed.ensures in
    let (none, still, open_end) = read.filled.ends in
    let all = turn c.args.b.now c.loop-b.b c.take_front.new.b c.fill.new.b _ _ _ _ so taken.front taken.sizes taken.counts read.filled read.sizes read.line in
    no_read c.args.b.now c.fill.new.b _ _ all was is_open c.if-b.false (read.filled.held ∙ none) open_end still

pub returns-in-Limit-clause-takes : goal.returns-in-Limit-clause-takes
returns-in-Limit-clause-takes g c = λ was is_open.
    let (so, good, below, more, same, first) = c.loop-b.invariant in
    let taken = c.if-take_front.ensures in
    let read = c.in-Limit.ensures in
    let (full, open_end) = read.filled.ends in
    let all = turn c.args.b.now c.loop-b.b c.take_front.new.b c.fill.new.b _ _ _ _ so taken.front taken.sizes taken.counts read.filled read.sizes read.line in
    no_more c.args.b.now c.fill.new.b _ _ all was is_open c.if-b.false (rw (read.filled.held, ← all.sizes.piece) read.filled.most) open_end full

pub returns-in-Ended-clause-takes : goal.returns-in-Ended-clause-takes
returns-in-Ended-clause-takes g c = λ was is_open.
    let (so, good, below, more, same, first) = c.loop-b.invariant in
    let taken = c.if-take_front.ensures in
    let read = c.in-Ended.ensures in
    let (none, still, ended, end) = read.filled.ends in
    let all = turn c.args.b.now c.loop-b.b c.take_front.new.b c.fill.new.b _ _ _ _ so taken.front taken.sizes taken.counts read.filled read.sizes read.line in
    no_line c.args.b.now c.fill.new.b _ _ all was is_open c.if-b.false (read.filled.held ∙ none) ended end still read.good.least (no_items c.fill.new.b.line.items (grind (arith, c.if-is_empty.ensures)))

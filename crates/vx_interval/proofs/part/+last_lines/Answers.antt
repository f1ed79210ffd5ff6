use Rattle.std.proofs.Common.{arith, ◌-◌, ◌*◌, ◌/◌, length, drop}
use Rattle.vx_line.specs.Logarithm.{log2_up}
use Rattle.vx_line.proofs.LogarithmLaws.{log_half}
use Rattle.vx_interval.specs.Steps.Lines.{all_cuts}
use Rattle.vx_interval.proofs.CostLaws.{halved, refused_first, refused_second, one_line_cost}
use Rattle.vx_interval.proofs.LineLaws.{taken_fewer, both_line, both_count, fewer_cuts}
use Rattle.vx_interval.proofs.part.+last_lines.Goals as goal

pub returns-then-count-eq1-clause-cost : goal.returns-then-count-eq1-clause-cost
returns-then-count-eq1-clause-cost g t c most within =
    let fewer = taken_fewer g.X.Part.cuts c.args.parts.now c.last_line.new.parts c.last_line.ensures.split in
    one_line_cost (length (all_cuts g.X.Part.cuts (drop (length c.last_line.new.parts) c.args.parts.now))) most g.X.Part.depth (log2_up c.args.count) _ _ c.last_line.ensures.cost (omega arith)

pub returns-in_err-second-clause-cost : goal.returns-in_err-second-clause-cost
returns-in_err-second-clause-cost g t c most within =
    refused_first (length (all_cuts g.X.Part.cuts (drop (length c.last_lines.new.parts) c.args.parts.now))) (g.X.Part.depth * log2_up most) (log2_up (c.args.count / 2)) (log2_up c.args.count) _ _
    (c.in_err-second.ensures.cost most within) (log_half (c.args.count / 2) c.args.count (omega arith) (omega arith))

pub returns-in_err-first-clause-cost : goal.returns-in_err-first-clause-cost
returns-in_err-first-clause-cost g t c most within =
    let o = g.met.C.Compares.total in
    let all = c.args.parts.now in
    let mid = c.last_lines.new.parts in
    let new = c.last_lines-2.new.parts in
    let fewer = fewer_cuts o g.X.Part.cuts g.X.Part.at c.args.both all mid new c.in_err-first.ensures.split c.in_ok-second.ensures.split in
    refused_second (length (all_cuts g.X.Part.cuts (drop (length new) mid))) (length (all_cuts g.X.Part.cuts (drop (length mid) all))) _ (g.X.Part.depth * log2_up most)
    (log2_up (c.args.count / 2)) (log2_up (c.args.count - c.args.count / 2)) (log2_up c.args.count) _ _ _
    (c.in_ok-second.ensures.cost most within) (c.in_err-first.ensures.cost most (omega arith))
    (log_half (c.args.count / 2) c.args.count (omega arith) (omega arith)) (log_half (c.args.count - c.args.count / 2) c.args.count (omega arith) (omega arith))
    (both_count o g.X.Part.cuts g.X.Part.at c.args.both all mid new c.in_err-first.ensures.split c.in_ok-second.ensures.split)

pub returns-clause-line : goal.returns-clause-line
returns-clause-line g t c =
    both_line g.met.C.Compares.total g.X.Part.cuts g.X.Part.at c.args.both c.args.parts.now c.last_lines.new.parts c.last_lines-2.new.parts c.in_ok-first.ensures.split c.in_ok-second.ensures.split
    c.in_ok-first.first c.in_ok-second.second c.in_ok-line.line c.in_ok-first.ensures.line c.in_ok-second.ensures.line c.in_ok-line.ensures.starts c.in_ok-line.ensures.pieces

pub returns-in_err-line-clause-cost : goal.returns-in_err-line-clause-cost
returns-in_err-line-clause-cost g t c most within =
    let o = g.met.C.Compares.total in
    let all = c.args.parts.now in
    let mid = c.last_lines.new.parts in
    let new = c.last_lines-2.new.parts in
    let fewer = fewer_cuts o g.X.Part.cuts g.X.Part.at c.args.both all mid new c.in_ok-first.ensures.split c.in_ok-second.ensures.split in
    halved (length (all_cuts g.X.Part.cuts (drop (length new) mid))) (length (all_cuts g.X.Part.cuts (drop (length mid) all))) (length c.in_ok-first.first.pieces) (length c.in_ok-second.second.pieces) _ (g.X.Part.depth * log2_up most)
    (log2_up (c.args.count / 2)) (log2_up (c.args.count - c.args.count / 2)) (log2_up c.args.count) _ _ _ _
    (c.in_ok-second.ensures.cost most within) (c.in_ok-first.ensures.cost most (omega arith)) c.join_lines.ensures.cost
    c.in_ok-first.ensures.line.few c.in_ok-second.ensures.line.few
    (log_half (c.args.count / 2) c.args.count (omega arith) (omega arith)) (log_half (c.args.count - c.args.count / 2) c.args.count (omega arith) (omega arith))
    (both_count o g.X.Part.cuts g.X.Part.at c.args.both all mid new c.in_ok-first.ensures.split c.in_ok-second.ensures.split)

pub returns-clause-cost : goal.returns-clause-cost
returns-clause-cost g t c most within =
    let o = g.met.C.Compares.total in
    let all = c.args.parts.now in
    let mid = c.last_lines.new.parts in
    let new = c.last_lines-2.new.parts in
    let fewer = fewer_cuts o g.X.Part.cuts g.X.Part.at c.args.both all mid new c.in_ok-first.ensures.split c.in_ok-second.ensures.split in
    halved (length (all_cuts g.X.Part.cuts (drop (length new) mid))) (length (all_cuts g.X.Part.cuts (drop (length mid) all))) (length c.in_ok-first.first.pieces) (length c.in_ok-second.second.pieces) _ (g.X.Part.depth * log2_up most)
    (log2_up (c.args.count / 2)) (log2_up (c.args.count - c.args.count / 2)) (log2_up c.args.count) _ _ _ _
    (c.in_ok-second.ensures.cost most within) (c.in_ok-first.ensures.cost most (omega arith)) c.in_ok-line.ensures.cost
    c.in_ok-first.ensures.line.few c.in_ok-second.ensures.line.few
    (log_half (c.args.count / 2) c.args.count (omega arith) (omega arith)) (log_half (c.args.count - c.args.count / 2) c.args.count (omega arith) (omega arith))
    (both_count o g.X.Part.cuts g.X.Part.at c.args.both all mid new c.in_ok-first.ensures.split c.in_ok-second.ensures.split)

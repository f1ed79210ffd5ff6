use Rattle.std.proofs.Common.{◌≡◌, ◌≤◌, arith, length, drop, sym, ◌∙◌}
use Rattle.vx_interval.specs.Steps.Lines.{all_cuts, with_cuts}
use Rattle.vx_interval.proofs.CostLaws.{no_cost, list_cost}
use Rattle.vx_interval.proofs.LineLaws.{taken_fewer, none_taken, few_parts, rest_line}
use Rattle.vx_interval.proofs.part.join_parts.Goals as goal

pub returns-then-count-eq0-clause-cost : goal.returns-then-count-eq0-clause-cost
returns-then-count-eq0-clause-cost g c =
    let none = none_taken g.X.Part.cuts c.args.parts c.last_line.new.parts c.last_line.ensures.split (sym c.count_with_cuts-count.ensures ∙ c.if-count-eq0.true) in
    let free : c.last_line.new.steps ≤ c.args.steps.now = no_cost (length (all_cuts g.X.Part.cuts (drop (length c.last_line.new.parts) c.args.parts))) g.X.Part.depth c.args.steps.now _ _ (omega arith) c.last_line.ensures.cost none in
    omega (arith, free)

pub returns-in_err-line-clause-cost : goal.returns-in_err-line-clause-cost
returns-in_err-line-clause-cost g c =
    let few = few_parts g.X.Part.cuts c.args.parts in
    let count = c.count_with_cuts-count.ensures in
    list_cost (length (all_cuts g.X.Part.cuts c.args.parts)) _ c.count_with_cuts-count.result g.X.Part.depth _ _
    (c.in_err-line.ensures.cost (length (all_cuts g.X.Part.cuts c.args.parts)) (omega arith))
    (taken_fewer g.X.Part.cuts c.args.parts c.last_lines.new.parts c.in_err-line.ensures.split) (omega arith)

pub returns-then-is_empty-clause-cost : goal.returns-then-is_empty-clause-cost
returns-then-is_empty-clause-cost g c =
    let few = few_parts g.X.Part.cuts c.args.parts in
    let count = c.count_with_cuts-count.ensures in
    list_cost (length (all_cuts g.X.Part.cuts c.args.parts)) _ c.count_with_cuts-count.result g.X.Part.depth _ _
    (c.in_ok-line.ensures.cost (length (all_cuts g.X.Part.cuts c.args.parts)) (omega arith))
    (taken_fewer g.X.Part.cuts c.args.parts c.last_lines.new.parts c.in_ok-line.ensures.split) (omega arith)

pub returns-in_err-rest-clause-cost : goal.returns-in_err-rest-clause-cost
returns-in_err-rest-clause-cost g c =
    let few = few_parts g.X.Part.cuts c.args.parts in
    let count = c.count_with_cuts-count.ensures in
    let left = c.in_ok-line.ensures.left in
    let none : with_cuts g.X.Part.cuts c.last_lines.new.parts ≡ 0 = omega arith in
    let paid = list_cost (length (all_cuts g.X.Part.cuts c.args.parts)) _ c.count_with_cuts-count.result g.X.Part.depth _ _
    (c.in_ok-line.ensures.cost (length (all_cuts g.X.Part.cuts c.args.parts)) (omega arith))
    (taken_fewer g.X.Part.cuts c.args.parts c.last_lines.new.parts c.in_ok-line.ensures.split) (omega arith) in
    no_cost (length (all_cuts g.X.Part.cuts (drop (length c.last_line-2.new.parts) c.last_lines.new.parts))) g.X.Part.depth _ _ _ paid c.in_err-rest.ensures.cost (none_taken g.X.Part.cuts c.last_lines.new.parts c.last_line-2.new.parts c.in_err-rest.ensures.split none)

pub returns-clause-line : goal.returns-clause-line
returns-clause-line g c =
    let count = c.count_with_cuts-count.ensures in
    let left = c.in_ok-line.ensures.left in
    let none : with_cuts g.X.Part.cuts c.last_lines.new.parts ≡ 0 = omega arith in
    rest_line g.met.C.Compares.total g.X.Part.cuts g.X.Part.at c.args.both c.args.parts c.last_lines.new.parts c.last_line-2.new.parts c.in_ok-rest.ensures.split c.in_ok-line.ensures.split none (c.in_ok-rest.ensures.all none)
    c.in_ok-rest.rest c.in_ok-line.line c.join_even.result c.in_ok-rest.ensures.line c.in_ok-line.ensures.line c.join_even.ensures.starts c.join_even.ensures.pieces

pub returns-clause-cost : goal.returns-clause-cost
returns-clause-cost g c =
    let few = few_parts g.X.Part.cuts c.args.parts in
    let count = c.count_with_cuts-count.ensures in
    let left = c.in_ok-line.ensures.left in
    let none : with_cuts g.X.Part.cuts c.last_lines.new.parts ≡ 0 = omega arith in
    let paid = list_cost (length (all_cuts g.X.Part.cuts c.args.parts)) _ c.count_with_cuts-count.result g.X.Part.depth _ _
    (c.in_ok-line.ensures.cost (length (all_cuts g.X.Part.cuts c.args.parts)) (omega arith))
    (taken_fewer g.X.Part.cuts c.args.parts c.last_lines.new.parts c.in_ok-line.ensures.split) (omega arith) in
    no_cost (length (all_cuts g.X.Part.cuts (drop (length c.last_line-2.new.parts) c.last_lines.new.parts))) g.X.Part.depth _ _ _ paid c.in_ok-rest.ensures.cost (none_taken g.X.Part.cuts c.last_lines.new.parts c.last_line-2.new.parts c.in_ok-rest.ensures.split none)

use Rattle.std.proofs.Common.{◌≡◌, false, length, sym, ap, ◌∙◌}
use Rattle.vx_interval.specs.Steps.Lines.{has_item, line_cost}
use Rattle.vx_interval.proofs.CostLaws.{passed, no_cost}
use Rattle.vx_interval.proofs.LineLaws.{no_length, skipped_more, taken_cuts, taken_line, taken_left, taken_some, ended_line}
use Rattle.vx_interval.proofs.part.last_line.Goals as goal

pub returns-in_err-line-clause-cost : goal.returns-in_err-line-clause-cost
returns-in_err-line-clause-cost g c =
    passed _ _ _ _ _ c.loop-part.invariant.cost c.in_err-line.ensures.cost
    (ap (λ cuts. line_cost g.X.Part.depth (length cuts)) (sym (taken_cuts g.met.C.Compares.total g.X.Part.cuts g.X.Part.at c.args.both c.args.parts.now c.loop-part.parts c.pop.new.self c.in-Some.part c.loop-part.inside c.loop-part.invariant.skipped c.in-Some.ensures)))

pub returns-then-has_cut-clause-left : goal.returns-then-has_cut-clause-left
returns-then-has_cut-clause-left g c =
    taken_left g.met.C.Compares.total g.X.Part.cuts g.X.Part.at c.args.both c.args.parts.now c.loop-part.parts c.pop.new.self c.in-Some.part c.loop-part.inside c.loop-part.invariant.skipped c.in-Some.ensures
    (sym c.has_cut-has_cut.ensures ∙ c.if-has_cut.true)

pub returns-then-has_cut-clause-all : goal.returns-then-has_cut-clause-all
returns-then-has_cut-clause-all g c none =
    taken_some g.met.C.Compares.total g.X.Part.cuts g.X.Part.at c.args.both c.args.parts.now c.loop-part.parts c.pop.new.self c.in-Some.part c.loop-part.inside c.loop-part.invariant.skipped c.in-Some.ensures
    (sym c.has_cut-has_cut.ensures ∙ c.if-has_cut.true) none

pub returns-then-has_cut-clause-line : goal.returns-then-has_cut-clause-line
returns-then-has_cut-clause-line g c =
    taken_line g.met.C.Compares.total g.X.Part.cuts g.X.Part.at c.args.both c.args.parts.now c.loop-part.parts c.pop.new.self c.in-Some.part c.loop-part.inside c.loop-part.invariant.skipped c.in-Some.ensures
    c.in_ok-line.line c.join_even.result c.in_ok-line.ensures.line c.join_even.ensures.starts c.join_even.ensures.pieces

pub returns-then-has_cut-clause-cost : goal.returns-then-has_cut-clause-cost
returns-then-has_cut-clause-cost g c =
    passed _ _ _ _ _ c.loop-part.invariant.cost c.in_ok-line.ensures.cost
    (ap (λ cuts. line_cost g.X.Part.depth (length cuts)) (sym (taken_cuts g.met.C.Compares.total g.X.Part.cuts g.X.Part.at c.args.both c.args.parts.now c.loop-part.parts c.pop.new.self c.in-Some.part c.loop-part.inside c.loop-part.invariant.skipped c.in-Some.ensures)))

pub loop-part-preserved : goal.loop-part-preserved
loop-part-preserved g c =
    let none : has_item (g.X.Part.cuts c.in-Some.part) ≡ false = sym c.has_cut-has_cut.ensures ∙ c.if-has_cut.false in
    record {
      skipped =
          skipped_more g.met.C.Compares.total g.X.Part.cuts g.X.Part.at c.args.both c.args.parts.now c.loop-part.parts c.pop.new.self c.in-Some.part c.loop-part.inside c.loop-part.invariant.skipped c.in-Some.ensures
          c.in_ok-line.line c.join_values-inside.result none c.in_ok-line.ensures.line c.join_values-inside.ensures;
      cost = no_cost (length (g.X.Part.cuts c.in-Some.part)) g.X.Part.depth _ _ _ c.loop-part.invariant.cost c.in_ok-line.ensures.cost (no_length (g.X.Part.cuts c.in-Some.part) none);
    }

pub returns-clause-line : goal.returns-clause-line
returns-clause-line g c =
    ended_line g.met.C.Compares.total g.X.Part.cuts g.X.Part.at c.args.both c.args.parts.now c.loop-part.parts c.pop.new.self c.loop-part.inside c.loop-part.invariant.skipped c.in_default.ensures
    c.even.result c.even.ensures.starts c.even.ensures.pieces

use Rattle.std.proofs.Common.{sym, ◌∙◌, ap, drop, ◌≡◌, rules}
use Rattle.std.proofs.lemmas.List.{at_drop_all}
use Rattle.vx_scheme.specs.Cuts.{cut_below}
use Rattle.vx_line.specs.Line.{is_in}
use Rattle.vx_interval.proofs.SpanLaws.{has_by_cuts, seen_in_order, stops}
use Rattle.vx_interval.proofs.set.Set.contains.Goals as goal

pub returns-then-not-is_below-clause-within : goal.returns-then-not-is_below-clause-within
returns-then-not-is_below-clause-within g c =
    let order = g.S.Scheme.order in
    let v = c.args.version.now in
    let items = c.as_slice-cut-items.result.now in
    let stop : is_in (λ cut. cut_below order cut v) c.loop-cut.inside (drop c.loop-cut.cut-index items) ≡ c.loop-cut.inside =
    stops (λ cut. cut_below order cut v) c.loop-cut.inside items c.loop-cut.cut-index c.cut-item.result c.loop-cut-test.true c.cut-item.is (search rules) in
    sym stop ∙ c.loop-cut.invariant ∙ ap (is_in (λ cut. cut_below order cut v) c.self.inside.starts) c.as_slice-cut-items.ensures ∙ has_by_cuts g.met.S.Scheme.total c.self.inside.starts c.self.inside.cuts c.args.self.now v c.self.view_is c.self.invariant

pub returns-clause-within : goal.returns-clause-within
returns-clause-within g c =
    let order = g.S.Scheme.order in
    let v = c.args.version.now in
    let items = c.as_slice-cut-items.result.now in
    let stop : is_in (λ cut. cut_below order cut v) c.loop-cut.inside (drop c.loop-cut.cut-index items) ≡ c.loop-cut.inside =
    at_drop_all (is_in (λ cut. cut_below order cut v) c.loop-cut.inside) items c.loop-cut.cut-index (search rules) in
    sym stop ∙ c.loop-cut.invariant ∙ ap (is_in (λ cut. cut_below order cut v) c.self.inside.starts) c.as_slice-cut-items.ensures ∙ has_by_cuts g.met.S.Scheme.total c.self.inside.starts c.self.inside.cuts c.args.self.now v c.self.view_is c.self.invariant

pub returns-then-not-is_below-clause-in_order : goal.returns-then-not-is_below-clause-in_order
returns-then-not-is_below-clause-in_order g c = seen_in_order g.S.Scheme.order c.self.inside.starts c.self.inside.cuts c.args.self.now c.self.view_is c.self.invariant

pub returns-clause-in_order : goal.returns-clause-in_order
returns-clause-in_order g c = seen_in_order g.S.Scheme.order c.self.inside.starts c.self.inside.cuts c.args.self.now c.self.view_is c.self.invariant

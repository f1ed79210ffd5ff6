use Rattle.std.proofs.Common.{◌∙◌, sym, rules}
use Rattle.cargo_range.proofs.Intervals.{place_goes, place_stops}
use Rattle.cargo_range.proofs.back.interval.Goals as goal

pub returns-in_err-found-clause-err : goal.returns-in_err-found-clause-err
returns-in_err-found-clause-err c =
    let stops = place_stops c.args.spans.now _ c.loop-span.found c.in_err-found.field-0.0 c.loop-span.span-index c.span-item.result c.loop-span-test.true c.span-item.is (sym c.extend.ensures ∙ c.in_err-found.was) c.loop-span.invariant in
    search rules

pub loop-span-preserved : goal.loop-span-preserved
loop-span-preserved c =
    place_goes c.args.spans.now _ c.loop-span.found c.in_ok-found.found c.loop-span.span-index c.span-item.result c.loop-span-test.true c.span-item.is (sym c.extend.ensures ∙ c.in_ok-found.was) c.loop-span.invariant

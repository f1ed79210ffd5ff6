use Rattle.std.proofs.Common.{arith, ◌++◌, append-nil, refl, ap, sym, subst, ◌∙◌}
use Rattle.vx_scheme.specs.Cuts.{cut_cmp}
use Rattle.vx_line.specs.Line.{IsMerged, join_by, emit}
use Rattle.vx_line.specs.Steps.Merges.{merge_by}
use Rattle.vx_line.proofs.MergedLaws.{merge_merged}
use Rattle.vx_line.proofs.Turns.{turn_more}
use Rattle.vx_interval.proofs.SpanLaws.{cut_total}
use Rattle.vx_interval.proofs.merging.merge.Goals as goal

pub loop-taken-preserved : goal.loop-taken-preserved
loop-taken-preserved g c =
    let order = cut_cmp g.C.Compares.order in
    let op = join_by c.args.both in
    let p = sym c.flip-p.ensures in
    let q = sym c.flip-q.ensures in
    record {
      whole =
          turn_more c.loop-taken.cuts c.push_change.new.out _ (merge_by order op c.flip-p.result c.take.new.xs.items c.flip-q.result c.take.new.ys.items) _
          c.join_values-before.result c.join_values.result c.in-Some.taken.cut c.loop-taken.invariant.whole
          (c.in-Some.ensures.whole op c.loop-taken.p c.loop-taken.q
          ∙ (λ i. emit (sym c.join_values-before.ensures i) (((λ j. op (p j) (q j)) ∙ sym c.join_values.ensures) i) c.in-Some.taken.cut (merge_by order op (p i) c.take.new.xs.items (q i) c.take.new.ys.items)))
          c.in_ok-push_change.ensures;
      cost = let bound = c.in-Some.ensures.bound in let cost = c.loop-taken.invariant.cost in omega arith;
    }

pub returns-clause-cuts : goal.returns-clause-cuts
returns-clause-cuts g c =
    let order = cut_cmp g.C.Compares.order in
    let op = join_by c.args.both in
    let none = c.in_default.ensures.whole op c.loop-taken.p c.loop-taken.q in
    let all = sym (append-nil c.loop-taken.cuts) ∙ ap (λ l. c.loop-taken.cuts ++ l) (sym none) ∙ c.loop-taken.invariant.whole in
    subst (IsMerged order c.args.both c.args.a_starts c.args.a c.args.b_starts c.args.b) (sym all)
    (merge_merged (cut_total g.met.C.Compares.total) op c.args.both (λ p q. refl) c.args.a_starts c.args.a c.args.b_starts c.args.b c.requires.first c.requires.second)

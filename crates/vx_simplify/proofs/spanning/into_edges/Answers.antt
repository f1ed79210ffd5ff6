use Rattle.std.proofs.Common.{◌≡◌, ◌∙◌, ◌∷◌, ◌++◌, ◌+◌, [], ap, arith, length, rules, subst, sym}
use Rattle.std.proofs.lemmas.Grind.{common_steps}
use Rattle.vx_vers.specs.Meaning.{kind}
use Rattle.vx_simplify.specs.Edges.{edges_at, edges_of}
use Rattle.vx_simplify.proofs.Passing.{ArePassed, one_passed}
use Rattle.vx_simplify.proofs.spanning.into_edges.Goals as goal

pub loop-constraint-preserved : goal.loop-constraint-preserved
loop-constraint-preserved g c =
    let whole = edges_of c.args.list in
    let holes = c.args.holes in
    let d = c.in-Some.constraint in
    let inside = c.loop-constraint.inside in
    let cuts = c.loop-constraint.cuts in
    let n = c.loop-constraint.number + 1 in
    let left = c.next.new.self.rest.items in
    let split : c.loop-constraint.constraint-iterator.rest.items ≡ d ∷ left = first_of (search rules, grind (arith, common_steps), cc) in
    let more = c.in_ok-push_edges.ensures ∙ ap (λ next. cuts ++ edges_at (kind d) inside next n d []) c.opens_after-next.ensures in
    record {
      passed = subst (λ next. ArePassed whole holes next (n + 1) left c.push_edges.new.cuts) (sym c.opens_after-next.ensures)
          (one_passed whole cuts c.push_edges.new.cuts holes inside n d left (subst (λ rest. ArePassed whole holes inside n rest cuts) split c.loop-constraint.invariant.passed) more);
      counted = omega (arith, ap length split);
    }

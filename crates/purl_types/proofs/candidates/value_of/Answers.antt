-- The item has the key, or what is left has its values.
use Rattle.std.proofs.Common.{◌∙◌, sym, subst, List, ℕ, map}
use Rattle.std.proofs.lemmas.Bool.{false≢true}
use Rattle.std.proofs.lemmas.Slice.Eq.{bytes_eq-Decides}
use Rattle.purl_core.specs.Spelling.{Member}
use Rattle.purl_core.specs.Value.{pair_view}
use Rattle.purl_types.proofs.Values.{member_at, not_here, nowhere}
use Rattle.purl_types.proofs.candidates.value_of.Goals as goal

pub returns-then-eq-clause-some : goal.returns-then-eq-clause-some
returns-then-eq-clause-some c =
    subst (λ (v : List ℕ). Member (c.args.key.now, v) (map pair_view c.args.pairs.now)) (sym c.as_str-then-eq.ensures)
    (member_at c.args.key.now c.args.pairs.now c.pairs.pair-index c.pair-item.result c.pairs-test.true c.pair-item.is (sym c.as_str.ensures ∙ (bytes_eq-Decides c.as_str.result.now c.args.key.now).0 (sym c.if-eq.ensures)))

pub pairs-preserved : goal.pairs-preserved
pairs-preserved c =
    not_here c.args.key.now c.args.pairs.now c.pairs.pair-index c.pair-item.result c.pairs-test.true c.pair-item.is
    (λ e. false≢true (c.if-eq.ensures ∙ (bytes_eq-Decides c.as_str.result.now c.args.key.now).1 (c.as_str.ensures ∙ e))) c.pairs.invariant

pub returns-clause-none : goal.returns-clause-none
returns-clause-none c = nowhere c.args.key.now c.args.pairs.now c.pairs.pair-index c.pairs-test.false c.pairs.invariant

use Rattle.std.proofs.Common.{sym, ◌∙◌}
use Rattle.maven_scheme.proofs.NullLaws.{none_ends, popped, shorter}
use Rattle.maven_scheme.proofs.letters.drop_nulls.Goals as goal

pub nulls-preserved-in-nulls : goal.nulls-preserved-in-nulls
nulls-preserved-in-nulls c = popped c.nulls.letters c.pop.new.self _ (sym c.ends_null.ensures ∙ c.nulls-test.true) c.pop.ensures ∙ c.nulls.invariant

pub nulls-smaller : goal.nulls-smaller
nulls-smaller c = shorter c.nulls.letters c.pop.new.self _ (sym c.ends_null.ensures ∙ c.nulls-test.true) c.pop.ensures

pub returns : goal.returns
returns c = sym (none_ends c.nulls.letters (sym c.ends_null.ensures ∙ c.nulls-test.false)) ∙ c.nulls.invariant

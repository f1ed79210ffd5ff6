use Rattle.std.proofs.Common.{refl, subst, sym, ap, ◌∙◌}
use Rattle.std.specs.List.{AllByRecursion}
use Rattle.pep440_scheme.specs.Version.{IsSmall}
use Rattle.pep440_range.specs.Holds.{without_last}
use Rattle.pep440_range.proofs.MakingLaws.{some_numbers, without_small}
use Rattle.pep440_range.proofs.making.prefix_of.Goals as goal

pub invariant_of-result : goal.invariant_of-result
invariant_of-result c = (
  record {
    release = some_numbers c.in_ok-release.release c.is_empty.result c.is_empty.ensures c.if-is_empty.false;
    local = rw c.new.ensures refl;
  },
  record {
    epoch = c.version.invariant.1.epoch;
    release = subst (AllByRecursion IsSmall) (sym (c.in_ok-release.ensures ∙ ap without_last c.as_slice.ensures)) (without_small c.version.inside.release c.version.invariant.1.release);
    pre = tt;
    post = tt;
    dev = tt;
    local = rw c.new.ensures tt;
  },
)

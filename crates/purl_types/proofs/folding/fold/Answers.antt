use Rattle.std.proofs.Common.{sym, subst}
use Rattle.std.specs.List.{AllByRecursion}
use Rattle.purl_core.specs.Value.{IsPart}
use Rattle.purl_types.proofs.FoldLaws.{part_folded, parts_folded}
use Rattle.purl_types.proofs.folding.fold.Goals as goal

pub invariant_of-purl : goal.invariant_of-purl
invariant_of-purl c =
    let i = c.purl.invariant in
    record {
      kind = i.kind;
      kind_low = i.kind_low;
      namespace = subst (AllByRecursion IsPart) (sym c.in_ok-fold_segments.ensures) (parts_folded _ _ i.namespace);
      name = subst IsPart (sym c.in_ok-fold_text.ensures) (part_folded _ _ i.name);
      version = i.version;
      pairs = i.pairs;
      ascending = i.ascending;
      subpath = i.subpath;
    }

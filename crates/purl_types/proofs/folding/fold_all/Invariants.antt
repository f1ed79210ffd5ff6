use Rattle.std.proofs.Common.{◌≡◌, ◌++◌, map, take, drop}
use Rattle.purl_types.specs.Folding.{fold_text}
use Rattle.purl_types.proofs.folding.fold_all.Given as goal

abbrev pub invariant-loop-text : goal.invariant-loop-text
invariant-loop-text l =
    take l.text-index l.text-items ++ map (fold_text l.folding) (drop l.text-index l.text-items) ≡ map (fold_text l.folding) l.initial.text-items

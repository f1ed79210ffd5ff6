use Rattle.std.proofs.Common.{rules}
use Rattle.std.proofs.lemmas.List.Sorted.{ranks_by, answers_always}
use Rattle.std.specs.Ordering.{is_lt}
use Rattle.vx_vers.specs.Steps.Numbering.{numbered_cmp}
use Rattle.vx_vers.proofs.Ranked.{numbered_total}
use Rattle.vx_vers.proofs.sorting.sort_numbered.Goals as goal

pub returns-clause-sorted : goal.returns-clause-sorted
returns-clause-sorted g c =
    c.sort_unstable_by.ensures.sorted (λ x y. is_lt (numbered_cmp g.S.Scheme.order x y)) (ranks_by (numbered_total g.S.Scheme.order g.met.S.Scheme.total) (λ item. item)) (answers_always _ _ _ (λ f a r h called. search rules))

use Rattle.std.proofs.Common.{◌≡◌, ◌≤◌, ◌∙◌, length, subst, sym, rules}
use Rattle.vx_scheme.specs.Cuts.{starts_of, cuts_of, in_spans}
use Rattle.vx_vers.specs.Meaning.{meaning}
use Rattle.vx_simplify.specs.Listed.{listed}
use Rattle.vx_simplify.proofs.ListedOrder.{listed_is_short}
use Rattle.vx_simplify.proofs.ListedLaws.{list_means}
use Rattle.vx_simplify.proofs.listing.from_set.Goals as goal

pub returns-clause-ok : goal.returns-clause-ok
returns-clause-ok g c = c.in_ok-list.ensures ∙ (λ i. listed g.S.Scheme.order (c.starts_in-starts.ensures.starts i) (c.into_cuts-cuts.ensures.cuts i))

pub returns-clause-members : goal.returns-clause-members
returns-clause-members g c v =
    subst (λ list. meaning g.S.Scheme.order v list ≡ in_spans g.S.Scheme.order c.args.set v) (sym (returns-clause-ok g c))
    (list_means g.met.S.Scheme.total c.args.set v c.into_cuts-cuts.ensures.apart (search rules))

pub returns-clause-short : goal.returns-clause-short
returns-clause-short g c =
    subst (λ list. length list ≤ length (cuts_of c.args.set)) (sym (returns-clause-ok g c))
    (listed_is_short g.S.Scheme.order (starts_of c.args.set) (cuts_of c.args.set))

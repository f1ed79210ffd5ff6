use Rattle.vx_scheme.specs.Cuts.{cuts_of, starts_of}
use Rattle.vx_simplify.proofs.ListedOrder.{listed_is_short}
use Rattle.vx_simplify.proofs.laws.list_is_short.Goals as goal

pub returns : goal.returns
returns g c spans = listed_is_short g.S.Scheme.order (starts_of spans) (cuts_of spans)

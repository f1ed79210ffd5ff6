use Rattle.vx_scheme.specs.Cuts.{cuts_of, starts_of}
use Rattle.vx_simplify.proofs.ListedOrder.{listed_in_order}
use Rattle.vx_simplify.proofs.laws.list_is_sorted.Goals as goal

pub returns : goal.returns
returns g c spans s = listed_in_order g.met.S.Scheme.total (starts_of spans) (cuts_of spans) s.rising

use Rattle.std.proofs.Common.{◌∙◌, ap, sym}
use Rattle.vx_vers.specs.Steps.Numbering.{rises}
use Rattle.vx_vers.proofs.SettleLaws.{rising_sorted}
use Rattle.vx_vers.proofs.sorting.settle.Goals as goal

pub from_sorted-requires : goal.from_sorted-requires
from_sorted-requires g c = rising_sorted g.S.Scheme.order g.met.S.Scheme.total c.args.list (ap (rises g.S.Scheme.order) (sym c.as_slice.ensures) ∙ sym c.is_rising.ensures ∙ c.if-is_rising.true)

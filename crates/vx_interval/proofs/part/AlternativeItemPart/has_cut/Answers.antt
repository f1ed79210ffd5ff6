use Rattle.std.proofs.Common.{nat_lt, List, ap, sym, ◌∙◌}
use Rattle.vx_scheme.specs.Cuts.{cuts_of}
use Rattle.vx_scheme.specs.declared.span.Span.{Span}
use Rattle.vx_interval.specs.Steps.Lines.{has_item}
use Rattle.vx_interval.proofs.LineLaws.{some_cut, terms_cuts_parts}
use Rattle.vx_interval.proofs.part.AlternativeItemPart.has_cut.Goals as goal

pub returns : goal.returns
returns g c =
    ap (nat_lt 0) c.count_with_cuts.ensures
    ∙ sym (some_cut (λ (term : List (Span g.row.C-Item.Denot)). cuts_of term) c.args.self.now)
    ∙ ap has_item (terms_cuts_parts c.args.self.now)

use Rattle.std.proofs.Common.{nat_lt, ◌++◌, ap, sym, ◌∙◌}
use Rattle.vx_scheme.specs.Cuts.{cut_list}
use Rattle.vx_scheme.specs.declared.span.Span.{Span}
use Rattle.vx_interval.specs.Steps.Lines.{has_item}
use Rattle.vx_interval.proofs.LineLaws.{some_cut, cuts_of_parts}
use Rattle.vx_interval.proofs.part.SpansItemPart.has_cut.Goals as goal

pub returns : goal.returns
returns g c =
    ap (nat_lt 0) c.count_with_cuts.ensures
    ∙ sym (some_cut (λ (span : Span g.row.C-Item.Denot). cut_list span.lower ++ cut_list span.upper) c.args.self.now)
    ∙ ap has_item (cuts_of_parts c.args.self.now)

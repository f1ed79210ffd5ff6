use Rattle.std.proofs.Common.{ap, sym, ◌∙◌}
use Rattle.std.specs.Cmp.{tied_itself}
use Rattle.std.specs.Option.{option_copied}
use Rattle.std.specs.Ordering.{ordering_reverse}
use Rattle.vx_order.specs.Letters.{end_letter}
use Rattle.vx_order.proofs.LetterLaws.{letter_total}
use Rattle.gem_scheme.specs.Order.{number_rank, segment_letter}
use Rattle.gem_scheme.specs.Steps.Rows.{together}
use Rattle.gem_scheme.proofs.RowLaws.{row_some, row_none, turned}
use Rattle.gem_scheme.proofs.order.compare_at.Goals as goal

pub returns-in-Some-None : goal.returns-in-Some-None
returns-in-Some-None c =
    let x = row_some (together c.args.a) c.args.i c.in-Some-None.x.now (end_letter number_rank) (ap option_copied (sym c.in-Some-None.is-0) ∙ c.segment_at.ensures) in
    let end = row_none (together c.args.b) c.args.i (end_letter number_rank) (ap option_copied (sym c.in-Some-None.is-1) ∙ c.segment_at-2.ensures) in
    rw (x, end) c.compare_with_end.ensures

pub returns-in-None-Some : goal.returns-in-None-Some
returns-in-None-Some c =
    let end = row_none (together c.args.a) c.args.i (end_letter number_rank) (ap option_copied (sym c.in-None-Some.is-0) ∙ c.segment_at.ensures) in
    let y = row_some (together c.args.b) c.args.i c.in-None-Some.y.now (end_letter number_rank) (ap option_copied (sym c.in-None-Some.is-1) ∙ c.segment_at-2.ensures) in
    rw (end, y) (c.reverse.ensures ∙ ap ordering_reverse c.compare_with_end-in-None-Some.ensures ∙ turned (segment_letter c.in-None-Some.y.now) (end_letter number_rank))

pub returns-in-None-None : goal.returns-in-None-None
returns-in-None-None c =
    let a = row_none (together c.args.a) c.args.i (end_letter number_rank) (ap option_copied (sym c.in-None-None.is-0) ∙ c.segment_at.ensures) in
    let b = row_none (together c.args.b) c.args.i (end_letter number_rank) (ap option_copied (sym c.in-None-None.is-1) ∙ c.segment_at-2.ensures) in
    rw (a, b) (sym (tied_itself letter_total (end_letter number_rank)))

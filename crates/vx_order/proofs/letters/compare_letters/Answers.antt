use Rattle.std.proofs.Common.{rules, sym, subst, arith, ◌∙◌}
use Rattle.std.specs.Cmp.{tied_itself}
use Rattle.vx_spec.specs.Places.{endless}
use Rattle.vx_spec.proofs.RowLaws.{rows_decide}
use Rattle.vx_order.specs.Letters.{letter_cmp, end_letter, LettersCompareAs}
use Rattle.vx_order.proofs.LetterLaws.{letter_total}
use Rattle.vx_order.proofs.PlaceRows.{rows_by_places}
use Rattle.vx_order.proofs.letters.compare_letters.Goals as goal

pub returns-clause-value : goal.returns-clause-value
returns-clause-value c =
    let end = end_letter c.args.end_rank in
    let a = c.args.a.now in
    let b = c.args.b.now in
    c.compare_places.ensures (λ i. letter_cmp (endless end a i) (endless end b i)) (λ i answer less post. search rules)
    ∙ rows_by_places letter_cmp end (tied_itself letter_total end) c.max.result a b (omega arith) (omega arith)

pub returns-clause-places : goal.returns-clause-places
returns-clause-places c =
    let a = c.args.a.now in
    let b = c.args.b.now in
    subst (LettersCompareAs c.args.end_rank a b) (sym (returns-clause-value c)) (rows_decide letter_cmp letter_total (end_letter c.args.end_rank) a b)

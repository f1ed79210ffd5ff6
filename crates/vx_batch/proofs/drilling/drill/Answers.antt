-- One answer more is summed.
use Rattle.std.proofs.Common.{sym, subst, ◌+◌, ◌∙◌, ℕ, List}
use Rattle.vx_batch.specs.Answers.{IsLineAnswer}
use Rattle.vx_batch.specs.Drill.{IsDrill, drill_text}
use Rattle.vx_batch.proofs.DrillLaws.{drill_more}
use Rattle.vx_batch.proofs.drilling.drill.Goals as goal

pub loop-i-preserved : goal.loop-i-preserved
loop-i-preserved c =
    let answer = c.in_ok-answer.answer in
    let answered : IsLineAnswer 65536 (drill_text (c.loop-i.i + 1)) answer.ok answer.text =
    subst (λ (line : List ℕ). IsLineAnswer 65536 line answer.ok answer.text) (c.as_bytes.ensures.value ∙ c.as_str.ensures ∙ c.in_ok-line.ensures) c.in_ok-answer.ensures in (
      subst (IsDrill (c.loop-i.i + 1)) (sym c.with_answer-sums.ensures.sums) (drill_more c.loop-i.i c.loop-i.sums answer.ok answer.text c.loop-i.invariant.0 answered),
      c.with_answer-sums.ensures.small,
    )

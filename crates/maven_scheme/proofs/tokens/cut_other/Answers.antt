use Rattle.std.proofs.Common.{rules, ◌≢◌, [], ap, sym, ◌∙◌}
use Rattle.std.specs.Char.{is_ascii_digit}
use Rattle.vx_spec.specs.Runs.{begins, past}
use Rattle.vx_spec.proofs.RunLaws.{run_all}
use Rattle.vx_text.specs.Folding.{lowered}
use Rattle.maven_scheme.specs.Tokens.{is_word_byte}
use Rattle.maven_scheme.specs.Letters.{full_name, qualifier_letter}
use Rattle.maven_scheme.proofs.TokenLaws.{word_letter}
use Rattle.maven_scheme.proofs.tokens.cut_other.Goals as goal

pub returns-else-is_empty-clause-letter : goal.returns-else-is_empty-clause-letter
returns-else-is_empty-clause-letter c =
    let text = c.args.text.now in
    let some : c.cut_run.result.0.now ≢ [] = search rules in
    ap (λ b. qualifier_letter (full_name b (lowered c.cut_run.result.0.now))) (c.begins_with_digit.ensures ∙ ap (begins is_ascii_digit) c.cut_run.ensures.past)
    ∙ ap (λ w. qualifier_letter (full_name (begins is_ascii_digit (past is_word_byte text)) (lowered w))) c.cut_run.ensures.run
    ∙ sym (word_letter c.args.is_dotted text c.requires (λ e. some (c.cut_run.ensures.run ∙ e)))

pub returns-else-is_empty-clause-token : goal.returns-else-is_empty-clause-token
returns-else-is_empty-clause-token c = rw c.cut_run.ensures.run (run_all is_word_byte c.args.text.now)

use Rattle.std.specs.Char.{is_ascii_digit}
use Rattle.vx_spec.proofs.RunLaws.{run_all}
use Rattle.maven_scheme.proofs.tokens.cut_token.Goals as goal

pub returns-then-begins_with_digit-clause-token : goal.returns-then-begins_with_digit-clause-token
returns-then-begins_with_digit-clause-token c = rw c.cut_run.ensures.run (run_all is_ascii_digit c.args.text.now)

use Rattle.std.specs.Char.{is_ascii_alphabetic}
use Rattle.vx_spec.proofs.RunLaws.{run_all}
use Rattle.vx_text.proofs.PastLaws.{word_utf8}
use Rattle.vx_order.proofs.scanning_tokens.push_letters.Goals as goal

pub unreachable-requires : goal.unreachable-requires
unreachable-requires g c = c.in-Err.ensures.cases.0 (word_utf8 c.cut_run.result.0.now (rw c.cut_run.ensures.run (run_all is_ascii_alphabetic c.args.text.now)))

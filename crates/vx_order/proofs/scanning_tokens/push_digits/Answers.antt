use Rattle.std.specs.Char.{is_ascii_digit}
use Rattle.vx_spec.proofs.RunLaws.{run_all}
use Rattle.vx_order.proofs.scanning_tokens.push_digits.Goals as goal

pub number_of-requires : goal.number_of-requires
number_of-requires g c = rw c.cut_run.ensures.run (run_all is_ascii_digit c.args.text.now)

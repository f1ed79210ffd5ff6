use Rattle.std.proofs.Common.{rules}
use Rattle.pep440_range.proofs.BackLaws.{too_large}
use Rattle.pep440_range.proofs.back.holds_locals.Goals as goal

pub returns-in-Err-TooLarge : goal.returns-in-Err-TooLarge
returns-in-Err-TooLarge c = too_large c.args.lower.now c.args.upper.now (search rules) (search rules)

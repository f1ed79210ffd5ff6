use Rattle.std.proofs.Common.{sym, ap, ◌∙◌, arith}
use Rattle.std.specs.Option.{option_copied}
use Rattle.pep440_range.specs.Reading.{before_star}
use Rattle.pep440_range.proofs.OperandLaws.{as_long, release_answers, version_answers}
use Rattle.pep440_range.proofs.reading.read_either.Goals as goal

pub returns-in_default : goal.returns-in_default
returns-in_default c =
    version_answers c.args.of_version c.args.of_release c.args.at c.args.bytes.now (before_star c.args.bytes.now)
    (sym c.before_star.ensures.is ∙ ap option_copied c.in_default.is) c.read_version.result c.read_version.ensures

pub returns : goal.returns
returns c =
    let tight = as_long c.in-Some.front.now c.without_end.result.now c.without_end.ensures.without (omega (arith, c.if-without_end-front.false)) c.without_end.ensures.count in
    release_answers c.args.of_version c.args.of_release c.args.at c.args.bytes.now c.in-Some.front.now tight (before_star c.args.bytes.now)
    (sym c.before_star.ensures.is ∙ ap option_copied c.in-Some.is) c.read_version-2.result c.read_version-2.ensures

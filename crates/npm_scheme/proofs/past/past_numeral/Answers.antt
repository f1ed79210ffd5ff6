use Rattle.std.proofs.Common.{ap, arith}
use Rattle.std.specs.Option.{option_copied}
use Rattle.npm_scheme.proofs.PastLaws.{before_pre}
use Rattle.npm_scheme.proofs.past.past_numeral.Goals as goal

pub overflow_add-patch_at-in-Some-2 : goal.overflow_add-patch_at-in-Some-2
overflow_add-patch_at-in-Some-2 c =
    let w = c.args.written.now in
    omega (arith, before_pre w.major.now w.minor.now w.patch.now c.in-Some.pre.now _ (option_copied w.build) (ap option_copied c.in-Some.is), c.requires)

pub first_past_part-requires : goal.first_past_part-requires
first_past_part-requires c =
    let w = c.args.written.now in
    omega (arith, before_pre w.major.now w.minor.now w.patch.now c.in-Some.pre.now _ (option_copied w.build) (ap option_copied c.in-Some.is), c.requires)

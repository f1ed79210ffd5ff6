use Rattle.std.proofs.Common.{refl, inl}
use Rattle.std.specs.Prelude.{codes}
use Rattle.vx_vers.specs.declared.constraints.Comparator.TheVariants.{NotEqual as NotEqualTo, LessEqual as AtMost, GreaterEqual as AtLeast}
use Rattle.vx_vers.proofs.SignLaws.{signed_long}
use Rattle.vx_vers.proofs.parting.cut_sign.Goals as goal

pub returns-in-Some : goal.returns-in-Some
returns-in-Some c = signed_long c.args.text.now (codes "<=") _ AtMost (inl refl) refl c.in-Some.ensures

pub returns-in-Some-behind : goal.returns-in-Some-behind
returns-in-Some-behind c = signed_long c.args.text.now (codes ">=") _ AtLeast (inl refl) refl c.in-Some-behind.ensures

pub returns-in-Some-behind-2 : goal.returns-in-Some-behind-2
returns-in-Some-behind-2 c = signed_long c.args.text.now (codes "!=") _ NotEqualTo (inl refl) refl c.in-Some-behind-2.ensures

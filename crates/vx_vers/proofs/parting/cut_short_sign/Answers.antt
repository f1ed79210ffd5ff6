use Rattle.std.proofs.Common.{refl, inl, inr}
use Rattle.std.specs.Prelude.{codes}
use Rattle.vx_vers.specs.declared.constraints.Comparator.TheVariants.{Equal as EqualTo, Less as LessThan, Greater as GreaterThan}
use Rattle.vx_vers.proofs.SignLaws.{signed_none, signed_short}
use Rattle.vx_vers.proofs.parting.cut_short_sign.Goals as goal

pub returns-in-Some : goal.returns-in-Some
returns-in-Some c = signed_short c.args.text.now (codes "<") _ LessThan c.requires (inl refl) refl c.in-Some.ensures

pub returns-in-Some-behind : goal.returns-in-Some-behind
returns-in-Some-behind c = signed_short c.args.text.now (codes ">") _ GreaterThan c.requires (inl refl) refl c.in-Some-behind.ensures

pub returns-in-Some-behind-2 : goal.returns-in-Some-behind-2
returns-in-Some-behind-2 c = signed_short c.args.text.now (codes "=") _ EqualTo c.requires (inr (refl, refl)) refl c.in-Some-behind-2.ensures

pub returns : goal.returns
returns c = signed_none c.args.text.now c.requires c.in_default.ensures c.in_default-behind.ensures c.in_default-behind-2.ensures

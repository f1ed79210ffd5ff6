use Rattle.std.proofs.Math.Bool.{and-true}
use Rattle.bracket_ranges.proofs.nuget.nuget_version_alone_is_the_minimum.Goals as goal

pub returns : goal.returns
returns c = λ version v. and-true _

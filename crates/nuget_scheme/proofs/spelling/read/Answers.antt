use Rattle.vx_scheme.proofs.GivingLaws.{refuses_by_giving}
use Rattle.nuget_scheme.specs.Version.{IsWithin}
use Rattle.nuget_scheme.specs.Spelling.{Spells}
use Rattle.nuget_scheme.proofs.Making.{written_spells}
use Rattle.nuget_scheme.proofs.spelling.read.Goals as goal

pub returns-clause-err : goal.returns-clause-err
returns-clause-err c = refuses_by_giving Spells IsWithin c.args.text.now _ (written_spells c.in-Some.ensures) _ c.version_of_parts.ensures

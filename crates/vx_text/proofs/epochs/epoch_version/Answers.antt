use Rattle.vx_scheme.proofs.GivingLaws.{refuses_by_giving}
use Rattle.vx_text.specs.EpochParts.{SpellsByParts}
use Rattle.vx_text.proofs.EpochVersionLaws.{made_spells}
use Rattle.vx_text.proofs.epochs.epoch_version.Goals as goal

pub returns-clause-err : goal.returns-clause-err
returns-clause-err g c =
    let f = g.F.EpochVersions in
    refuses_by_giving (SpellsByParts f.main_form f.last_form f.version_of) f.IsWithin c.args.text.now _ (made_spells f.main_form f.last_form f.version_of c.in-Some.ensures) _ c.of_parts.ensures

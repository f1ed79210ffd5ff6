use Rattle.vx_text.proofs.EpochVersionLaws.{made_spells, spelled_made}
use Rattle.vx_text.proofs.epochs.is_epoch_version.Goals as goal

pub returns : goal.returns
returns g c =
    let f = g.F.EpochVersions in
    let made = c.has_epoch_parts.ensures in (
      λ yes. let found = made.0 yes in (f.version_of c.args.text.now found.0, made_spells f.main_form f.last_form f.version_of found.1),
      λ spelled. made.1 (spelled.1.parts, spelled_made f.main_form f.last_form f.version_of spelled.1),
    )

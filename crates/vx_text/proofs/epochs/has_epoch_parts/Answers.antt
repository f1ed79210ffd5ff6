use Rattle.vx_text.specs.EpochParts.{parts}
use Rattle.vx_text.proofs.EpochLaws.{cut_made, made_tests}
use Rattle.vx_text.proofs.epochs.has_epoch_parts.Goals as goal

pub returns : goal.returns
returns g c =
    let apart = c.cut_apart.ensures in (
      λ yes. (parts c.cut_apart.result, cut_made g.F.EpochVersions.main_form g.F.EpochVersions.last_form g.met.F.EpochVersions.main_lacks g.met.F.EpochVersions.last_lacks apart (c.have_forms.ensures.0 yes)),
      λ made. c.have_forms.ensures.1 (made_tests g.F.EpochVersions.main_form g.F.EpochVersions.last_form g.met.F.EpochVersions.main_lacks g.met.F.EpochVersions.last_lacks apart made.1),
    )

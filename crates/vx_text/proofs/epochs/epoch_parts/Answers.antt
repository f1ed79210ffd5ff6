use Rattle.vx_text.proofs.EpochLaws.{cut_made, made_tests}
use Rattle.vx_text.proofs.epochs.epoch_parts.Goals as goal

pub returns-then-have_forms : goal.returns-then-have_forms
returns-then-have_forms g c =
    cut_made g.F.EpochVersions.main_form g.F.EpochVersions.last_form g.met.F.EpochVersions.main_lacks g.met.F.EpochVersions.last_lacks c.cut_apart-found.ensures (c.have_forms.ensures.0 c.if-have_forms.true)

pub returns-else-have_forms : goal.returns-else-have_forms
returns-else-have_forms g c = λ p made.
    let tests = c.have_forms.ensures.1 (made_tests g.F.EpochVersions.main_form g.F.EpochVersions.last_form g.met.F.EpochVersions.main_lacks g.met.F.EpochVersions.last_lacks c.cut_apart-found.ensures made) in
    cc (tests, c.if-have_forms.false)

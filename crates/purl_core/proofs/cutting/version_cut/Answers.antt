use Rattle.purl_core.proofs.Cuts.{version_none, version_some}
use Rattle.purl_core.proofs.cutting.version_cut.Goals as goal

pub returns-in-Some : goal.returns-in-Some
returns-in-Some c =
    let h = c.in-Some.ensures in
    version_some c.args.text.now c.in-Some.at h.0 h.1 h.2 h.3 h.4

pub returns-in-None : goal.returns-in-None
returns-in-None c = version_none c.args.text.now c.in-None.ensures

use Rattle.std.proofs.Common.{ap, ◌∙◌}
use Rattle.pep440_range.specs.Spans.{lowest_in}
use Rattle.pep440_range.proofs.MakingLaws.{bumped_fits}
use Rattle.pep440_range.proofs.making.end_of.Goals as goal

pub returns-in_ok-end-in-Ok : goal.returns-in_ok-end-in-Ok
returns-in_ok-end-in-Ok c = (
  bumped_fits c.args.release.now.release c.bump.ensures.version.0.release c.bump.ensures.version.1.release c.in-Ok.ensures.fits,
  c.in_ok-end-in-Ok.ensures ∙ ap (lowest_in c.args.domain) c.in-Ok.ensures.ok,
)

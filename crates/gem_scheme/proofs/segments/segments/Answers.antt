use Rattle.gem_scheme.specs.Laws.Scanning.{segments_scanned}
use Rattle.gem_scheme.proofs.segments.segments.Goals as goal

pub returns : goal.returns
returns c = rw (segments_scanned c.args.text.now) c.scan_tokens.ensures

use Rattle.purl_core.proofs.PartLaws.{segment_if, segment_only}
use Rattle.purl_core.proofs.cutting.has_segment.Goals as goal

pub returns : goal.returns
returns c = (λ t. segment_if c.args.path.now (cc (t, c.has_other.ensures)), λ h. cc (segment_only c.args.path.now h, c.has_other.ensures))

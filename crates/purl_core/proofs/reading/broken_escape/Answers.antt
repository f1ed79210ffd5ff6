use Rattle.std.proofs.Common.{subst}
use Rattle.vx_spec.specs.Marks.{Lacks}
use Rattle.purl_core.specs.Steps.Cutting.{parts}
use Rattle.purl_core.proofs.Plain.{plain_whole}
use Rattle.purl_core.proofs.reading.broken_escape.Goals as goal

pub returns-then-is_plain : goal.returns-then-is_plain
returns-then-is_plain c =
    plain_whole c.args.text.now (parts c.args.raw.now) c.requires (subst (Lacks 37) c.as_bytes.ensures.value (c.is_plain.ensures c.if-is_plain.true))

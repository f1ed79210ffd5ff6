use Rattle.purl_core.specs.Value.{pair_view}
use Rattle.std.proofs.Common.{map}
use Rattle.purl_core.specs.Places.{IsText}
use Rattle.purl_core.specs.Steps.Cutting.{parts}
use Rattle.purl_core.proofs.Assembled.{each_value, kind_text, spelled}
use Rattle.purl_core.proofs.reading.read_qualifiers.Goals as goal

pub low_kind-requires : goal.low_kind-requires
low_kind-requires c = kind_text c.args.raw.now.kind.now c.requires.written.type_is.form

pub pairs_of-requires-clause-text : goal.pairs_of-requires-clause-text
pairs_of-requires-clause-text c = each_value IsText (parts c.args.raw.now) c.requires.text

pub assemble-requires : goal.assemble-requires
assemble-requires c =
    spelled c.args.text.now (parts c.args.raw.now) c.in_ok-kind.kind c.args.texts (map pair_view c.in-Ok.qualifiers) c.requires.written c.requires.whole c.requires.text c.requires.texts
    c.in_ok-kind.ensures c.in-Ok.ensures

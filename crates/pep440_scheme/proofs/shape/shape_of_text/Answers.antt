use Rattle.pep440_scheme.specs.Steps.Written.{parts}
use Rattle.pep440_scheme.proofs.ShapeLaws.{shape_spelled}
use Rattle.pep440_scheme.proofs.shape.shape_of_text.Goals as goal

pub returns : goal.returns
returns c = shape_spelled c.args.text.now (parts c.cut_apart.result) c.shape_of_parts.result c.cut_apart.ensures c.shape_of_parts.ensures

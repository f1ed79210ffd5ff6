use Rattle.pep440_scheme.proofs.ShapeLaws.{parts_shape}
use Rattle.pep440_scheme.proofs.shape.shape_of_parts.Goals as goal

pub returns : goal.returns
returns c = parts_shape c.args.written.now _ _ _ c.has_dot.ensures c.is_empty.ensures c.has_no_suffix.ensures

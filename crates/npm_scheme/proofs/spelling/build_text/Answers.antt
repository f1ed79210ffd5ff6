use Rattle.std.proofs.lemmas.List.Splits.{join_with_byte-slice_split}
use Rattle.vx_spec.specs.Signs.{dot}
use Rattle.npm_scheme.proofs.spelling.build_text.Goals as goal

pub returns-in-Some : goal.returns-in-Some
returns-in-Some c = rw (c.in-Some.is, join_with_byte-slice_split dot c.in-Some.text.now) c.copy_of.ensures

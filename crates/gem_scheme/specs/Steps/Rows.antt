-- The segments by which a version compares, as the program holds them.
use Rattle.std.specs.Prelude.{List, ◌++◌}
use Rattle.vx_scheme.specs.declared.ident.Ident.{Ident}
use Rattle.gem_scheme.specs.declared.order.Row.{Row}

abbrev pub together : Row → List Ident
together row = row.front.now ++ row.rest.now

-- The members of Debian's range language, as a scheme and as a range language: those that the table gives.
use Rattle.vx_scheme.specs.declared.scheme.Scheme.{Ghosts as Scheme}
use Rattle.vx_scheme.specs.declared.native.Native.{Ghosts as Native}
use Rattle.deb_scheme.specs.Version.{Fields}
use Rattle.deb_scheme.specs.contracts.scheme.Deb as deb
use Rattle.deb_scheme.specs.contracts.scheme.DebScheme.TheImpl as versions
use Rattle.deb_scheme.specs.contracts.version.DebVersion as version
use Rattle.relation_ranges.specs.declared.range.RelationRange.{RelationRange}
use Rattle.relation_ranges.specs.contracts.comparison.Comparison as operator
use Rattle.relation_ranges.specs.contracts.comparison.RelationSigns as signs
use Rattle.relation_ranges.specs.contracts.comparison.RelationSignsByteClass.TheImpl as sign_bytes
use Rattle.relation_ranges.specs.contracts.deb.table.DebRelations.TheImpl as table
use Rattle.relation_ranges.specs.contracts.deb.table.DebPlacedVersionsDebRange.TheImpl as placed
use Rattle.relation_ranges.specs.contracts.deb.range.DebBackForm.TheImpl as back_form
use Rattle.relation_ranges.specs.contracts.range.RelationRangeScheme.TheImpl.{ghosts as scheme_of, no_dict}
use Rattle.relation_ranges.specs.contracts.range.RelationRangeNative.TheImpl.{ghosts as native_of}

-- Debian's range language, as contracts name its type
abbrev pub DebRange : Type 0
DebRange = RelationRange deb.the_row.Denot

-- its members as a scheme: those of Debian's versions
abbrev pub deb_scheme : Scheme DebRange Fields
deb_scheme = scheme_of deb.the_row operator.the_row signs.the_row version.the_row table.ghosts no_dict placed.ghosts no_dict versions.ghosts no_dict sign_bytes.ghosts no_dict no_dict no_dict

-- and as a range language
abbrev pub deb_native : Native DebRange Fields
deb_native = native_of deb.the_row operator.the_row signs.the_row version.the_row back_form.ghosts no_dict table.ghosts no_dict placed.ghosts no_dict versions.ghosts no_dict sign_bytes.ghosts no_dict no_dict no_dict

-- The members of RPM's range language, as a scheme and as a range language: those that the table gives.
use Rattle.vx_scheme.specs.declared.scheme.Scheme.{Ghosts as Scheme}
use Rattle.vx_scheme.specs.declared.native.Native.{Ghosts as Native}
use Rattle.rpm_scheme.specs.Version.{Fields}
use Rattle.rpm_scheme.specs.contracts.scheme.Rpm as rpm
use Rattle.rpm_scheme.specs.contracts.scheme.RpmScheme.TheImpl as versions
use Rattle.rpm_scheme.specs.contracts.version.RpmVersion as version
use Rattle.relation_ranges.specs.declared.range.RelationRange.{RelationRange}
use Rattle.relation_ranges.specs.contracts.comparison.Comparison as operator
use Rattle.relation_ranges.specs.contracts.comparison.RelationSigns as signs
use Rattle.relation_ranges.specs.contracts.comparison.RelationSignsByteClass.TheImpl as sign_bytes
use Rattle.relation_ranges.specs.contracts.rpm.table.RpmRelations.TheImpl as table
use Rattle.relation_ranges.specs.contracts.rpm.table.RpmPlacedVersionsRpmRange.TheImpl as placed
use Rattle.relation_ranges.specs.contracts.rpm.range.RpmBackForm.TheImpl as back_form
use Rattle.relation_ranges.specs.contracts.range.RelationRangeScheme.TheImpl.{ghosts as scheme_of, no_dict}
use Rattle.relation_ranges.specs.contracts.range.RelationRangeNative.TheImpl.{ghosts as native_of}

-- RPM's range language, as contracts name its type
abbrev pub RpmRange : Type 0
RpmRange = RelationRange rpm.the_row.Denot

-- its members as a scheme: those of RPM's versions
abbrev pub rpm_scheme : Scheme RpmRange Fields
rpm_scheme = scheme_of rpm.the_row operator.the_row signs.the_row version.the_row table.ghosts no_dict placed.ghosts no_dict versions.ghosts no_dict sign_bytes.ghosts no_dict no_dict no_dict

-- and as a range language
abbrev pub rpm_native : Native RpmRange Fields
rpm_native = native_of rpm.the_row operator.the_row signs.the_row version.the_row back_form.ghosts no_dict table.ghosts no_dict placed.ghosts no_dict versions.ghosts no_dict sign_bytes.ghosts no_dict no_dict no_dict

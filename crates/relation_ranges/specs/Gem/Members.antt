-- The members of RubyGems' range language, as a scheme and as a range language: those that the table gives.
use Rattle.vx_scheme.specs.declared.scheme.Scheme.{Ghosts as Scheme}
use Rattle.vx_scheme.specs.declared.native.Native.{Ghosts as Native}
use Rattle.gem_scheme.specs.Version.{Fields}
use Rattle.gem_scheme.specs.contracts.scheme.Gem as gem
use Rattle.gem_scheme.specs.contracts.scheme.GemScheme.TheImpl as versions
use Rattle.gem_scheme.specs.contracts.version.GemVersion as version
use Rattle.relation_ranges.specs.declared.range.RelationRange.{RelationRange}
use Rattle.relation_ranges.specs.contracts.gem.operators.Operator as operator
use Rattle.relation_ranges.specs.contracts.gem.operators.RequirementSigns as signs
use Rattle.relation_ranges.specs.contracts.gem.operators.RequirementSignsByteClass.TheImpl as sign_bytes
use Rattle.relation_ranges.specs.contracts.gem.table.GemRelations.TheImpl as table
use Rattle.relation_ranges.specs.contracts.gem.table.GemPlacedVersionsGemRange.TheImpl as placed
use Rattle.relation_ranges.specs.contracts.gem.range.GemBackForm.TheImpl as back_form
use Rattle.relation_ranges.specs.contracts.range.RelationRangeScheme.TheImpl.{ghosts as scheme_of, no_dict}
use Rattle.relation_ranges.specs.contracts.range.RelationRangeNative.TheImpl.{ghosts as native_of}

-- RubyGems' range language, as contracts name its type
abbrev pub GemRange : Type 0
GemRange = RelationRange gem.the_row.Denot

-- its members as a scheme: those of RubyGems' versions
abbrev pub gem_scheme : Scheme GemRange Fields
gem_scheme = scheme_of gem.the_row operator.the_row signs.the_row version.the_row table.ghosts no_dict placed.ghosts no_dict versions.ghosts no_dict sign_bytes.ghosts no_dict no_dict no_dict

-- and as a range language
abbrev pub gem_native : Native GemRange Fields
gem_native = native_of gem.the_row operator.the_row signs.the_row version.the_row back_form.ghosts no_dict table.ghosts no_dict placed.ghosts no_dict versions.ghosts no_dict sign_bytes.ghosts no_dict no_dict no_dict

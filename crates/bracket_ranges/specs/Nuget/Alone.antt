-- NuGet's range notation, after "Package versioning", "Version ranges": a text is one version alone or one bracket.
use Rattle.std.specs.Prelude.{true, Some, None}
use Rattle.nuget_scheme.specs.Version.{Fields}
use Rattle.bracket_ranges.specs.declared.bracket.Bracket.{Bracket}
use Rattle.bracket_ranges.specs.declared.bracket.Bracket.TheVariants.{Between}

-- a version V alone is "minimum version, inclusive": what `[V,)` is
abbrev pub alone : Fields → Bracket Fields
alone version = Between (Some (record { version = version; included = true })) None

-- Maven's version requirements, after the POM Reference, "Dependency Version Requirement Specification": a text is one version
-- alone, or brackets parted by commas.
use Rattle.std.specs.Prelude.{None}
use Rattle.maven_scheme.specs.Version.{Fields}
use Rattle.bracket_ranges.specs.declared.bracket.Bracket.{Bracket}
use Rattle.bracket_ranges.specs.declared.bracket.Bracket.TheVariants.{Between}

-- a version alone is a "soft requirement", which asks nothing: what `(,)` is
abbrev pub alone : Fields → Bracket Fields
alone version = Between None None

-- The spans of comparators, after the Cargo book, "Specifying Dependencies", and the documentation of `semver`'s `Op`. A row
-- has the operator's span at three numbers, at two and at one.
use Rattle.std.specs.Prelude.{◌+◌, ◌==◌, ℕ, List, if◌then◌else◌}
use Rattle.semver.specs.Parse.{Parts}
use Rattle.semver.specs.declared.Op.{Op}
use Rattle.semver.specs.declared.Op.TheVariants.{Exact, Greater, GreaterEq, Less, LessEq, Tilde, Caret, Wildcard}
use Rattle.vx_scheme.specs.declared.span.Span.{Span}
use Rattle.vx_range.specs.declared.extent.Extent.{Extent}
use Rattle.vx_range.specs.declared.extent.Extent.TheVariants.{Point, From, Above, Below, UpTo, Between, Closed}
use Rattle.vx_range.specs.Extents.{extent_spans}
use Rattle.cargo_range.specs.declared.construct.Partial.{Partial}
use Rattle.cargo_range.specs.declared.construct.Partial.TheVariants.{Major, Minor, Full}
use Rattle.cargo_range.specs.declared.construct.Construct.{Construct}
use Rattle.cargo_range.specs.Version.{release_of}

-- the version of three numbers, or the lowest release of one or two
abbrev pub lowest_of : Partial → Parts
lowest_of (Full version) = version
lowest_of (Minor major minor) = release_of major minor 0
lowest_of (Major major) = release_of major 0 0

-- from a version to the end of those with its first number
abbrev pub to_next_major : Parts → Extent Parts
to_next_major version = Between version (release_of (version.0 + 1) 0 0)

-- from a version to the end of those with its first two numbers
abbrev pub to_next_minor : Parts → Extent Parts
to_next_minor version = Between version (release_of version.0 (version.1 + 1) 0)

-- `=I.J.K` is that version; `=I.J` is `>=I.J.0, <I.(J+1).0`; `=I` is `>=I.0.0, <(I+1).0.0`; and so are the wildcards `I.J.*`
-- and `I.*`
abbrev pub exact_extent : Partial → Extent Parts
exact_extent (Full version) = Point version
exact_extent (Minor major minor) = to_next_minor (release_of major minor 0)
exact_extent (Major major) = to_next_major (release_of major 0 0)

-- `>I.J` is `>=I.(J+1).0`; `>I` is `>=(I+1).0.0`
abbrev pub greater_extent : Partial → Extent Parts
greater_extent (Full version) = Above version
greater_extent (Minor major minor) = From (release_of major (minor + 1) 0)
greater_extent (Major major) = From (release_of (major + 1) 0 0)

-- `>=I.J` is `>=I.J.0`; `>=I` is `>=I.0.0`
abbrev pub greater_equal_extent : Partial → Extent Parts
greater_equal_extent partial = From (lowest_of partial)

-- `<I.J` is `<I.J.0`; `<I` is `<I.0.0`
abbrev pub less_extent : Partial → Extent Parts
less_extent partial = Below (lowest_of partial)

-- `<=I.J` is `<I.(J+1).0`; `<=I` is `<(I+1).0.0`
abbrev pub less_equal_extent : Partial → Extent Parts
less_equal_extent (Full version) = UpTo version
less_equal_extent (Minor major minor) = Below (release_of major (minor + 1) 0)
less_equal_extent (Major major) = Below (release_of (major + 1) 0 0)

-- `~I.J.K` is `>=I.J.K, <I.(J+1).0`; `~I.J` is `=I.J`; `~I` is `=I`
abbrev pub tilde_extent : Partial → Extent Parts
tilde_extent (Full version) = to_next_minor version
tilde_extent (Minor major minor) = to_next_minor (release_of major minor 0)
tilde_extent (Major major) = to_next_major (release_of major 0 0)

-- `^0.J.K` is `>=0.J.K, <0.(J+1).0` where J is not 0; `^0.0.K` is `=0.0.K`, from a pre-release of it on where it names one
abbrev pub caret_of_zero : Parts → Extent Parts
caret_of_zero version = if version.1 == 0 then Closed version (release_of 0 0 version.2) else to_next_minor version

-- `^I.J.K` is `>=I.J.K, <(I+1).0.0` where I is not 0; `^I.J` is `^I.J.0` where one of them is not 0; `^0.0` is `=0.0`; `^I` is
-- `=I`
abbrev pub caret_extent : Partial → Extent Parts
caret_extent (Full version) = if version.0 == 0 then caret_of_zero version else to_next_major version
caret_extent (Minor major minor) = if major == 0 then to_next_minor (release_of 0 minor 0) else to_next_major (release_of major minor 0)
caret_extent (Major major) = to_next_major (release_of major 0 0)

abbrev pub extent_by : Op → Partial → Extent Parts
extent_by Exact = exact_extent
extent_by Wildcard = exact_extent
extent_by Greater = greater_extent
extent_by GreaterEq = greater_equal_extent
extent_by Less = less_extent
extent_by LessEq = less_equal_extent
extent_by Tilde = tilde_extent
extent_by Caret = caret_extent

-- the spans of a comparator; the marks of its cuts run on from the given one, lower before upper
abbrev pub made_spans : ℕ → Construct → List (Span Parts)
made_spans mark construct = extent_spans mark (extent_by construct.operator construct.partial)

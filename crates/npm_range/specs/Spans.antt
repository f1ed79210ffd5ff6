-- The spans that constructs make in a domain, after the desugaring in the README of node-semver, "Advanced Range Syntax". Numerals
-- are of any size, and so are those that are raised by one.
use Rattle.std.specs.Prelude.{◌==◌, ◌+◌, if◌then◌else◌, ℕ, List}
use Rattle.std.specs.List.{AllByRecursion}
use Rattle.vx_scheme.specs.declared.domain.Domain.{Domain}
use Rattle.vx_scheme.specs.declared.domain.Domain.TheVariants.{All, Releases}
use Rattle.vx_scheme.specs.declared.span.Cut.{Cut}
use Rattle.vx_scheme.specs.declared.span.Span.{Span}
use Rattle.vx_scheme.specs.Cuts.{cuts_of}
use Rattle.vx_range.specs.declared.extent.Extent.{Extent}
use Rattle.vx_range.specs.declared.extent.Extent.TheVariants.{Nothing, Every, Point, From, Above, Below, UpTo, Between}
use Rattle.vx_range.specs.Extents.{extent_spans}
use Rattle.npm_scheme.specs.Version.{Fields, IsWithin, lowest_of, release_of}
use Rattle.npm_range.specs.declared.construct.Operator.{Operator}
use Rattle.npm_range.specs.declared.construct.Operator.TheVariants.{Equal, Less, LessEqual, Greater, GreaterEqual, Tilde, Caret}
use Rattle.npm_range.specs.declared.construct.Partial.{Partial}
use Rattle.npm_range.specs.declared.construct.Partial.TheVariants.{Any, Major, Minor, Full}
use Rattle.npm_range.specs.declared.construct.Construct.{Construct}

-- the version `M.m.p-0`, whose `-0` is left out among releases
abbrev pub end_of : Domain → ℕ → ℕ → ℕ → Fields
end_of All major minor patch = lowest_of major minor patch
end_of Releases major minor patch = release_of major minor patch

-- from a version to the end of those with its first number, with its first two, with its three
abbrev pub to_next_major : Domain → Fields → Extent Fields
to_next_major domain low = Between low (end_of domain (low.major + 1) 0 0)

abbrev pub to_next_minor : Domain → Fields → Extent Fields
to_next_minor domain low = Between low (end_of domain low.major (low.minor + 1) 0)

abbrev pub to_next_patch : Domain → Fields → Extent Fields
to_next_patch domain low = Between low (end_of domain low.major low.minor (low.patch + 1))

-- nothing, `=`
abbrev pub equal_extent : Domain → Partial → Extent Fields
equal_extent domain (Full version) = Point version
equal_extent domain (Minor major minor) = to_next_minor domain (release_of major minor 0)
equal_extent domain (Major major) = to_next_major domain (release_of major 0 0)
equal_extent domain Any = Every

-- `>`, in each domain
abbrev pub greater_extent : Partial → Extent Fields
greater_extent (Full version) = Above version
greater_extent (Minor major minor) = From (release_of major (minor + 1) 0)
greater_extent (Major major) = From (release_of (major + 1) 0 0)
greater_extent Any = Nothing

-- `>=`, in each domain
abbrev pub greater_equal_extent : Partial → Extent Fields
greater_equal_extent (Full version) = From version
greater_equal_extent (Minor major minor) = From (release_of major minor 0)
greater_equal_extent (Major major) = From (release_of major 0 0)
greater_equal_extent Any = Every

-- `<`
abbrev pub less_extent : Domain → Partial → Extent Fields
less_extent domain (Full version) = Below version
less_extent domain (Minor major minor) = Below (end_of domain major minor 0)
less_extent domain (Major major) = Below (end_of domain major 0 0)
less_extent domain Any = Nothing

-- `<=`
abbrev pub less_equal_extent : Domain → Partial → Extent Fields
less_equal_extent domain (Full version) = UpTo version
less_equal_extent domain (Minor major minor) = Below (end_of domain major (minor + 1) 0)
less_equal_extent domain (Major major) = Below (end_of domain (major + 1) 0 0)
less_equal_extent domain Any = Every

-- `~`, `~>`
abbrev pub tilde_extent : Domain → Partial → Extent Fields
tilde_extent domain (Full version) = to_next_minor domain version
tilde_extent domain (Minor major minor) = to_next_minor domain (release_of major minor 0)
tilde_extent domain (Major major) = to_next_major domain (release_of major 0 0)
tilde_extent domain Any = Every

-- `^`: the first numeral that is not 0 is raised, or the last one where all are 0. So of one numeral M it ends at
-- `(M+1).0.0`, and of `0.m` at `0.(m+1).0`.
abbrev pub caret_of_two : Domain → Fields → Extent Fields
caret_of_two domain low = if low.major == 0 then to_next_minor domain low else to_next_major domain low

abbrev pub caret_of_three : Domain → Fields → Extent Fields
caret_of_three domain low = if low.major == 0 then (if low.minor == 0 then to_next_patch domain low else to_next_minor domain low) else to_next_major domain low

abbrev pub caret_extent : Domain → Partial → Extent Fields
caret_extent domain (Full version) = caret_of_three domain version
caret_extent domain (Minor major minor) = caret_of_two domain (release_of major minor 0)
caret_extent domain (Major major) = to_next_major domain (release_of major 0 0)
caret_extent domain Any = Every

abbrev pub extent_by : Operator → Domain → Partial → Extent Fields
extent_by Equal = equal_extent
extent_by Greater = λ _. greater_extent
extent_by GreaterEqual = λ _. greater_equal_extent
extent_by Less = less_extent
extent_by LessEqual = less_equal_extent
extent_by Tilde = tilde_extent
extent_by Caret = caret_extent

-- the spans of a construct in a domain; the marks of its cuts run on from the given one, lower before upper
abbrev pub made_spans : Domain → ℕ → Construct → List (Span Fields)
made_spans domain mark c = extent_spans mark (extent_by c.operator domain c.partial)

-- each cut of the spans is within the limit of numerals
abbrev pub AreWithin : List (Span Fields) → Type 0
AreWithin spans = AllByRecursion (λ (cut : Cut Fields). IsWithin cut.version) (cuts_of spans)

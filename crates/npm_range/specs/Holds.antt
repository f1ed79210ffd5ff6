-- The test of one version against a construct, after the README of node-semver, "Ranges" and "Advanced Range Syntax", by
-- precedence. It names no end of a range and no domain. Numerals are of any size.
use Rattle.std.specs.Prelude.{◌==◌, ◌&&◌, ◌||◌, ◌+◌, if◌then◌else◌, nat_lt, ℕ, Bool, true, false, List, [], ◌∷◌}
use Rattle.std.specs.Ordering.{is_eq, is_lt, is_le, is_gt, is_ge}
use Rattle.npm_scheme.specs.Version.{Fields, release_of}
use Rattle.npm_scheme.specs.Order.{order_of}
use Rattle.npm_range.specs.declared.construct.Operator.{Operator}
use Rattle.npm_range.specs.declared.construct.Operator.TheVariants.{Equal, Less, LessEqual, Greater, GreaterEqual, Tilde, Caret}
use Rattle.npm_range.specs.declared.construct.Partial.{Partial}
use Rattle.npm_range.specs.declared.construct.Partial.TheVariants.{Any, Major, Minor, Full}
use Rattle.npm_range.specs.declared.construct.Construct.{Construct}

-- the three numbers of a version
abbrev pub numbers_of : Fields → List ℕ
numbers_of v = v.major ∷ v.minor ∷ v.patch ∷ []

-- the numerals that a partial has
abbrev pub numerals_of : Partial → List ℕ
numerals_of Any = []
numerals_of (Major major) = major ∷ []
numerals_of (Minor major minor) = major ∷ minor ∷ []
numerals_of (Full version) = numbers_of version

-- a partial filled up with zeros; a full version with its pre-release
abbrev pub filled : Partial → Fields
filled Any = release_of 0 0 0
filled (Major major) = release_of major 0 0
filled (Minor major minor) = release_of major minor 0
filled (Full version) = version

-- the first of the numbers are the numerals, as many as these are
abbrev pub are_same : List ℕ → List ℕ → Bool
are_same [] numbers = true
are_same (numeral ∷ numerals) [] = false
are_same (numeral ∷ numerals) (number ∷ numbers) = (number == numeral) && are_same numerals numbers

-- the first of the numbers, as many as the numerals are, are below these, place by place from the left
abbrev pub are_below : List ℕ → List ℕ → Bool
are_below [] numbers = false
are_below (numeral ∷ numerals) [] = false
are_below (numeral ∷ numerals) (number ∷ numbers) = nat_lt number numeral || ((number == numeral) && are_below numerals numbers)

-- the numerals up to the first that is not 0, or all where all are 0
abbrev pub up_to_first_not_0 : List ℕ → List ℕ
up_to_first_not_0 [] = []
up_to_first_not_0 (numeral ∷ numerals) = if numeral == 0 then numeral ∷ up_to_first_not_0 numerals else numeral ∷ []

-- how v compares, by precedence
abbrev pub at_least : Fields → Fields → Bool
at_least bound v = is_ge (order_of v bound)

-- v's first numbers are the partial's
abbrev pub shares : Partial → Fields → Bool
shares p v = are_same (numerals_of p) (numbers_of v)

-- v's first numbers are below the partial's
abbrev pub is_lower : Partial → Fields → Bool
is_lower p v = are_below (numerals_of p) (numbers_of v)

-- nothing, `=`: of a full version order-equal to it; else at least the partial, with its numbers
abbrev pub equal : Partial → Fields → Bool
equal (Full version) v = is_eq (order_of v version)
equal (Minor major minor) v = at_least (filled (Minor major minor)) v && shares (Minor major minor) v
equal (Major major) v = at_least (filled (Major major)) v && shares (Major major) v
equal Any v = true

-- `>`: above a full version; else at least the partial with its last numeral raised by one, filled up with zeros; above
-- `x` is nothing
abbrev pub greater : Partial → Fields → Bool
greater (Full version) v = is_gt (order_of v version)
greater (Minor major minor) v = at_least (release_of major (minor + 1) 0) v
greater (Major major) v = at_least (release_of (major + 1) 0 0) v
greater Any v = false

-- `>=`: at least the full version or the filled partial
abbrev pub greater_equal : Partial → Fields → Bool
greater_equal (Full version) v = at_least version v
greater_equal (Minor major minor) v = at_least (filled (Minor major minor)) v
greater_equal (Major major) v = at_least (filled (Major major)) v
greater_equal Any v = true

-- `<`: below a full version; else the first numbers are below the partial's; below `x` is nothing
abbrev pub less : Partial → Fields → Bool
less (Full version) v = is_lt (order_of v version)
less (Minor major minor) v = is_lower (Minor major minor) v
less (Major major) v = is_lower (Major major) v
less Any v = false

-- `<=`: at most a full version; else the first numbers are the partial's or below them
abbrev pub less_equal : Partial → Fields → Bool
less_equal (Full version) v = is_le (order_of v version)
less_equal (Minor major minor) v = shares (Minor major minor) v || is_lower (Minor major minor) v
less_equal (Major major) v = shares (Major major) v || is_lower (Major major) v
less_equal Any v = true

-- `~`, `~>`: at least a full version, with its first two numbers; else at least the partial, with its numbers
abbrev pub tilde : Partial → Fields → Bool
tilde (Full version) v = at_least version v && shares (Minor version.major version.minor) v
tilde (Minor major minor) v = at_least (filled (Minor major minor)) v && shares (Minor major minor) v
tilde (Major major) v = at_least (filled (Major major)) v && shares (Major major) v
tilde Any v = true

-- `^`: at least the full version or the filled partial, with the same numbers up to the first that is not 0
abbrev pub caret : Partial → Fields → Bool
caret (Full version) v = at_least version v && are_same (up_to_first_not_0 (numbers_of version)) (numbers_of v)
caret (Minor major minor) v = at_least (filled (Minor major minor)) v && are_same (up_to_first_not_0 (major ∷ minor ∷ [])) (numbers_of v)
caret (Major major) v = at_least (filled (Major major)) v && are_same (up_to_first_not_0 (major ∷ [])) (numbers_of v)
caret Any v = true

abbrev pub holds_by : Operator → Partial → Fields → Bool
holds_by Equal = equal
holds_by Greater = greater
holds_by GreaterEqual = greater_equal
holds_by Less = less
holds_by LessEqual = less_equal
holds_by Tilde = tilde
holds_by Caret = caret

-- the construct holds of the version
abbrev pub holds : Construct → Fields → Bool
holds c v = holds_by c.operator c.partial v

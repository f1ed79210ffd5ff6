-- The test of one version against a construct, after PEP 440, "Version specifiers". It names no end of a range and no domain.
-- Numerals are of any size. In what follows u is the public part of the version that is tested.
use Rattle.std.specs.Prelude.{◌==◌, ◌&&◌, ◌||◌, not, is_some, is_none, ℕ, Bool, true, false, List, [], ◌∷◌, Option, Some, None, bytes_eq}
use Rattle.std.specs.Ordering.{is_eq, is_lt, is_le, is_gt, is_ge}
use Rattle.vx_text.specs.Folding.{lowered}
use Rattle.vx_scheme.specs.declared.ident.Ident.{Ident}
use Rattle.pep440_scheme.specs.declared.version.PrePart.{PrePart}
use Rattle.pep440_scheme.specs.Version.{Fields, public_of}
use Rattle.pep440_scheme.specs.Order.{kind_rank, order_of}
use Rattle.pep440_scheme.specs.Writing.{normal}
use Rattle.pep440_range.specs.declared.construct.Comparison.{Comparison}
use Rattle.pep440_range.specs.declared.construct.Comparison.TheVariants.{Compatible, LessOrEqual, GreaterOrEqual, Less, Greater}
use Rattle.pep440_range.specs.declared.construct.Construct.{Construct}
use Rattle.pep440_range.specs.declared.construct.Construct.TheVariants.{Compares, Equal, NotEqual, Within, NotWithin, Identical}

-- ---- prefixes

-- "Version matching": the release, continued by zeros, begins with these numbers
abbrev pub begins_with : List ℕ → List ℕ → Bool
begins_with [] release = true
begins_with (n ∷ numbers) [] = (n == 0) && begins_with numbers []
begins_with (n ∷ numbers) (m ∷ release) = (m == n) && begins_with numbers release

-- the epochs are equal, and v's release, continued by zeros, begins with R
abbrev pub is_within : Fields → Fields → Bool
is_within r v = (v.epoch == r.epoch) && begins_with r.release v.release

-- the numbers without the last
abbrev pub without_last : List ℕ → List ℕ
without_last [] = []
without_last (n ∷ []) = []
without_last (n ∷ m ∷ numbers) = n ∷ without_last (m ∷ numbers)

-- the version of an epoch and numbers alone
abbrev pub release_of : ℕ → List ℕ → Fields
release_of epoch numbers = record { epoch = epoch; release = numbers; pre = None; post = None; dev = None; local = [] }

-- "Compatible release": the epoch and the release without its last number
abbrev pub prefix_of : Fields → Fields
prefix_of v = release_of v.epoch (without_last v.release)

-- ---- pre-releases and post-releases of a version

-- releases that are equal with the zeros at their ends ignored
abbrev pub same_numbers : List ℕ → List ℕ → Bool
same_numbers [] [] = true
same_numbers [] (m ∷ b) = (m == 0) && same_numbers [] b
same_numbers (n ∷ a) [] = (n == 0) && same_numbers a []
same_numbers (n ∷ a) (m ∷ b) = (n == m) && same_numbers a b

-- versions of one epoch and release
abbrev pub same_release : Fields → Fields → Bool
same_release a b = (a.epoch == b.epoch) && same_numbers a.release b.release

-- the same number, or none in both
abbrev pub same_number : Option ℕ → Option ℕ → Bool
same_number None None = true
same_number None (Some m) = false
same_number (Some n) None = false
same_number (Some n) (Some m) = n == m

-- the same pre-release, or none in both
abbrev pub same_pre : Option PrePart → Option PrePart → Bool
same_pre None None = true
same_pre None (Some q) = false
same_pre (Some p) None = false
same_pre (Some p) (Some q) = (kind_rank p.kind == kind_rank q.kind) && (p.number == q.number)

-- "Exclusive ordered comparison": u is a pre-release of V, where V has neither pre nor dev. Where V has no post either: of V's
-- epoch and release, with a pre, or with a dev and no post. Where V has a post: V with a dev.
abbrev pub is_pre_by : Option ℕ → Fields → Bool
is_pre_by None u = is_some u.pre || (is_some u.dev && is_none u.post)
is_pre_by (Some post) u = is_none u.pre && (same_number (Some post) u.post && is_some u.dev)

abbrev pub is_pre_release : Fields → Fields → Bool
is_pre_release bound u = (is_none bound.pre && is_none bound.dev) && (same_release bound u && is_pre_by bound.post u)

-- u is a post-release of V, where V has neither post nor dev: of V's epoch, release and pre, with a post. A version with a dev
-- and no post has no post-release.
abbrev pub is_post_release : Fields → Fields → Bool
is_post_release bound u =
    (is_none bound.post && is_none bound.dev) && ((same_release bound u && same_pre bound.pre u.pre) && is_some u.post)

-- ---- the rows of the test

-- "Version matching": a public V is order-equal to u, and a local V to v
abbrev pub equal_by : Fields → List Ident → Fields → Bool
equal_by bound [] v = is_eq (order_of (public_of v) bound)
equal_by bound (part ∷ parts) v = is_eq (order_of v bound)

abbrev pub equal : Fields → Fields → Bool
equal bound v = equal_by bound bound.local v

-- the operators that take a public V
abbrev pub compares : Comparison → Fields → Fields → Bool
compares Compatible bound v = is_ge (order_of (public_of v) bound) && is_within (prefix_of bound) v
compares LessOrEqual bound v = is_le (order_of (public_of v) bound)
compares GreaterOrEqual bound v = is_ge (order_of (public_of v) bound)
compares Less bound v = is_lt (order_of (public_of v) bound) && not (is_pre_release bound (public_of v))
compares Greater bound v = is_gt (order_of (public_of v) bound) && not (is_post_release bound (public_of v))

-- the construct holds of the version
abbrev pub holds : Construct → Fields → Bool
holds (Compares how bound) v = compares how (public_of bound) v
holds (Equal bound) v = equal bound v
holds (NotEqual bound) v = not (equal bound v)
holds (Within r) v = is_within r v
holds (NotWithin r) v = not (is_within r v)
-- "Arbitrary equality": as texts, without regard to the case of ASCII letters
holds (Identical text) v = bytes_eq (lowered (normal v)) (lowered text)

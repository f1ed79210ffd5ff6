-- The spans of a construct hold exactly the versions of the domain of which the construct holds.
use Rattle.std.proofs.Common.{◌≡◌, ◌==◌, ◌&&◌, ◌||◌, ◌+◌, nat_lt, ℕ, true, false, refl, ◌∙◌, arith}
use Rattle.std.proofs.lemmas.Bool.Decides.{nat_tests}
use Rattle.vx_scheme.specs.declared.domain.Domain.{Domain}
use Rattle.vx_scheme.specs.declared.domain.Domain.TheVariants.{All, Releases}
use Rattle.vx_scheme.specs.Cuts.{in_spans}
use Rattle.vx_range.specs.declared.making.Outcome.TheVariants as made
use Rattle.vx_range.specs.Extents.{in_extent}
use Rattle.vx_range.specs.Laws.Extents.{extent_says}
use Rattle.npm_scheme.specs.Version.{Fields, IsVersion, IsRelease, release_of}
use Rattle.npm_scheme.specs.Order.{order_of, order_total}
use Rattle.npm_scheme.proofs.LowestLaws.{numbers_below-patch_0, numbers_below-minor_0}
use Rattle.npm_range.specs.declared.construct.Operator.{Operator}
use Rattle.npm_range.specs.declared.construct.Operator.TheVariants as operator
use Rattle.npm_range.specs.declared.construct.Partial.{Partial}
use Rattle.npm_range.specs.declared.construct.Partial.TheVariants.{Any, Major, Minor, Full}
use Rattle.npm_range.specs.declared.construct.Construct.{Construct}
use Rattle.npm_range.specs.Refusals.{outcome}
use Rattle.npm_range.specs.Holds.{equal, greater, greater_equal, less, less_equal, tilde, caret, holds_by, holds}
use Rattle.npm_range.specs.Spans.{equal_extent, greater_extent, greater_equal_extent, less_extent, less_equal_extent, tilde_extent, caret_extent, extent_by, made_spans}
use Rattle.npm_range.specs.Laws.Ends.{IsOf, below_end, major_says, minor_says, caret_one, caret_two, caret_three}

lower_one : (x a : ℕ) → nat_lt x a ≡ (nat_lt x a || ((x == a) && false))
lower_one x a = grind (arith, nat_tests)

lower_two : (x a y b : ℕ) → (nat_lt x a || ((x == a) && nat_lt y b)) ≡ (nat_lt x a || ((x == a) && (nat_lt y b || ((y == b) && false))))
lower_two x a y b = grind (arith, nat_tests)

up_to_one : (x a : ℕ) → nat_lt x (a + 1) ≡ (((x == a) && true) || (nat_lt x a || ((x == a) && false)))
up_to_one x a = grind (arith, nat_tests)

up_to_two : (x a y b : ℕ) → (nat_lt x a || ((x == a) && nat_lt y (b + 1)))
    ≡ (((x == a) && ((y == b) && true)) || (nat_lt x a || ((x == a) && (nat_lt y b || ((y == b) && false)))))
up_to_two x a y b = grind (arith, nat_tests)

-- each operator's row
module _ (domain : Domain) where
  equal_says : (p : Partial) (v : Fields) → IsOf domain v → in_extent order_of (equal_extent domain p) v ≡ equal p v
  equal_says (Full version) v is = refl
  equal_says (Minor major minor) v is = minor_says domain (release_of major minor 0) v is
  equal_says (Major major) v is = major_says domain (release_of major 0 0) v is
  equal_says Any v is = refl

  greater_says : (p : Partial) (v : Fields) → in_extent order_of (greater_extent p) v ≡ greater p v
  greater_says (Full version) v = refl
  greater_says (Minor major minor) v = refl
  greater_says (Major major) v = refl
  greater_says Any v = refl

  greater_equal_says : (p : Partial) (v : Fields) → in_extent order_of (greater_equal_extent p) v ≡ greater_equal p v
  greater_equal_says (Full version) v = refl
  greater_equal_says (Minor major minor) v = refl
  greater_equal_says (Major major) v = refl
  greater_equal_says Any v = refl

  less_says : (p : Partial) (v : Fields) → IsOf domain v → in_extent order_of (less_extent domain p) v ≡ less p v
  less_says (Full version) v is = refl
  less_says (Minor major minor) v is = below_end domain major minor 0 v is ∙ (numbers_below-patch_0 v major minor ∙ lower_two v.major major v.minor minor)
  less_says (Major major) v is = below_end domain major 0 0 v is ∙ (numbers_below-minor_0 v major ∙ lower_one v.major major)
  less_says Any v is = refl

  less_equal_says : (p : Partial) (v : Fields) → IsOf domain v → in_extent order_of (less_equal_extent domain p) v ≡ less_equal p v
  less_equal_says (Full version) v is = refl
  less_equal_says (Minor major minor) v is =
      below_end domain major (minor + 1) 0 v is ∙ (numbers_below-patch_0 v major (minor + 1) ∙ up_to_two v.major major v.minor minor)
  less_equal_says (Major major) v is = below_end domain (major + 1) 0 0 v is ∙ (numbers_below-minor_0 v (major + 1) ∙ up_to_one v.major major)
  less_equal_says Any v is = refl

  tilde_says : (p : Partial) (v : Fields) → IsOf domain v → in_extent order_of (tilde_extent domain p) v ≡ tilde p v
  tilde_says (Full version) v is = minor_says domain version v is
  tilde_says (Minor major minor) v is = minor_says domain (release_of major minor 0) v is
  tilde_says (Major major) v is = major_says domain (release_of major 0 0) v is
  tilde_says Any v is = refl

  caret_says : (p : Partial) (v : Fields) → IsOf domain v → in_extent order_of (caret_extent domain p) v ≡ caret p v
  caret_says (Full version) v is = caret_three domain version v is
  caret_says (Minor major minor) v is = caret_two domain (release_of major minor 0) v is
  caret_says (Major major) v is = caret_one domain (release_of major 0 0) v is
  caret_says Any v is = refl

  row_says : (o : Operator) (p : Partial) (v : Fields) → IsOf domain v → in_extent order_of (extent_by o domain p) v ≡ holds_by o p v
  row_says operator.Equal p v is = equal_says p v is
  row_says operator.Greater p v is = greater_says p v
  row_says operator.GreaterEqual p v is = greater_equal_says p v
  row_says operator.Less p v is = less_says p v is
  row_says operator.LessEqual p v is = less_equal_says p v is
  row_says operator.Tilde p v is = tilde_says p v is
  row_says operator.Caret p v is = caret_says p v is

-- The spans of a construct hold the versions of the domain of which it holds.
pub spans_say : (domain : Domain) (mark : ℕ) (c : Construct) (v : Fields) → IsOf domain v → in_spans order_of (made_spans domain mark c) v ≡ holds c v
spans_say domain mark c v is = extent_says order_of order_total mark (extent_by c.operator domain c.partial) v ∙ row_says domain c.operator c.partial v is

pub npm_agrees : (domain : Domain) (mark : ℕ) (c : Construct) (v : Fields) → IsVersion v → IsOf domain v → outcome c ≡ made.Spans → in_spans order_of (made_spans domain mark c) v ≡ holds c v
npm_agrees domain mark c v version is makes = spans_say domain mark c v is

-- Among all versions,
pub all_says : (c : Construct) (mark : ℕ) (v : Fields) → IsVersion v → in_spans order_of (made_spans All mark c) v ≡ holds c v
all_says c mark v version = spans_say All mark c v tt

-- and among releases.
pub releases_say : (c : Construct) (mark : ℕ) (v : Fields) → IsVersion v → IsRelease v → in_spans order_of (made_spans Releases mark c) v ≡ holds c v
releases_say c mark v version is = spans_say Releases mark c v is

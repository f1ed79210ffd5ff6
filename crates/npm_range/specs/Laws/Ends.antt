-- From a version to the end of those that share its first numbers stand those of them that are at least the version.
use Rattle.std.proofs.Common.{◌≡◌, ◌==◌, ◌&&◌, ◌||◌, ◌+◌, nat_lt, ℕ, Bool, true, false, [], ◌∷◌, refl, ap, ◌∙◌, arith, inl, inr}
use Rattle.std.specs.Prelude.{⊤}
use Rattle.std.specs.Ordering.{is_lt, is_ge}
use Rattle.std.specs.declared.cmp.Ordering.{Ordering}
use Rattle.std.specs.declared.cmp.Ordering.TheVariants as ordering
use Rattle.std.proofs.Math.Bool.{and-false, or-false}
use Rattle.std.proofs.lemmas.Bool.{cases_Bool}
use Rattle.std.proofs.lemmas.Bool.Decides.{nat_tests}
use Rattle.vx_scheme.specs.declared.domain.Domain.{Domain}
use Rattle.vx_scheme.specs.declared.domain.Domain.TheVariants.{All, Releases}
use Rattle.vx_scheme.specs.Native.{by_domain}
use Rattle.vx_range.specs.Extents.{in_extent}
use Rattle.npm_scheme.specs.Version.{Fields, IsRelease}
use Rattle.npm_scheme.specs.Order.{order_of}
use Rattle.npm_scheme.proofs.LowestLaws.{numbers_below, numbers_same, has_pre, is_lt-lowest_of, is_lt-release_of, numbers_below-patch_0, numbers_below-minor_0, numbers_below_is_below}
use Rattle.npm_range.specs.Holds.{numbers_of, are_same, up_to_first_not_0, at_least}
use Rattle.npm_range.specs.Spans.{end_of, to_next_major, to_next_minor, to_next_patch, caret_of_two, caret_of_three}

-- the version is of the domain
abbrev pub IsOf : Domain → Fields → Type 0
IsOf domain v = by_domain (λ _. ⊤) IsRelease domain v

not_both : (o : Ordering) → is_ge o ≡ true → is_lt o ≡ true → ⊥
not_both ordering.Less e f = absurd (cc)
not_both ordering.Equal e f = absurd (cc)
not_both ordering.Greater e f = absurd (cc)

-- Below the end `M.m.p-0`, or `M.m.p` among releases, stand the versions whose numbers are below M, m, p.
pub below_end : (domain : Domain) (major minor patch : ℕ) (v : Fields) → IsOf domain v → is_lt (order_of v (end_of domain major minor patch)) ≡ numbers_below v major minor patch
below_end All major minor patch v is = is_lt-lowest_of v major minor patch
below_end Releases major minor patch v is =
    is_lt-release_of v major minor patch
    ∙ (ap (λ pre. numbers_below v major minor patch || (numbers_same v major minor patch && has_pre pre)) is
    ∙ (ap (λ r. numbers_below v major minor patch || r) (and-false (numbers_same v major minor patch)) ∙ or-false (numbers_below v major minor patch)))

-- the numbers of a version that is at least another are not below the other's
not_below : (low v : Fields) → at_least low v ≡ true → numbers_below v low.major low.minor low.patch ≡ false
not_below low v least = elim (cases_Bool (numbers_below v low.major low.minor low.patch)) [
  | inl yes' ↦ absurd (not_both (order_of v low) least (numbers_below_is_below v low yes'))
  | inr no' ↦ no'
]

-- Numbers not below M, m, p are below the numbers with one of these raised exactly where they are the same up to it.
same_one : (x a : ℕ) (rest : Bool) → (nat_lt x a || rest) ≡ false → nat_lt x (a + 1) ≡ ((x == a) && true)
same_one x a rest none = grind (arith, nat_tests)

same_two : (x a y b : ℕ) (rest : Bool) → (nat_lt x a || ((x == a) && (nat_lt y b || rest))) ≡ false
    → (nat_lt x a || ((x == a) && nat_lt y (b + 1))) ≡ ((x == a) && ((y == b) && true))
same_two x a y b rest none = grind (arith, nat_tests)

same_three : (x a y b z c : ℕ) → (nat_lt x a || ((x == a) && (nat_lt y b || ((y == b) && nat_lt z c)))) ≡ false
    → (nat_lt x a || ((x == a) && (nat_lt y b || ((y == b) && nat_lt z (c + 1))))) ≡ ((x == a) && ((y == b) && ((z == c) && true)))
same_three x a y b z c none = grind (arith, nat_tests)

and_when : (a b c : Bool) → (a ≡ true → b ≡ c) → (a && b) ≡ (a && c)
and_when true b c f = f refl
and_when false b c f = refl

module _ (domain : Domain) (low v : Fields) (is : IsOf domain v) where
  -- from a version to the end of those that share its first number, its first two, all three
  pub major_says : in_extent order_of (to_next_major domain low) v ≡ (at_least low v && are_same (low.major ∷ []) (numbers_of v))
  major_says = and_when (at_least low v) _ _ (λ least.
      below_end domain (low.major + 1) 0 0 v is ∙ (numbers_below-minor_0 v (low.major + 1) ∙ same_one v.major low.major _ (not_below low v least)))

  pub minor_says : in_extent order_of (to_next_minor domain low) v ≡ (at_least low v && are_same (low.major ∷ low.minor ∷ []) (numbers_of v))
  minor_says = and_when (at_least low v) _ _ (λ least.
      below_end domain low.major (low.minor + 1) 0 v is
      ∙ (numbers_below-patch_0 v low.major (low.minor + 1) ∙ same_two v.major low.major v.minor low.minor _ (not_below low v least)))

  patch_says : in_extent order_of (to_next_patch domain low) v ≡ (at_least low v && are_same (numbers_of low) (numbers_of v))
  patch_says = and_when (at_least low v) _ _ (λ least.
      below_end domain low.major low.minor (low.patch + 1) v is
      ∙ same_three v.major low.major v.minor low.minor v.patch low.patch (not_below low v least))

  pub caret_one : in_extent order_of (to_next_major domain low) v ≡ (at_least low v && are_same (up_to_first_not_0 (low.major ∷ [])) (numbers_of v))
  caret_one = elim (cases_Bool (low.major == 0)) [
    | inl first ↦ rw first major_says
    | inr first ↦ rw first major_says
  ]

  pub caret_two : in_extent order_of (caret_of_two domain low) v ≡ (at_least low v && are_same (up_to_first_not_0 (low.major ∷ low.minor ∷ [])) (numbers_of v))
  caret_two = elim (cases_Bool (low.major == 0)) [
    | inr first ↦ rw first major_says
    | inl first ↦ elim (cases_Bool (low.minor == 0)) [
      | inl second ↦ rw (first, second) minor_says
      | inr second ↦ rw (first, second) minor_says
    ]
  ]

  pub caret_three : in_extent order_of (caret_of_three domain low) v ≡ (at_least low v && are_same (up_to_first_not_0 (numbers_of low)) (numbers_of v))
  caret_three = elim (cases_Bool (low.major == 0)) [
    | inr first ↦ rw first major_says
    | inl first ↦ elim (cases_Bool (low.minor == 0)) [
      | inr second ↦ rw (first, second) minor_says
      | inl second ↦ elim (cases_Bool (low.patch == 0)) [
        | inl third ↦ rw (first, second, third) patch_says
        | inr third ↦ rw (first, second, third) patch_says
      ]
    ]
  ]

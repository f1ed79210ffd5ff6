-- The two versions that a requirement of RubyGems tells apart, although every version of no more than a size compares alike
-- with both: why `~>` has no end.
use Rattle.std.specs.Prelude.{◌≡◌, ◌+◌, ◌-◌, ℕ, max, List, [], ◌∷◌, ◌++◌, length, replicate, codes}
use Rattle.vx_scheme.specs.declared.ident.Ident.{Ident}
use Rattle.vx_scheme.specs.declared.ident.Ident.TheVariants.{Number, Word}
use Rattle.gem_scheme.specs.Version.{Fields, bump_of}
use Rattle.relation_ranges.specs.declared.gem.operators.Operator.{Operator}
use Rattle.relation_ranges.specs.declared.gem.operators.Operator.TheVariants.{Compares, NotEqual, Twiddle}

-- the greatest number among segments, 0 where there is none
abbrev pub greatest_number : List Ident → ℕ
greatest_number [] = 0
greatest_number (Number n ∷ segments) = max n (greatest_number segments)
greatest_number (Word w ∷ segments) = greatest_number segments

-- the size of a version: the greatest among its numbers and the number of its segments
abbrev pub size : Fields → ℕ
size v = max (greatest_number v.segments) (length v.segments)

-- a number lowered by one
abbrev pub lowered_by_one : Ident → Ident
lowered_by_one (Number n) = Number (n - 1)
lowered_by_one (Word w) = Word w

-- the last segment lowered by one
abbrev pub last_lowered : List Ident → List Ident
last_lowered [] = []
last_lowered (last ∷ []) = lowered_by_one last ∷ []
last_lowered (segment ∷ next ∷ segments) = segment ∷ last_lowered (next ∷ segments)

-- one more than the greater of a number and the size of the requirement's version
abbrev pub more_than : ℕ → Fields → ℕ
more_than n bound = max n (size bound) + 1

-- the bump with its last number lowered by one, followed by that large a number: of `~> 1.2.3` with n = 8 it is `1.2.9`
abbrev pub before_bump : ℕ → Fields → Fields
before_bump n bound = record { segments = last_lowered (bump_of bound).segments ++ Number (more_than n bound) ∷ [] }

-- the bump followed by that many words `A`: of `~> 1.2.3` with n = 3 it is `1.3.A.A.A.A`
abbrev pub words_behind_bump : ℕ → Fields → Fields
words_behind_bump n bound = record { segments = (bump_of bound).segments ++ replicate (more_than n bound) (Word (codes "A")) }

-- The operator with its version tells these two versions apart, and no version of size n at most does: those of `~>`, which
-- alone is refused for want of an end.
abbrev pub Tells : ℕ → Operator → Fields → Fields → Fields → Type 0
Tells n (Compares how) bound v w = ⊥
Tells n NotEqual bound v w = ⊥
Tells n Twiddle bound v w = (v ≡ before_bump n bound) × (w ≡ words_behind_bump n bound)

-- Versions that a construct without an end tells apart: the construct holds of one of the two alone, and a version compares alike
-- with both where its numerals are low and its release is short. So no list of versions says what a construct does that has such
-- two: `>V` has them, and `===T` where T is, letter case aside, the normal text of a version of the domain.
use Rattle.std.specs.Prelude.{◌≡◌, ◌+◌, max, ℕ, List, [], ◌∷◌, ◌++◌, length, replicate, Some, None, option_to_list, ⊤}
use Rattle.std.specs.List.{flat_map}
use Rattle.vx_text.specs.Folding.{lowered}
use Rattle.vx_scheme.specs.declared.domain.Domain.{Domain}
use Rattle.vx_scheme.specs.declared.ident.Ident.{Ident}
use Rattle.vx_scheme.specs.declared.ident.Ident.TheVariants.{Number, Word}
use Rattle.vx_scheme.specs.Native.{by_domain}
use Rattle.pep440_scheme.specs.Version.{Fields, IsRelease, IsVersion, public_of}
use Rattle.pep440_scheme.specs.Next.{dev0_of, pre_number, with_ends}
use Rattle.pep440_scheme.specs.Writing.{normal}
use Rattle.pep440_range.specs.declared.construct.Comparison.TheVariants.{Greater}
use Rattle.pep440_range.specs.declared.construct.Construct.{Construct}
use Rattle.pep440_range.specs.declared.construct.Construct.TheVariants.{Compares, Equal, NotEqual, Within, NotWithin, Identical}
use Rattle.pep440_range.specs.Holds.{release_of}

-- ---- the size of a version

-- the numeral of a part of a label, where it is one
abbrev pub local_numeral : Ident → List ℕ
local_numeral (Number n) = n ∷ []
local_numeral (Word w) = []

-- the numerals of a version
abbrev pub numerals : Fields → List ℕ
numerals v =
    v.epoch
    ∷ (v.release
    ++ (option_to_list (pre_number v.pre)
    ++ (option_to_list v.post ++ (option_to_list v.dev ++ flat_map local_numeral v.local))))

-- the greatest of numbers, and 0 of none
abbrev pub greatest : List ℕ → ℕ
greatest [] = 0
greatest (n ∷ numbers) = max n (greatest numbers)

-- the greatest among the numerals and the number of release numbers
abbrev pub size : Fields → ℕ
size v = greatest (length v.release ∷ numerals v)

-- ---- the two versions

-- one more than the greater of n and the size of V
abbrev pub large : ℕ → Fields → ℕ
large n bound = max n (size bound) + 1

-- V with a large post number
abbrev pub large_post : ℕ → Fields → Fields
large_post n bound = with_ends bound (Some (large n bound)) None

-- the lowest version of V's release followed by many zeros and 1: it has `.dev0`
abbrev pub long_dev0 : ℕ → Fields → Fields
long_dev0 n bound = dev0_of (release_of bound.epoch (bound.release ++ (replicate (large n bound) 0 ++ 1 ∷ [])))

-- V with one more 0 at the end of its release
abbrev pub with_zero : Fields → Fields
with_zero v = record { epoch = v.epoch; release = v.release ++ 0 ∷ []; pre = v.pre; post = v.post; dev = v.dev; local = v.local }

-- The text is, letter case aside, the normal text of this version of the domain.
pub record IsNormalOf (domain : Domain) (text : List ℕ) (v : Fields) : Type 0 where
  pub version : IsVersion v
  pub inside : by_domain (λ _. ⊤) IsRelease domain v
  pub written : lowered (normal v) ≡ lowered text

-- The two versions that a construct tells apart, for a number n. Of `>V`: V with a large post number; and V's epoch with V's release
-- followed by many zeros and 1, with `.dev0`. Of `===T`: a version of the domain whose normal text T is, letter case aside; and it
-- with one more 0 at the end of its release. Of another construct: none.
abbrev pub AreWitnesses : Domain → ℕ → Construct → Fields → Fields → Type 0
AreWitnesses domain n (Compares Greater bound) v w = (v ≡ large_post n (public_of bound)) × (w ≡ long_dev0 n (public_of bound))
AreWitnesses domain n (Identical text) v w = IsNormalOf domain text v × (w ≡ with_zero v)
AreWitnesses domain n construct v w = ⊥

-- ---- constructs of versions

-- what the construct is made of is a version
abbrev pub ConstructIsVersion : Construct → Type 0
ConstructIsVersion (Compares how bound) = IsVersion bound
ConstructIsVersion (Equal bound) = IsVersion bound
ConstructIsVersion (NotEqual bound) = IsVersion bound
ConstructIsVersion (Within r) = IsVersion r
ConstructIsVersion (NotWithin r) = IsVersion r
ConstructIsVersion (Identical text) = Unit {0}

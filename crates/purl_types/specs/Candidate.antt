-- The version of a package URL, as a version text of the scheme that its type names (ECMA-427, the type definitions: the
-- qualifier `epoch` of `rpm`).
use Rattle.std.specs.Prelude.{◌≡◌, ◌⊎◌, ◌++◌, ℕ, List, Some, codes}
use Rattle.purl_core.specs.Spelling.{Member}
use Rattle.purl_core.specs.Value.{Package}

-- the type is `rpm`, and there is a qualifier `epoch` with this value
abbrev pub HasEpoch : Package → List ℕ → Type 0
HasEpoch p epoch = (p.kind ≡ codes "rpm") × Member (codes "epoch", epoch) p.qualifiers

-- the epoch, `:` and the version; the version alone where there is no epoch
abbrev pub IsBehindEpoch : Package → List ℕ → List ℕ → Type 0
IsBehindEpoch p version text =
    ((epoch : List ℕ) × HasEpoch p epoch × (text ≡ epoch ++ codes ":" ++ version))
    ⊎ (((epoch : List ℕ) → ¬ (HasEpoch p epoch)) × (text ≡ version))

-- The candidate of a package URL that has a version.
pub record IsCandidate (p : Package) (candidate : List ℕ) : Type 0 where
  pub version : List ℕ
  pub there : p.version ≡ Some version
  pub is : IsBehindEpoch p version candidate

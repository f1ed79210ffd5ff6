-- When two package URLs mean the same package (ECMA-427, the rules of the types). Nothing is folded or put in order here: texts are compared byte by byte.
use Rattle.std.specs.Prelude.{◌≡◌, ◌+◌, ◌≤◌, ◌⊎◌, ◌↔◌, ℕ, List}
use Rattle.vx_spec.specs.Each.{AreEach}
use Rattle.purl_core.specs.Value.{Package}
use Rattle.purl_core.specs.Spelling.{Member}
use Rattle.purl_types.specs.Table.{row_of}
use Rattle.purl_types.specs.declared.table.Folding.{Folding}
use Rattle.purl_types.specs.declared.table.Folding.TheVariants.{Kept, Lowered, Dashed}

-- an ASCII letter in upper case, and the same in lower case
abbrev pub IsCased : ℕ → ℕ → Type 0
IsCased upper lower = (65 ≤ upper) × (upper ≤ 90) × (lower ≡ upper + 32)

-- one byte, or one ASCII letter in its two cases
abbrev pub SameLetter : ℕ → ℕ → Type 0
SameLetter a b = (a ≡ b) ⊎ (IsCased a b ⊎ IsCased b a)

-- '-' or '_'
abbrev pub IsDash : ℕ → Type 0
IsDash b = (b ≡ 45) ⊎ (b ≡ 95)

-- the same letter, or each is '-' or '_'
abbrev pub SameSign : ℕ → ℕ → Type 0
SameSign a b = SameLetter a b ⊎ (IsDash a × IsDash b)

-- what a type takes for one text: equal; but for the case of letters; but for that and '-' in place of '_'
abbrev pub SameText : Folding → List ℕ → List ℕ → Type 0
SameText Kept a b = a ≡ b
SameText Lowered a b = AreEach SameLetter a b
SameText Dashed a b = AreEach SameSign a b

-- The package URLs mean the same package: namespaces segment by segment and names are one as the type says, and each
-- key has the same value on both sides.
pub record Same (p q : Package) : Type 0 where
  pub kind : p.kind ≡ q.kind
  pub namespace : AreEach (SameText (row_of p.kind).namespace) p.namespace q.namespace
  pub name : SameText (row_of p.kind).name p.name q.name
  pub version : p.version ≡ q.version
  pub qualifiers : (key value : List ℕ) → Member (key, value) p.qualifiers ↔ Member (key, value) q.qualifiers
  pub subpath : p.subpath ≡ q.subpath

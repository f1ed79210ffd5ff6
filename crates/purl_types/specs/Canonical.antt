-- Canonical texts of package URLs (ECMA-427, normalization by the type).
use Rattle.std.specs.Prelude.{◌≡◌, ◌<◌, ◌⊎◌, ◌↔◌, ℕ, Bool, List, IsTrue, Result, Ok, Err}
use Rattle.std.specs.List.{AllByRecursion}
use Rattle.purl_core.specs.Value.{IsValid, Package}
use Rattle.purl_core.specs.Spelling.{SpellsPurl}
use Rattle.purl_core.specs.Printed.{purl_text}
use Rattle.purl_core.specs.Reading.{IsRefused}
use Rattle.purl_core.specs.declared.fault.PurlFault.{PurlFault}
use Rattle.purl_types.specs.Folding.{folded_purl}
use Rattle.purl_types.specs.Same.{Same}

-- the second text is the printed text of the folded package URL that the first spells
pub record IsCanonical (text canonical : List ℕ) : Type 0 where
  pub purl : Package
  pub spells : SpellsPurl text purl
  pub printed : canonical ≡ purl_text (folded_purl purl)

-- the canonical text, or the reader's first refusal
abbrev pub IsCanonicalAs : List ℕ → Result (List ℕ) PurlFault → Type 0
IsCanonicalAs text (Ok canonical) = IsCanonical text canonical
IsCanonicalAs text (Err fault) = IsRefused text fault

-- whether the package URLs that the texts spell mean the same package; or the refusal of the first text; or, where
-- that spells one, the refusal of the second
abbrev pub IsComparedAs : List ℕ → List ℕ → Result Bool PurlFault → Type 0
IsComparedAs a b (Ok told) = (p : Package) × (q : Package) × SpellsPurl a p × SpellsPurl b q × (IsTrue told ↔ Same p q)
IsComparedAs a b (Err fault) = IsRefused a fault ⊎ ((p : Package) × SpellsPurl a p × IsRefused b fault)

-- a list of bytes
abbrev pub AreBytes : List ℕ → Type 0
AreBytes text = AllByRecursion (λ b. b < 256) text

-- folding keeps the form of a package URL
abbrev pub FoldingIsValid : Type 0
FoldingIsValid = (p : Package) → IsValid p → IsValid (folded_purl p)

-- what is folded stays as it is when it is folded again
abbrev pub FoldingIsDone : Type 0
FoldingIsDone = (p : Package) → folded_purl (folded_purl p) ≡ folded_purl p

-- the canonical text of a canonical text is that text
abbrev pub CanonicalAgain : Type 0
CanonicalAgain = (text canonical : List ℕ) → AreBytes text → IsCanonical text canonical → IsCanonical canonical canonical

-- two package URLs have one canonical text exactly where they mean the same package
abbrev pub OneForSame : Type 0
OneForSame = (p q : Package) → IsValid p → IsValid q → (purl_text (folded_purl p) ≡ purl_text (folded_purl q)) ↔ Same p q

-- equal canonical texts exactly where what the two texts spell means the same package
abbrev pub EqualCanonicalsMeanSame : Type 0
EqualCanonicalsMeanSame = (a b x y : List ℕ) (p q : Package) → AreBytes a → AreBytes b → SpellsPurl a p → SpellsPurl b q → IsCanonical a x → IsCanonical b y → (x ≡ y) ↔ Same p q

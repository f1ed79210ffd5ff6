-- What an accepted line says.
use Rattle.std.specs.Prelude.{◌≡◌, ◌↔◌, true, ℕ, List, ◌++◌, Bool, Option, Some, Ok, codes}
use Rattle.vx_batch.specs.declared.request.Request.{Request}
use Rattle.vx_batch.specs.declared.request.Request.TheVariants.{ToVers, FromVers, Canon, Has, Purl, Same, Check}
use Rattle.vx_scheme.specs.declared.name.SchemeName.{SchemeName}
use Rattle.vx_scheme.specs.declared.domain.Domain.{Domain}
use Rattle.purl_types.specs.Canonical.{AreBytes, IsCanonical, IsComparedAs}
use Rattle.vx_scheme.specs.Names.{scheme_named}
use Rattle.vx_translate.specs.Domains.{chosen_domain}
use Rattle.vx_translate.specs.Names.{IsCheck, IsSameList, IsSameSet, IsHas, IsSameRange}
use Rattle.vx_batch.specs.Answers.{domain_named, decision_text}

-- The line behind `to-vers`, a scheme, a domain and a range is `ok`, a tab and a printed text, which holds exactly the
-- versions of the domain that are in the range.
pub record IsTranslation (scheme domain range line : List ℕ) : Type 0 where
  pub text : List ℕ
  pub name : SchemeName
  pub choice : Option Domain
  pub is_scheme : scheme_named scheme ≡ Some name
  pub is_domain : domain_named domain ≡ Some choice
  pub printed : line ≡ codes "ok\t" ++ text
  pub same : IsSameRange name (chosen_domain choice name) range text

-- The line behind `from-vers`, a domain and a VERS text is `ok`, a tab and a range text, in which are exactly the
-- versions of the domain that the list, as it is read, holds.
pub record IsTranslationBack (domain text line : List ℕ) : Type 0 where
  pub range : List ℕ
  pub choice : Option Domain
  pub is_domain : domain_named domain ≡ Some choice
  pub printed : line ≡ codes "ok\t" ++ range
  pub same : IsSameSet choice text range

-- The line behind `canon` and a VERS text is `ok`, a tab and the printed text of a valid list, which holds exactly the
-- versions that the list, as it is read, holds, and simplifies no further.
pub record IsSimplification (text line : List ℕ) : Type 0 where
  pub canonical : List ℕ
  pub printed : line ≡ codes "ok\t" ++ canonical
  pub same : IsSameList text canonical

-- The line behind `has`, a VERS text and a version is `ok`, a tab and `yes` where the list, as it is read, holds the
-- version, and `no` where it does not.
pub record IsMembership (text version line : List ℕ) : Type 0 where
  pub held : Bool
  pub printed : line ≡ codes "ok\t" ++ decision_text held
  pub is : IsHas text version held

-- The line behind `purl` and a package URL is `ok`, a tab and the canonical text of what the text spells. Another package
-- URL has an equal canonical text exactly where the two mean the same package.
pub record IsCanonicalPurl (text line : List ℕ) : Type 0 where
  pub canonical : List ℕ
  pub printed : line ≡ codes "ok\t" ++ canonical
  pub is : IsCanonical text canonical
  pub equal : (other found : List ℕ) → AreBytes text → AreBytes other → IsCanonical other found → (canonical ≡ found) ↔ IsComparedAs text other (Ok true)

-- The line behind `same` and two package URLs is `ok`, a tab and `yes` where what they spell means the same package,
-- and `no` where it does not.
pub record IsComparison (a b line : List ℕ) : Type 0 where
  pub told : Bool
  pub printed : line ≡ codes "ok\t" ++ decision_text told
  pub is : IsComparedAs a b (Ok told)

-- The line behind `check`, a package URL and a VERS text is `ok`, a tab and `yes` where the list, as it is read, holds
-- the version that the package URL's candidate spells, and `no` where it does not.
pub record IsCheckMembership (purl vers line : List ℕ) : Type 0 where
  pub held : Bool
  pub printed : line ≡ codes "ok\t" ++ decision_text held
  pub is : IsCheck purl vers held

-- The accepted line of a request says what its command promises.
abbrev pub Says : Request (List ℕ) → List ℕ → Type 0
Says (ToVers scheme domain range) = IsTranslation scheme domain range
Says (FromVers domain vers) = IsTranslationBack domain vers
Says (Canon vers) = IsSimplification vers
Says (Has vers version) = IsMembership vers version
Says (Purl purl) = IsCanonicalPurl purl
Says (Same first second) = IsComparison first second
Says (Check purl vers) = IsCheckMembership purl vers

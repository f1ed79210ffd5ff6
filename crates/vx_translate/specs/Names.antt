-- Translations, canonical texts, membership and checks by the name of a scheme, and by the scheme that the head of a VERS text
-- names: each what the row of the scheme says.
use Rattle.std.specs.Prelude.{◌≢◌, ℕ, Bool, List, Option}
use Rattle.vx_scheme.specs.declared.name.SchemeName.{SchemeName}
use Rattle.vx_scheme.specs.declared.domain.Domain.{Domain}
use Rattle.vx_scheme.specs.declared.range_fault.EndKind.{EndKind}
use Rattle.vx_translate.specs.Backward.{TranslatesBack, KeepsMembers, RefusesBack}
use Rattle.vx_translate.specs.Checking.{TellsCheck, RefusesCheck}
use Rattle.vx_translate.specs.Canonical.{PrintsSimplified, MeansSame, RefusesCanonical}
use Rattle.vx_translate.specs.Domains.{chosen_domain}
use Rattle.vx_translate.specs.Forward.{Translates, HoldsSame, HoldsNothing, RefusesForward}
use Rattle.vx_translate.specs.Having.{TellsMembership, RefusesMembership}
use Rattle.vx_translate.specs.Table.{of_scheme}
use Rattle.vx_translate.specs.VersTexts.{OfHead, ComesByHead, RefusedByHead}
use Rattle.vx_translate.specs.declared.check_refusal.CheckRefusal.{CheckRefusal}
use Rattle.vx_translate.specs.declared.check_refusal.CheckRefusal.TheVariants as check_refusal_of
use Rattle.vx_translate.specs.declared.refusal.VersPart.TheVariants.{Head}
use Rattle.vx_translate.specs.declared.refusal.Refusal.{Refusal}
use Rattle.vx_translate.specs.declared.refusal.Refusal.TheVariants as refusal_of

-- ---- to VERS

-- the answer is the text of the translation
abbrev pub IsTranslated : SchemeName → Domain → List ℕ → List ℕ → Type 0
IsTranslated name domain text out = of_scheme (λ row. Translates row.scheme row.language domain text out) name

-- it holds the same versions of the domain as the range text
abbrev pub IsSameRange : SchemeName → Domain → List ℕ → List ℕ → Type 0
IsSameRange name domain text out = of_scheme (λ row. HoldsSame row.scheme row.language domain text out) name

-- no version of the domain is in the range text
abbrev pub HoldsNone : SchemeName → Domain → List ℕ → Type 0
HoldsNone name domain text = of_scheme (λ row. HoldsNothing row.scheme row.language domain text) name

-- when each refusal comes; want of memory is free
abbrev pub IsRefused : SchemeName → Domain → List ℕ → Refusal → Type 0
IsRefused name domain text refusal =
    refusal ≢ refusal_of.NoMemory → of_scheme (λ row. RefusesForward row.scheme row.language domain text refusal) name

-- what a refusal for want of an end of this kind at this place proves
abbrev pub ProvesNoEnd : SchemeName → Domain → List ℕ → EndKind → ℕ → Type 0
ProvesNoEnd name domain text kind at = of_scheme (λ row. row.ProvesNoEnd domain text kind at) name

-- ---- from VERS

-- the range text of a VERS text in a domain, or in the default of its scheme
abbrev pub IsFromVers : Option Domain → List ℕ → List ℕ → Type 0
IsFromVers domain text out = OfHead (λ name. of_scheme (λ row. TranslatesBack row.scheme row.language (chosen_domain domain name) text out) name) text

-- it holds the same versions of the domain as the list
abbrev pub IsSameSet : Option Domain → List ℕ → List ℕ → Type 0
IsSameSet domain text out = OfHead (λ name. of_scheme (λ row. KeepsMembers row.scheme row.language (chosen_domain domain name) text out) name) text

abbrev pub IsFromVersRefused : Option Domain → List ℕ → Refusal → Type 0
IsFromVersRefused domain text =
    RefusedByHead (λ name refusal. of_scheme (λ row. RefusesBack row.scheme row.language (chosen_domain domain name) text refusal) name) text

-- ---- canonical texts

abbrev pub IsCanon : List ℕ → List ℕ → Type 0
IsCanon text out = OfHead (of_scheme (λ row. PrintsSimplified row.scheme text out)) text

-- the canonical text means the same
abbrev pub IsSameList : List ℕ → List ℕ → Type 0
IsSameList text out = OfHead (of_scheme (λ row. MeansSame row.scheme text out)) text

abbrev pub IsCanonRefused : List ℕ → Refusal → Type 0
IsCanonRefused text = RefusedByHead (λ name refusal. of_scheme (λ row. RefusesCanonical row.scheme text refusal) name) text

-- ---- membership

abbrev pub IsHas : List ℕ → List ℕ → Bool → Type 0
IsHas text version answer = OfHead (of_scheme (λ row. TellsMembership row.scheme text version answer)) text

abbrev pub IsHasRefused : List ℕ → List ℕ → Refusal → Type 0
IsHasRefused text version = RefusedByHead (λ name refusal. of_scheme (λ row. RefusesMembership row.scheme text version refusal) name) text

-- ---- checks

-- the answer to whether the VERS text holds the version of the package URL
abbrev pub IsCheck : List ℕ → List ℕ → Bool → Type 0
IsCheck purl vers answer = OfHead (of_scheme (λ row. TellsCheck row.scheme purl vers answer)) vers

abbrev pub IsCheckRefused : List ℕ → List ℕ → CheckRefusal → Type 0
IsCheckRefused purl vers =
    ComesByHead check_refusal_of.NoMemory (check_refusal_of.Vers (refusal_of.BadVers Head 0))
    (λ name refusal. of_scheme (λ row. RefusesCheck row.scheme purl vers refusal) name) vers

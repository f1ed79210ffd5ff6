-- What a line is answered, by its fields: this project's own.
use Rattle.std.specs.Prelude.{◌≡◌, ◌≢◌, ◌<◌, ◌≤◌, ◌⊎◌, ℕ, List, [], ◌++◌, Bool, true, false, Option, Some, None, Ok, Err, if◌then◌else◌, bytes_eq, codes, length}
use Rattle.std.specs.Str.{IsUtf8}
use Rattle.vx_spec.specs.Numerals.{numeral_text}
use Rattle.vx_scheme.specs.declared.name.SchemeName.{SchemeName}
use Rattle.vx_scheme.specs.Names.{scheme_named}
use Rattle.vx_scheme.specs.declared.domain.Domain.{Domain}
use Rattle.vx_scheme.specs.declared.domain.Domain.TheVariants.{All, Releases}
use Rattle.vx_scheme.specs.declared.range_fault.EndKind.{EndKind}
use Rattle.vx_scheme.specs.declared.range_fault.EndKind.TheVariants.{GreaterThanFinal, Twiddle, NoRelease, ArbitraryEquality}
use Rattle.vx_translate.specs.declared.refusal.Refusal.{Refusal}
use Rattle.vx_translate.specs.declared.refusal.Refusal.TheVariants as refusal_of
use Rattle.vx_translate.specs.declared.check_refusal.CheckRefusal.{CheckRefusal}
use Rattle.vx_translate.specs.declared.check_refusal.CheckRefusal.TheVariants as check_refusal_of
use Rattle.vx_translate.specs.declared.refusal.VersPart.{VersPart}
use Rattle.vx_translate.specs.declared.refusal.VersPart.TheVariants as part_of
use Rattle.vx_translate.specs.declared.refusal.BackKind.{BackKind}
use Rattle.vx_translate.specs.declared.refusal.BackKind.TheVariants as kind_of
use Rattle.purl_core.specs.Reading.{IsRefused as IsPurlRefused}
use Rattle.purl_core.specs.declared.fault.PurlFault.{PurlFault}
use Rattle.purl_core.specs.declared.fault.PurlFault.TheVariants as purl_fault_of
use Rattle.purl_types.specs.Canonical.{IsCanonical, IsComparedAs}
use Rattle.vx_translate.specs.Domains.{chosen_domain}
use Rattle.vx_translate.specs.Names.{IsCanon, IsSameList, IsCanonRefused, IsCheck, IsCheckRefused, IsFromVers, IsSameSet, IsFromVersRefused, IsHas, IsHasRefused, IsTranslated, IsSameRange, IsRefused}
use Rattle.vx_batch.specs.declared.request.Request.{Request}
use Rattle.vx_batch.specs.declared.request.Request.TheVariants.{ToVers, FromVers, Canon, Has, Purl, Same, Check}
use Rattle.vx_batch.specs.Fields.{fields_of_line}
use Rattle.vx_batch.specs.Requests.{IsAsked}

-- the domain that the text names, or none for `-`, which means the scheme's default
abbrev pub domain_named : List ℕ → Option (Option Domain)
domain_named text =
    if bytes_eq text (codes "all") then Some (Some All)
    else if bytes_eq text (codes "releases") then Some (Some Releases)
    else if bytes_eq text (codes "-") then Some None
    else None

abbrev pub end_kind_text : EndKind → List ℕ
end_kind_text GreaterThanFinal = codes "GreaterThanFinal"
end_kind_text Twiddle = codes "Twiddle"
end_kind_text NoRelease = codes "NoRelease"
end_kind_text ArbitraryEquality = codes "ArbitraryEquality"

abbrev pub part_text : VersPart → List ℕ
part_text part_of.Head = codes "Head"
part_text part_of.Constraint = codes "Constraint"
part_text part_of.Version = codes "Version"
part_text part_of.Duplicate = codes "Duplicate"
part_text part_of.StarNotAlone = codes "StarNotAlone"
part_text part_of.Numeral = codes "Numeral"

abbrev pub back_kind_text : BackKind → List ℕ
back_kind_text kind_of.NotOneInterval = codes "NotOneInterval"
back_kind_text kind_of.PointHole = codes "PointHole"
back_kind_text kind_of.LocalBound = codes "LocalBound"
back_kind_text kind_of.LocalsApart = codes "LocalsApart"
back_kind_text kind_of.NothingInDomain = codes "NothingInDomain"

-- `no`, a tab, the number and the name of the refusal, a tab, and its place: `-` where there is none. Want of memory
-- has no line.
abbrev pub refusal_line : Refusal → List ℕ
refusal_line refusal_of.DomainNotOffered = codes "no\t6 DomainNotOffered\t-"
refusal_line (refusal_of.Syntax at) = codes "no\t7 Syntax\t" ++ numeral_text at
refusal_line (refusal_of.Numeral at) = codes "no\t8 Numeral\t" ++ numeral_text at
refusal_line (refusal_of.NoEndpoint kind at) = (codes "no\t9 NoEndpoint\t" ++ end_kind_text kind) ++ (codes " " ++ numeral_text at)
refusal_line refusal_of.Empty = codes "no\t10 Empty\t-"
refusal_line (refusal_of.BadVers part k) = (codes "no\t11 BadVers\t" ++ part_text part) ++ (codes " " ++ numeral_text k)
refusal_line refusal_of.BadVersion = codes "no\t12 BadVersion\t-"
refusal_line (refusal_of.NoNative kind k) = (codes "no\t13 NoNative\t" ++ back_kind_text kind) ++ (codes " " ++ numeral_text k)
refusal_line refusal_of.NoMemory = []

-- the same for a package URL; the place is 0 where the whole text is meant
abbrev pub purl_line : PurlFault → List ℕ
purl_line purl_fault_of.Scheme = codes "no\t14 BadPurl\tScheme 0"
purl_line purl_fault_of.BadType = codes "no\t14 BadPurl\tType 0"
purl_line purl_fault_of.Name = codes "no\t14 BadPurl\tName 0"
purl_line (purl_fault_of.Escape at) = codes "no\t14 BadPurl\tEscape " ++ numeral_text at
purl_line (purl_fault_of.NotText at) = codes "no\t14 BadPurl\tNotText " ++ numeral_text at
purl_line (purl_fault_of.Qualifier at) = codes "no\t14 BadPurl\tQualifier " ++ numeral_text at
purl_line (purl_fault_of.DuplicateKey at) = codes "no\t14 BadPurl\tDuplicateKey " ++ numeral_text at
purl_line purl_fault_of.NoMemory = []

-- the same for a check
abbrev pub check_line : CheckRefusal → List ℕ
check_line (check_refusal_of.Vers refusal) = refusal_line refusal
check_line (check_refusal_of.BadPurl fault) = purl_line fault
check_line check_refusal_of.NoVersion = codes "no\t15 NoVersion\t-"
check_line check_refusal_of.NoScheme = codes "no\t16 NoScheme\t-"
check_line check_refusal_of.NoMemory = []

-- a line that is refused so
abbrev pub IsLine : List ℕ → Bool → List ℕ → Type 0
IsLine refused ok line = (ok ≡ false) × (line ≡ refused)

-- an accepted line: `ok`, a tab and a text of which this holds; or a line that is refused so
abbrev pub AnswersText : (List ℕ → Type 0) → (List ℕ → Type 0) → Bool → List ℕ → Type 0
AnswersText IsText IsRefusal true line = (text : List ℕ) × IsText text × (line ≡ codes "ok\t" ++ text)
AnswersText IsText IsRefusal false line = IsRefusal line

-- the printed line of a refusal that comes here and is not want of memory
abbrev pub IsLineOf : {F : Type 0} → F → (F → List ℕ) → (F → Type 0) → List ℕ → Type 0
IsLineOf {F} no_memory printed Refuses line = (refusal : F) × (refusal ≢ no_memory) × Refuses refusal × (line ≡ printed refusal)

abbrev pub IsRefusalLine : (Refusal → Type 0) → List ℕ → Type 0
IsRefusalLine = IsLineOf refusal_of.NoMemory refusal_line

abbrev pub IsPurlRefusalLine : (PurlFault → Type 0) → List ℕ → Type 0
IsPurlRefusalLine = IsLineOf purl_fault_of.NoMemory purl_line

abbrev pub IsCheckRefusalLine : (CheckRefusal → Type 0) → List ℕ → Type 0
IsCheckRefusalLine = IsLineOf check_refusal_of.NoMemory check_line

-- `yes` or `no`
abbrev pub decision_text : Bool → List ℕ
decision_text true = codes "yes"
decision_text false = codes "no"

-- the text of a decision of which this holds
abbrev pub IsDecided : (Bool → Type 0) → List ℕ → Type 0
IsDecided Is text = (decision : Bool) × Is decision × (text ≡ decision_text decision)

-- `to-vers`: the VERS text, which holds the same versions, or the refusal
abbrev pub AnswersRange : SchemeName → Domain → List ℕ → Bool → List ℕ → Type 0
AnswersRange name domain range = AnswersText (λ text. IsTranslated name domain range text × IsSameRange name domain range text) (IsRefusalLine (IsRefused name domain range))

abbrev pub AnswersInDomain : SchemeName → Option (Option Domain) → List ℕ → Bool → List ℕ → Type 0
AnswersInDomain name None range = IsLine (codes "no\t5 BadDomain\t-")
AnswersInDomain name (Some domain) range = AnswersRange name (chosen_domain domain name) range

abbrev pub AnswersScheme : Option SchemeName → List ℕ → List ℕ → Bool → List ℕ → Type 0
AnswersScheme None domain range = IsLine (codes "no\t4 BadScheme\t-")
AnswersScheme (Some name) domain range = AnswersInDomain name (domain_named domain) range

-- `from-vers`: the range text, which holds the same versions, or the refusal
abbrev pub AnswersBack : Option (Option Domain) → List ℕ → Bool → List ℕ → Type 0
AnswersBack None text = IsLine (codes "no\t5 BadDomain\t-")
AnswersBack (Some domain) text = AnswersText (λ range. IsFromVers domain text range × IsSameSet domain text range) (IsRefusalLine (IsFromVersRefused domain text))

-- `canon`: the canonical text, which means the same, or the refusal
abbrev pub AnswersCanon : List ℕ → Bool → List ℕ → Type 0
AnswersCanon text = AnswersText (λ canonical. IsCanon text canonical × IsSameList text canonical) (IsRefusalLine (IsCanonRefused text))

-- `has`: whether the VERS text holds the version, or the refusal
abbrev pub AnswersHas : List ℕ → List ℕ → Bool → List ℕ → Type 0
AnswersHas text version = AnswersText (IsDecided (IsHas text version)) (IsRefusalLine (IsHasRefused text version))

-- `purl`: the canonical text, or the refusal
abbrev pub AnswersPurl : List ℕ → Bool → List ℕ → Type 0
AnswersPurl text = AnswersText (IsCanonical text) (IsPurlRefusalLine (IsPurlRefused text))

-- `same`: whether what the texts spell means the same package, or the refusal of the first, or else of the second
abbrev pub AnswersSame : List ℕ → List ℕ → Bool → List ℕ → Type 0
AnswersSame a b = AnswersText (IsDecided (λ told. IsComparedAs a b (Ok told))) (IsPurlRefusalLine (λ fault. IsComparedAs a b (Err fault)))

-- `check`: whether the VERS text holds the version of the package URL, or the refusal
abbrev pub AnswersCheck : List ℕ → List ℕ → Bool → List ℕ → Type 0
AnswersCheck purl vers = AnswersText (IsDecided (IsCheck purl vers)) (IsCheckRefusalLine (IsCheckRefused purl vers))

-- the answer to a request
abbrev pub AnswersRequest : Request (List ℕ) → Bool → List ℕ → Type 0
AnswersRequest (ToVers scheme domain range) = AnswersScheme (scheme_named scheme) domain range
AnswersRequest (FromVers domain vers) = AnswersBack (domain_named domain) vers
AnswersRequest (Canon vers) = AnswersCanon vers
AnswersRequest (Has vers version) = AnswersHas vers version
AnswersRequest (Purl purl) = AnswersPurl purl
AnswersRequest (Same first second) = AnswersSame first second
AnswersRequest (Check purl vers) = AnswersCheck purl vers

-- the same where there is one; else the line is no command
abbrev pub AnswersAsked : Option (Request (List ℕ)) → Bool → List ℕ → Type 0
AnswersAsked None = IsLine (codes "no\t3 BadCommand\t-")
AnswersAsked (Some request) = AnswersRequest request

-- The answer to the line of these fields: whether it is accepted, and the answer line without its line feed.
pub record IsAnswer (fields : List (List ℕ)) (ok : Bool) (line : List ℕ) : Type 0 where
  pub asked : Option (Request (List ℕ))
  pub is : IsAsked fields asked
  pub answered : AnswersAsked asked ok line

-- a line of more than 65,536 bytes
abbrev pub IsTooLong : Bool → List ℕ → Type 0
IsTooLong = IsLine (codes "no\t1 LineTooLong\t-")

-- a line that is no text in UTF-8
abbrev pub IsNoText : Bool → List ℕ → Type 0
IsNoText = IsLine (codes "no\t2 NotText\t-")

-- The answer to a line of bytes: one of more than `most` is refused before it is looked at; then one that is no text in
-- UTF-8; any other is cut into its fields.
abbrev pub IsLineAnswer : ℕ → List ℕ → Bool → List ℕ → Type 0
IsLineAnswer most line ok text =
    ((most < length line) × IsTooLong ok text)
    ⊎ ((length line ≤ most) × ¬ (IsUtf8 line) × IsNoText ok text)
    ⊎ ((length line ≤ most) × IsUtf8 line × IsAnswer (fields_of_line line) ok text)

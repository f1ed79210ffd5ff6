-- What reading a package URL answers (ECMA-427, parsing a package URL string).
use Rattle.std.specs.Prelude.{◌≡◌, ◌≢◌, ℕ, List, Result, Ok, Err}
use Rattle.purl_core.specs.Grammar.{Parts, IsPurlWritten, WithScheme, WithType}
use Rattle.purl_core.specs.Value.{Package}
use Rattle.purl_core.specs.Spelling.{SpellsPurl}
use Rattle.purl_core.specs.Places.{components, pieces_of, IsEscapeAt, AllWhole, IsNotTextAt, AllText, IsBadPieceAt, AreKeyed, IsDuplicateAt}
use Rattle.purl_core.specs.declared.fault.PurlFault.{PurlFault}
use Rattle.purl_core.specs.declared.fault.PurlFault.TheVariants.{Scheme, BadType, Name, Escape, NotText, Qualifier, DuplicateKey, NoMemory}

-- A text is refused by the first of these that applies: no scheme; a scheme and no type; a type and no name;
-- a broken escape; a part that is no text; a piece that is no qualifier; a key that stands twice.
abbrev pub IsRefused : List ℕ → PurlFault → Type 0
IsRefused text Scheme = ¬ (WithScheme text)
IsRefused text BadType = WithScheme text × ¬ (WithType text)
IsRefused text Name = WithType text × ((parts : Parts) → ¬ (IsPurlWritten text parts))
IsRefused text (Escape at) = (parts : Parts) × IsPurlWritten text parts × IsEscapeAt (components parts) at
IsRefused text (NotText at) = (parts : Parts) × IsPurlWritten text parts × AllWhole (components parts) × IsNotTextAt (components parts) at
IsRefused text (Qualifier at) = (parts : Parts) × IsPurlWritten text parts × AllWhole (components parts) × AllText (components parts) × IsBadPieceAt (pieces_of parts) at
IsRefused text (DuplicateKey at) = (parts : Parts) × IsPurlWritten text parts × AllWhole (components parts) × AllText (components parts)
    × ((keyed : List (ℕ × (List ℕ × List ℕ))) × AreKeyed (pieces_of parts) keyed × IsDuplicateAt keyed at)
IsRefused text NoMemory = Unit {0}

-- the package URL that the text spells, or the first refusal
abbrev pub IsPurlRead : List ℕ → Result Package PurlFault → Type 0
IsPurlRead text (Ok p) = SpellsPurl text p
IsPurlRead text (Err fault) = IsRefused text fault

-- a text that is refused for another cause than want of memory spells no package URL
abbrev pub RefusedIsUnspelled : Type 0
RefusedIsUnspelled = (text : List ℕ) (fault : PurlFault) (p : Package) → IsRefused text fault → SpellsPurl text p → fault ≡ NoMemory

-- want of memory aside, a text is refused for one cause, at one place
abbrev pub OneRefusal : Type 0
OneRefusal = (text : List ℕ) (fault other : PurlFault) → IsRefused text fault → IsRefused text other → fault ≢ NoMemory → other ≢ NoMemory → fault ≡ other

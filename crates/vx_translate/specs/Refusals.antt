-- What the faults of the crates below are called where a translation is refused for them.
use Rattle.vx_scheme.specs.declared.range_fault.RangeFault.{RangeFault}
use Rattle.vx_scheme.specs.declared.range_fault.RangeFault.TheVariants as fault_of
use Rattle.vx_scheme.specs.declared.back_fault.BackFault.{BackFault}
use Rattle.vx_scheme.specs.declared.back_fault.BackFault.TheVariants as back_fault_of
use Rattle.vx_vers.specs.declared.fault.VersFault.{VersFault}
use Rattle.vx_vers.specs.declared.fault.VersFault.TheVariants as vers_fault_of
use Rattle.purl_core.specs.declared.fault.PurlFault.{PurlFault}
use Rattle.purl_core.specs.declared.fault.PurlFault.TheVariants as purl_fault_of
use Rattle.vx_translate.specs.declared.check_refusal.CheckRefusal.{CheckRefusal}
use Rattle.vx_translate.specs.declared.check_refusal.CheckRefusal.TheVariants as check_refusal
use Rattle.vx_translate.specs.declared.refusal.BackKind.TheVariants as kind
use Rattle.vx_translate.specs.declared.refusal.VersPart.TheVariants as part
use Rattle.vx_translate.specs.declared.refusal.Refusal.{Refusal}
use Rattle.vx_translate.specs.declared.refusal.Refusal.TheVariants as refusal

-- a fault of a range language
abbrev pub refusal_of : RangeFault → Refusal
refusal_of (fault_of.Syntax at) = refusal.Syntax at
refusal_of (fault_of.Numeral at) = refusal.Numeral at
refusal_of (fault_of.NoEndpoint kind at) = refusal.NoEndpoint kind at
refusal_of fault_of.NoMemory = refusal.NoMemory

-- a fault of a VERS text; the number of a constraint is 0 where the whole text is meant
abbrev pub refusal_of_vers : VersFault → Refusal
refusal_of_vers vers_fault_of.Head = refusal.BadVers part.Head 0
refusal_of_vers (vers_fault_of.Constraint k) = refusal.BadVers part.Constraint k
refusal_of_vers (vers_fault_of.Version k) = refusal.BadVers part.Version k
refusal_of_vers (vers_fault_of.Duplicate k) = refusal.BadVers part.Duplicate k
refusal_of_vers vers_fault_of.StarNotAlone = refusal.BadVers part.StarNotAlone 0
refusal_of_vers (vers_fault_of.Numeral k) = refusal.BadVers part.Numeral k
refusal_of_vers vers_fault_of.NoMemory = refusal.NoMemory

-- a fault of the way back
abbrev pub refusal_of_back : BackFault → Refusal
refusal_of_back (back_fault_of.NotOneInterval k) = refusal.NoNative kind.NotOneInterval k
refusal_of_back (back_fault_of.PointHole k) = refusal.NoNative kind.PointHole k
refusal_of_back (back_fault_of.LocalBound k) = refusal.NoNative kind.LocalBound k
refusal_of_back (back_fault_of.LocalsApart k) = refusal.NoNative kind.LocalsApart k
refusal_of_back (back_fault_of.NothingInDomain k) = refusal.NoNative kind.NothingInDomain k
refusal_of_back back_fault_of.NoMemory = refusal.NoMemory

-- a refusal of `has`, where a check is refused for it
abbrev pub check_refusal_of : Refusal → CheckRefusal
check_refusal_of refusal.NoMemory = check_refusal.NoMemory
check_refusal_of other = check_refusal.Vers other

-- a fault of a package URL
abbrev pub check_refusal_of_purl : PurlFault → CheckRefusal
check_refusal_of_purl purl_fault_of.NoMemory = check_refusal.NoMemory
check_refusal_of_purl other = check_refusal.BadPurl other

-- The exit of a `?`: a fault of a part is a fault of the whole.
use Rattle.std.proofs.Common.{List, ℕ, Result, Ok, Err, IfErr}
use Rattle.vx_scheme.specs.Scheme.{Refuses}
use Rattle.vx_scheme.specs.Values.{Faults, Gives}
use Rattle.vx_scheme.specs.declared.version_fault.VersionFault.{VersionFault}
use Rattle.vx_scheme.specs.declared.version_fault.VersionFault.TheVariants.{NotAVersion, Numeral, NoMemory}

-- what a part answers, the whole may, where a whole within the limits has the part within them
pub part_faults : {within within' : Type 0} (e : VersionFault) → (within' → within) → Faults within e → Faults within' e
part_faults NotAVersion part h = absurd h
part_faults Numeral part h = λ w. h (part w)
part_faults NoMemory part h = tt

-- what making the value that a text spells refuses, the text refuses
pub refuses_by_giving : {V : Type 0} (Spells : List ℕ → V → Type 0) (IsWithin : V → Type 0) (text : List ℕ) (v : V) → Spells text v → (r : Result V VersionFault) → Gives IsWithin r v → IfErr r (Refuses Spells IsWithin text)
refuses_by_giving Spells IsWithin text v s (Ok x) h = tt
refuses_by_giving Spells IsWithin text v s (Err NotAVersion) h = absurd h
refuses_by_giving Spells IsWithin text v s (Err Numeral) h = record { version = v; spelled = s; past = h }
refuses_by_giving Spells IsWithin text v s (Err NoMemory) h = tt

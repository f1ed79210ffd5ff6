-- What making a value of a text's parts answers.
use Rattle.std.specs.Prelude.{◌≡◌, Result, Ok, Err}
use Rattle.vx_scheme.specs.declared.version_fault.VersionFault.{VersionFault}
use Rattle.vx_scheme.specs.declared.version_fault.VersionFault.TheVariants.{NotAVersion, Numeral, NoMemory}

-- when a fault comes: `Numeral` only where what the parts stand for is not within the limits; want of memory is free
abbrev pub Faults : Type 0 → VersionFault → Type 0
Faults within NotAVersion = ⊥
Faults within Numeral = ¬ within
Faults within NoMemory = Unit {0}

-- the answer is what the parts stand for, which is then within the limits, or a fault
abbrev pub Gives : {Y : Type 0} → (Y → Type 0) → Result Y VersionFault → Y → Type 0
Gives IsWithin (Ok x) y = (x ≡ y) × IsWithin y
Gives IsWithin (Err fault) y = Faults (IsWithin y) fault

-- How a way through a text begins, and how it ends.
use Rattle.std.specs.Prelude.{◌≡◌, ◌⊎◌, Result, Ok, Err, Some, None}
use Rattle.vx_scheme.specs.declared.range_fault.RangeFault.{RangeFault}
use Rattle.vx_scheme.specs.declared.range_fault.RangeFault.TheVariants.{Syntax, Numeral, NoEndpoint, NoMemory}
use Rattle.vx_range.specs.declared.findings.Findings.{Findings}
use Rattle.vx_range.specs.Steps.Found.{IsClear}

-- nothing is found, and the next mark is 0
abbrev pub start : Findings
start = record { marks = 0; past = None; endless = None; too_high = None }

-- the first refusal of what was found: a numeral past the limit, else a construct without an end, else one that cannot be
-- raised
abbrev pub EndsWith : Findings → Result (Unit {0}) RangeFault → Type 0
EndsWith findings (Ok done) = IsClear findings
EndsWith findings (Err (Syntax at)) = ⊥
EndsWith findings (Err (Numeral at)) =
    (findings.past ≡ Some at) ⊎ ((findings.past ≡ None) × (findings.endless ≡ None) × (findings.too_high ≡ Some at))
EndsWith findings (Err (NoEndpoint kind at)) = (findings.past ≡ None) × (findings.endless ≡ Some (kind, at))
EndsWith findings (Err NoMemory) = ⊥

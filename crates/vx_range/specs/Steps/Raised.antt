-- What is made by raising a number, which goes only within a limit.
use Rattle.std.specs.Prelude.{◌≡◌, Bool, true, false}
use Rattle.vx_scheme.specs.declared.step_fault.StepFault.{StepFault}
use Rattle.vx_scheme.specs.declared.step_fault.StepFault.TheVariants.{TooLarge}

-- the number can be raised, and what is made is what was wanted
abbrev pub IsRaised : {A : Type 0} → Bool → A → A → Type 0
IsRaised raisable wanted made = (raisable ≡ true) × (made ≡ wanted)

-- it cannot be raised, where that is the fault
abbrev pub IsTooLarge : Bool → StepFault → Type 0
IsTooLarge raisable fault = fault ≡ TooLarge → raisable ≡ false

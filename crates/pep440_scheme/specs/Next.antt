-- Versions made of others by raising a number, by the order of PEP 440, "Summary of permitted suffixes and relative ordering": the
-- next public version, the next release, the next pre-release; and what is lowest among the versions that begin alike.
use Rattle.std.specs.Prelude.{◌≡◌, ◌≢◌, ◌+◌, ◌-◌, ◌^◌, ℕ, List, [], ◌∷◌, Option, Some, None}
use Rattle.std.specs.Option.{option_map}
use Rattle.vx_scheme.specs.declared.step_fault.StepFault.{StepFault}
use Rattle.vx_scheme.specs.declared.step_fault.StepFault.TheVariants.{TooLarge, NoMemory}
use Rattle.pep440_scheme.specs.declared.version.PrePart.{PrePart}
use Rattle.std.specs.declared.cmp.Ordering.TheVariants.{Less, Equal}
use Rattle.pep440_scheme.specs.Version.{Fields, public_of}
use Rattle.pep440_scheme.specs.Order.{order_of}

-- the version with other post and dev parts, and without a label
abbrev pub with_ends : Fields → Option ℕ → Option ℕ → Fields
with_ends v post dev = record { epoch = v.epoch; release = v.release; pre = v.pre; post = post; dev = dev; local = [] }

-- The next public version: `.devN` becomes `.devN+1`; where there is none, `.postN` becomes `.postN+1.dev0`; and where there is
-- neither, `.post0.dev0` is added.
abbrev pub succ_by : Fields → Option ℕ → Option ℕ → Fields
succ_by v post (Some n) = with_ends v post (Some (n + 1))
succ_by v (Some n) None = with_ends v (Some (n + 1)) (Some 0)
succ_by v None None = with_ends v (Some 0) (Some 0)

abbrev pub succ_of : Fields → Fields
succ_of v = succ_by v v.post v.dev

-- the number that is raised for it, where one is
abbrev pub raised_by : Option ℕ → Option ℕ → Option ℕ
raised_by post (Some n) = Some n
raised_by post None = post

abbrev pub raised_of : Fields → Option ℕ
raised_of v = raised_by v.post v.dev

-- the last number of a release
abbrev pub last_number : List ℕ → Option ℕ
last_number [] = None
last_number (n ∷ []) = Some n
last_number (n ∷ m ∷ release) = last_number (m ∷ release)

-- the release with its last number raised by one
abbrev pub bumped : List ℕ → List ℕ
bumped [] = []
bumped (n ∷ []) = (n + 1) ∷ []
bumped (n ∷ m ∷ release) = n ∷ bumped (m ∷ release)

-- the epoch and the release with its last number raised by one, and nothing else
abbrev pub bump_of : Fields → Fields
bump_of v = record { epoch = v.epoch; release = bumped v.release; pre = None; post = None; dev = None; local = [] }

-- the pre-release with its number raised by one
abbrev pub raised_pre : PrePart → PrePart
raised_pre pre = record { kind = pre.kind; number = pre.number + 1 }

-- the next pre-release of its kind, with `.dev0`
abbrev pub next_pre_of : Fields → Fields
next_pre_of v = record { epoch = v.epoch; release = v.release; pre = option_map raised_pre v.pre; post = None; dev = Some 0; local = [] }

-- the number of the pre-release, where there is one
abbrev pub pre_number : Option PrePart → Option ℕ
pre_number = option_map (λ pre. pre.number)

-- the same version with `.dev0`
abbrev pub dev0_of : Fields → Fields
dev0_of v = with_ends v v.post (Some 0)

-- the number, where there is one, is the greatest that fits into 128 bits
abbrev pub IsAtLimit : Option ℕ → Type 0
IsAtLimit None = ⊥
IsAtLimit (Some n) = n ≡ 2 ^ 128 - 1

-- when each fault of a step comes that raises this number; want of memory is free
abbrev pub StepRefuses : Option ℕ → StepFault → Type 0
StepRefuses raised TooLarge = IsAtLimit raised
StepRefuses raised NoMemory = Unit {0}

-- the version is at least this one, and below that one
pub record IsFrom (low high v : Fields) : Type 0 where
  pub at_least : order_of v low ≢ Less
  pub below : order_of v high ≡ Less

-- "Local version identifiers": the version is this public one, or it with a label; in the order, since releases count
-- without the zeros at their ends
abbrev pub IsLocalOf : Fields → Fields → Type 0
IsLocalOf public v = order_of (public_of v) public ≡ Equal

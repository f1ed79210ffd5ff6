-- Sources and sinks: what their calls do to the bytes that they tell, and when a fault may be answered.
use Rattle.std.specs.Prelude.{◌≡◌, ◌⊎◌, ℕ, ◌-◌, ◌^◌, ◌<◌, ◌≤◌, List, ◌++◌, drop, Option, Result, Ok, Err, MatchResult, IfOk, OnOk, OnErr}
use Rattle.std.specs.List.{FoldsTo}
use Rattle.std.specs.Io.KnownBytes.{Appends}
use Rattle.vx_lines.specs.declared.outside.Failed.{Failed}

-- a count of faults is higher than before, or stands at the end of its type
abbrev pub Rose : ℕ → ℕ → Type 0
Rose before now = (before < now) ⊎ (now ≡ 2 ^ 64 - 1)

-- a count of faults never falls, a failure comes only where it rose, and success leaves it
pub record HasCause {T E : Type 0} (before now : ℕ) (result : Result T E) : Type 0 where
  pub later : before ≤ now
  pub failed : OnErr result (Rose before now)
  pub kept : OnOk result (now ≡ before)

-- the bytes of the buffer from the n-th on stay
abbrev pub KeepsRest : {E : Type 0} → Result ℕ E → List ℕ → List ℕ → Type 0
KeepsRest result old new = IfOk result (λ n. drop n new ≡ drop n old)

-- What one call of a sink does to it, by the bytes that it is given and its answer.
abbrev pub WriteGives : Type 0 → Type 1
WriteGives W = W → List ℕ → Result ℕ Failed → W → Type 0

-- a call with these bytes took so many of them
abbrev pub TakesSome : {W : Type 0} → WriteGives W → W → List ℕ × ℕ → W → Type 0
TakesSome gives old call new = gives old call.0 (Ok call.1) new

-- the sink was called any number of times, and no call failed
abbrev pub Succeeds : {W : Type 0} → WriteGives W → W → W → Type 0
Succeeds {W} gives old new = (calls : List (List ℕ × ℕ)) × FoldsTo (TakesSome gives) old calls new

-- the sink was called any number of times, and the last call was the first that failed
abbrev pub FailsAtLast : {W : Type 0} → WriteGives W → W → W → Type 0
FailsAtLast {W} gives old new =
    (before : W) × Succeeds gives old before × ((bytes : List ℕ) × (fault : Failed) × gives before bytes (Err fault) new)

-- the first call that fails is the last
abbrev pub StopsAtFault : {T E W : Type 0} → WriteGives W → W → W → Result T E → Type 0
StopsAtFault gives old new result = MatchResult result (λ _. Succeeds gives old new) (λ _. FailsAtLast gives old new)

-- known bytes grow by a front of these
pub record AppendsFront (old new : Option (List ℕ)) (bytes : List ℕ) : Type 0 where
  pub front : List ℕ
  pub back : List ℕ
  pub whole : front ++ back ≡ bytes
  pub grown : Appends old new front

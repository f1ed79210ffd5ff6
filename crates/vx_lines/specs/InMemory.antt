-- What contracts see of the source and the sink in memory.
use Rattle.std.specs.Prelude.{◌≡◌, ℕ, ◌+◌, ◌-◌, ◌^◌, ◌++◌, min, List, length, Bool, drop, take, ◌==◌, Result, MatchResult}
use Rattle.std.specs.List.{list_any}
use Rattle.vx_lines.specs.declared.outside.Failed.{Failed}

-- which calls fail, how many were made, how many failed
pub record Calls : Type 0 where
  pub fails : List ℕ
  pub made : ℕ
  pub faults : ℕ

-- what is left, how much a call gives at most, and its calls
pub record Supply : Type 0 where
  pub left : List ℕ
  pub step : ℕ
  pub calls : Calls

-- what it holds, how much more it has room for, and its calls
pub record Store : Type 0 where
  pub bytes : List ℕ
  pub room : ℕ
  pub calls : Calls

-- none was made yet
abbrev pub no_calls : List ℕ → Calls
no_calls fails = record { fails = fails; made = 0; faults = 0 }

-- the number of the next call, from 1; it stays at the end of its type
abbrev pub next_call : Calls → ℕ
next_call calls = min (calls.made + 1) (2 ^ 64 - 1)

-- the next call is listed
abbrev pub is_listed : Calls → Bool
is_listed calls = list_any (λ n. n == next_call calls) calls.fails

-- one call more
abbrev pub with_call : Calls → Calls
with_call calls = record { fails = calls.fails; made = next_call calls; faults = calls.faults }

-- one more that failed: one more fault, up to the end of the type
abbrev pub with_fault : Calls → Calls
with_fault calls = record { fails = calls.fails; made = next_call calls; faults = min (calls.faults + 1) (2 ^ 64 - 1) }

-- a write that took this piece
abbrev pub with_piece : Store → List ℕ → Store
with_piece store piece = record { bytes = store.bytes ++ piece; room = store.room - length piece; calls = with_call store.calls }

-- a write that failed
abbrev pub with_failed_write : Store → Store
with_failed_write store = record { bytes = store.bytes; room = store.room; calls = with_fault store.calls }

-- what a write of these bytes does to it: it takes so many of them, or it fails
abbrev pub IsWritten : Store → List ℕ → Result ℕ Failed → Store → Type 0
IsWritten old bytes result new = MatchResult result (λ n. new ≡ with_piece old (take n bytes)) (λ _. new ≡ with_failed_write old)

-- a read that gave the first n bytes
abbrev pub without_front : Supply → ℕ → Supply
without_front supply n = record { left = drop n supply.left; step = supply.step; calls = with_call supply.calls }

-- a read that failed
abbrev pub with_failed_read : Supply → Supply
with_failed_read supply = record { left = supply.left; step = supply.step; calls = with_fault supply.calls }

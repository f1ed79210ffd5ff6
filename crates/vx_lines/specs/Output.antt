-- The output of a run over the lines of a source: the lines, each answered, in order.
use Rattle.std.specs.Prelude.{◌≡◌, ◌≢◌, ◌⊎◌, ◌==◌, ℕ, ◌-◌, ◌<◌, ◌≤◌, List, [], ◌∷◌, ◌++◌, Bool, true, false, length, take, Option, if◌then◌else◌, flat_map, ⊤}
use Rattle.std.specs.List.{AllZip, list_all, list_any, onto_first}
use Rattle.std.specs.Io.KnownBytes.{Appends, Consumes, IsAtEnd}
use Rattle.vx_spec.specs.Marks.{Lacks}
use Rattle.vx_lines.specs.Lines.{line_feed}
use Rattle.vx_lines.specs.Outside.{AppendsFront}
use Rattle.vx_lines.specs.declared.loop_end.LoopEnd.{LoopEnd}
use Rattle.vx_lines.specs.declared.loop_end.LoopEnd.TheVariants as end_of

-- the lines of bytes: each line feed ends one, and bytes behind the last line feed are one more where there are any
abbrev pub lines : List ℕ → List (List ℕ)
lines [] = []
lines (byte ∷ bytes) = if byte == line_feed then [] ∷ lines bytes else onto_first byte (lines bytes)

-- the part up to the last line feed and with it, or nothing
abbrev pub ended : List ℕ → List ℕ
ended [] = []
ended (byte ∷ bytes) = if list_any (λ b. b == line_feed) (byte ∷ bytes) then byte ∷ ended bytes else []

-- Whether a line is answered so: whether the answer line is an accepted line's, and the answer line without its line
-- feed.
abbrev pub Says : Type 1
Says = List ℕ → Bool → List ℕ → Type 0

-- the answers to the lines, in order
abbrev pub AnswersLines : Says → List (List ℕ) → List (Bool × List ℕ) → Type 0
AnswersLines says lines answers = AllZip (λ line answer. says line answer.0 answer.1) lines answers

-- the answer lines in order, each with a line feed
abbrev pub output : List (Bool × List ℕ) → List ℕ
output answers = flat_map (λ answer. answer.1 ++ line_feed ∷ []) answers

-- every answer line is an accepted line's
abbrev pub all_ok : List (Bool × List ℕ) → Bool
all_ok answers = list_all (λ answer. answer.0) answers

-- The output of bytes: the answer lines of their lines, in order, each with a line feed. `ok` says that every answer is
-- an accepted line's.
pub record IsOutput (says : Says) (bytes : List ℕ) (ok : Bool) (out : List ℕ) : Type 0 where
  pub answers : List (Bool × List ℕ)
  pub each : AnswersLines says (lines bytes) answers
  pub accepted : ok ≡ all_ok answers
  pub printed : out ≡ output answers

-- known bytes grow by exactly the output of these
abbrev pub GetsOutput : Says → List ℕ → Bool → Option (List ℕ) → Option (List ℕ) → Type 0
GetsOutput says bytes ok old new = (out : List ℕ) × IsOutput says bytes ok out × Appends old new out

-- known bytes grow by the output of these, and maybe more
abbrev pub GetsMore : Says → List ℕ → Option (List ℕ) → Option (List ℕ) → Type 0
GetsMore says bytes old new = (ok : Bool) × (out : List ℕ) × IsOutput says bytes ok out × ((more : List ℕ) × Appends old new (out ++ more))

-- Known bytes grow by a front of the output of the first lines of these. A line feed ends each of those lines, but for
-- the last one where it ends the bytes and the source has nothing left.
pub record GetsFront (says : Says) (bytes : List ℕ) (now old new : Option (List ℕ)) : Type 0 where
  pub answered : List ℕ
  pub rest : List ℕ
  pub split : bytes ≡ answered ++ rest
  pub whole : ((rest ≡ []) × IsAtEnd now) ⊎ (ended answered ≡ answered)
  pub ok : Bool
  pub out : List ℕ
  pub output : IsOutput says answered ok out
  pub front : AppendsFront old new out

-- a line with its line feed, or one that ends the bytes
abbrev pub IsOneLine : List ℕ → List ℕ → Type 0
IsOneLine line behind =
    ((front : List ℕ) × (line ≡ front ++ line_feed ∷ []) × Lacks line_feed front) ⊎ (Lacks line_feed line × (behind ≡ []))

-- Nothing was asked for long before it was answered: the answers of whole lines are written, and behind the line after
-- these at most `piece` bytes were taken.
pub record KeepsUp (says : Says) (piece : ℕ) (bytes : List ℕ) (old new : Option (List ℕ)) : Type 0 where
  pub done : List ℕ
  pub line : List ℕ
  pub behind : List ℕ
  pub split : bytes ≡ done ++ (line ++ behind)
  pub whole : ended done ≡ done
  pub one : IsOneLine line behind
  pub few : length behind ≤ piece
  pub got : GetsMore says done old new

-- What the sink got and the source has left, by the bytes that were taken.
-- After `Done` and `Refused` the source is at its end, and the sink got exactly the output. After `ReadFault` it got
-- exactly that of the lines that a line feed ends. At the limit it got that of all lines that end before the last
-- `piece` bytes, and nothing of a line that no line feed ends.
abbrev pub EndsAs : Says → ℕ → ℕ → LoopEnd → List ℕ → Option (List ℕ) → Option (List ℕ) → Option (List ℕ) → Type 0
EndsAs says piece limit end_of.Done bytes now old new = IsAtEnd now × (length bytes < limit) × GetsOutput says bytes true old new
EndsAs says piece limit end_of.Refused bytes now old new = IsAtEnd now × (length bytes < limit) × GetsOutput says bytes false old new
EndsAs says piece limit end_of.ReadFault bytes now old new =
    (length bytes < limit) × ((ok : Bool) × GetsOutput says (ended bytes) ok old new)
EndsAs says piece limit end_of.InputLimit bytes now old new =
    (length bytes ≡ limit)
    × GetsMore says (ended (take (length bytes - piece) bytes)) old new
    × GetsFront says (ended bytes) now old new
EndsAs says piece limit end_of.WriteFault bytes now old new = KeepsUp says piece bytes old new
EndsAs says piece limit end_of.NoMemory bytes now old new = ⊤

-- A run over the lines of a source took these bytes and ended so. Whatever it ended with, the sink got a front of the
-- output, and nothing of a line that no line feed ends, but for the last line where the source has nothing left. So many
-- bytes as the limit were taken exactly where the run ended with `InputLimit`.
pub record Ran (says : Says) (piece limit : ℕ) (end : LoopEnd) (before now old new : Option (List ℕ)) : Type 0 where
  pub bytes : List ℕ
  pub consumed : Consumes before now bytes
  pub below : end ≢ end_of.InputLimit → length bytes < limit
  pub ends : EndsAs says piece limit end bytes now old new
  pub front : GetsFront says bytes now old new

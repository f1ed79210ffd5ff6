-- What a run ends with, and what its sink gets.
use Rattle.std.specs.Prelude.{true, ◌≡◌, ◌≢◌, ◌↔◌, ◌⊎◌, ◌<◌, ◌≤◌, ◌^◌, ℕ, List, [], ◌∷◌, ◌++◌, Bool, Option, Result, Ok, Err, if◌then◌else◌, codes}
use Rattle.std.specs.Io.KnownBytes.{Appends}
use Rattle.vx_batch.specs.Answers.{IsAnswer, IsLineAnswer, IsTooLong}
use Rattle.vx_batch.specs.Drill.{IsDrillAnswer}
use Rattle.vx_batch.specs.Requests.{fields_of}
use Rattle.vx_batch.specs.Translations.{Says}
use Rattle.vx_batch.specs.declared.request.Request.{Request}
use Rattle.vx_batch.specs.Fields.{fields_of_line, joined_length}
use Rattle.vx_lines.specs.Outside.{AppendsFront, FailsAtLast, Rose, Succeeds, WriteGives}
use Rattle.vx_lines.specs.Output.{Ran}
use Rattle.vx_lines.specs.declared.loop_end.LoopEnd.{LoopEnd}
use Rattle.vx_lines.specs.declared.loop_end.LoopEnd.TheVariants as end_of
use Rattle.vx_cli.specs.Jobs.{IsJob, IsUsageFault}
use Rattle.vx_cli.specs.declared.job.Job.TheVariants.{Line, Batch, Drill}
use Rattle.vx_cli.specs.declared.status.Status.{Status}
use Rattle.vx_cli.specs.declared.status.Status.TheVariants as named
use Rattle.vx_cli.specs.declared.writing.PutFault.{PutFault}
use Rattle.vx_cli.specs.declared.writing.PutFault.TheVariants as fault_of

-- a line of an output: the text and a line feed
abbrev pub line_of : List ℕ → List ℕ
line_of text = text ++ codes "\n"

-- what a run that wrote its whole answer ends with, by whether the answer is an accepted line's
abbrev pub ended_with : Bool → Status
ended_with ok = if ok then named.Done else named.Refused

-- what a run ends with, by how its answer was written
abbrev pub put_status : Result Bool PutFault → Status
put_status (Ok ok) = ended_with ok
put_status (Err fault_of.Failed) = named.WriteFault
put_status (Err fault_of.NoMemory) = named.NoMemory

-- what a run over lines ends with
abbrev pub status_of : LoopEnd → Status
status_of end_of.Done = named.Done
status_of end_of.Refused = named.Refused
status_of end_of.ReadFault = named.ReadFault
status_of end_of.WriteFault = named.WriteFault
status_of end_of.NoMemory = named.NoMemory
status_of end_of.InputLimit = named.InputLimit

-- The answer to the line of the words: one of more than 65,536 bytes is refused before it is looked at.
abbrev pub IsWordsAnswer : List (List ℕ) → Bool → List ℕ → Type 0
IsWordsAnswer words ok text =
    ((65536 < joined_length words) × IsTooLong ok text)
    ⊎ ((joined_length words ≤ 65536) × IsAnswer words ok text)

-- known bytes grow by a text of which this holds and a line feed, and nothing else
pub record AppendsSuch (Is : List ℕ → Type 0) (old new : Option (List ℕ)) : Type 0 where
  pub line : List ℕ
  pub is : Is line
  pub grown : Appends old new (line_of line)

-- known bytes grow by a front of these, or by nothing
pub record AppendsSuchFront (Is : List ℕ → Type 0) (old new : Option (List ℕ)) : Type 0 where
  pub line : List ℕ
  pub is : Is line
  pub grown : AppendsFront old new (line_of line)

-- What a run over these words did that ended with this status: what `run` promises, in one record, of the source and the
-- sink before and after it.
pub record RunsSo {R W : Type 0} (left : R → Option (List ℕ)) (read_faults : R → ℕ) (held : W → Option (List ℕ)) (write_faults : W → ℕ)
    (gives : WriteGives W) (words : List (List ℕ)) (status : Status) (source source' : R) (sink sink' : W) : Type 0 where
  pub usage : (status ≡ named.Usage) ↔ IsUsageFault words
  pub untouched : status ≡ named.Usage → (source' ≡ source) × (sink' ≡ sink)
  pub line : (request : Request (List ℕ)) → IsJob words (Line request) → (ok : Bool) → status ≡ ended_with ok → AppendsSuch (IsWordsAnswer words ok) (held sink) (held sink')
  pub line_front : (request : Request (List ℕ)) → IsJob words (Line request) → (sink' ≡ sink) ⊎ ((ok : Bool) × AppendsSuchFront (IsWordsAnswer words ok) (held sink) (held sink'))
  pub line_unread : (request : Request (List ℕ)) → IsJob words (Line request) → source' ≡ source
  pub says : (request : Request (List ℕ)) → IsJob words (Line request) → status ≡ named.Done → AppendsSuch (Says request) (held sink) (held sink')
  pub batch : IsJob words Batch → (end : LoopEnd) × (status ≡ status_of end) × Ran (IsLineAnswer 65536) 4096 (2 ^ 30) end (left source) (left source') (held sink) (held sink')
  pub batch_says : (line text : List ℕ) (request : Request (List ℕ)) → IsLineAnswer 65536 line true text → fields_of request ≡ fields_of_line line → Says request text
  pub drill : (count : ℕ) → IsJob words (Drill count) → (ok : Bool) → status ≡ ended_with ok → AppendsSuch (IsDrillAnswer count ok) (held sink) (held sink')
  pub drill_front : (count : ℕ) → IsJob words (Drill count) → (sink' ≡ sink) ⊎ ((ok : Bool) × AppendsSuchFront (IsDrillAnswer count ok) (held sink) (held sink'))
  pub drill_unread : (count : ℕ) → IsJob words (Drill count) → source' ≡ source
  pub read_fault : status ≡ named.ReadFault → IsJob words Batch × Rose (read_faults source) (read_faults source')
  pub no_read_fault : status ≢ named.ReadFault → read_faults source' ≡ read_faults source
  pub write_fault : status ≡ named.WriteFault → Rose (write_faults sink) (write_faults sink')
  pub no_write_fault : status ≢ named.WriteFault → write_faults sink' ≡ write_faults sink
  pub write_fails : status ≡ named.WriteFault → FailsAtLast gives sink sink'
  pub writes : status ≢ named.WriteFault → Succeeds gives sink sink'
  pub limit : status ≡ named.InputLimit → IsJob words Batch

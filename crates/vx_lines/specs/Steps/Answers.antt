-- The steps of a run over the lines of a source: how bytes are cut at line feeds, and what was read, answered and
-- written when it ends.
use Rattle.std.specs.Prelude.{◌≡◌, ℕ, ◌+◌, ◌-◌, ◌<◌, ◌≤◌, List, [], ◌∷◌, ◌++◌, ◌⊎◌, Bool, true, false, length, take, Option, flat_map}
use Rattle.std.specs.List.{AllByRecursion}
use Rattle.std.specs.Io.KnownBytes.{Appends, Consumes, IsAtEnd}
use Rattle.vx_spec.specs.Marks.{Lacks}
use Rattle.vx_lines.specs.Lines.{line_feed, FitsLine}
use Rattle.vx_lines.specs.Output.{Says, AnswersLines, output, all_ok}
use Rattle.vx_lines.specs.Outside.{AppendsFront}
use Rattle.vx_lines.specs.declared.loop_end.LoopEnd.{LoopEnd}
use Rattle.vx_lines.specs.declared.loop_end.LoopEnd.TheVariants.{Done, Refused, ReadFault, WriteFault, NoMemory, InputLimit}
use Rattle.vx_lines.specs.declared.next_line.NextLine.{NextLine}
use Rattle.vx_lines.specs.declared.next_line.NextLine.TheVariants as next_of

-- the lines, each with its line feed
abbrev pub with_feeds : List (List ℕ) → List ℕ
with_feeds lines = flat_map (λ line. line ++ line_feed ∷ []) lines

-- bytes behind the last line feed are a line where there are any
abbrev pub last_line : List ℕ → List (List ℕ)
last_line [] = []
last_line (byte ∷ bytes) = (byte ∷ bytes) ∷ []

-- the bytes are these lines with their line feeds, and a rest without one
pub record IsCutAtFeeds (bytes : List ℕ) (lines : List (List ℕ)) (rest : List ℕ) : Type 0 where
  pub joined : bytes ≡ with_feeds lines ++ rest
  pub each : AllByRecursion (Lacks line_feed) lines
  pub none : Lacks line_feed rest

-- The lines of the bytes: each line feed ends one, and what stands behind the last line feed is one more where there is
-- anything.
pub record IsLines (bytes : List ℕ) (lines : List (List ℕ)) : Type 0 where
  pub whole : List (List ℕ)
  pub rest : List ℕ
  pub cut : IsCutAtFeeds bytes whole rest
  pub are : lines ≡ whole ++ last_line rest

-- the lines stand at the front of the bytes, each with its line feed; or they are all, and the source has nothing left
abbrev pub HasLines : List ℕ → List (List ℕ) → Option (List ℕ) → Type 0
HasLines bytes lines now =
    ((rest : List ℕ) × (bytes ≡ with_feeds lines ++ rest) × AllByRecursion (Lacks line_feed) lines) ⊎ (IsLines bytes lines × IsAtEnd now)

-- The source was read to its end, below the limit, and the sink got the answers to its lines, in order, and nothing
-- else.
pub record AnswersAll (says : Says) (limit : ℕ) (ok : Bool) (before now old new : Option (List ℕ)) : Type 0 where
  pub taken : List ℕ
  pub consumed : Consumes before now taken
  pub at_end : IsAtEnd now
  pub below : length taken < limit
  pub lines : List (List ℕ)
  pub are : IsLines taken lines
  pub answers : List (Bool × List ℕ)
  pub answered : AnswersLines says lines answers
  pub all : ok ≡ all_ok answers
  pub grown : Appends old new (output answers)

-- the sink got exactly the answers to the lines that a line feed ends
pub record AnswersEnded (says : Says) (limit : ℕ) (before now old new : Option (List ℕ)) : Type 0 where
  pub taken : List ℕ
  pub consumed : Consumes before now taken
  pub lines : List (List ℕ)
  pub rest : List ℕ
  pub cut : IsCutAtFeeds taken lines rest
  pub below : length taken < limit
  pub answers : List (Bool × List ℕ)
  pub answered : AnswersLines says lines answers
  pub grown : Appends old new (output answers)

-- The limit was reached. The sink got the answers to the first lines, which a line feed ends, and to all of those that
-- end before the last `piece` bytes.
pub record AnswersUpTo (says : Says) (limit piece : ℕ) (before now old new : Option (List ℕ)) : Type 0 where
  pub taken : List ℕ
  pub consumed : Consumes before now taken
  pub full : length taken ≡ limit
  pub lines : List (List ℕ)
  pub rest : List ℕ
  pub joined : taken ≡ with_feeds lines ++ rest
  pub each : AllByRecursion (Lacks line_feed) lines
  pub none : Lacks line_feed (take (length rest - piece) rest)
  pub answers : List (Bool × List ℕ)
  pub answered : AnswersLines says lines answers
  pub grown : Appends old new (output answers)

-- The sink got the answers to the first lines, `answers`, and a front of those to the lines that follow. Of the bytes
-- behind the first of these at most `piece` were taken.
pub record AnswersBehind (says : Says) (limit piece : ℕ) (before now old new : Option (List ℕ)) : Type 0 where
  pub taken : List ℕ
  pub consumed : Consumes before now taken
  pub below : length taken < limit
  pub lines : List (List ℕ)
  pub next : List ℕ
  pub others : List (List ℕ)
  pub at_front : HasLines taken (lines ++ next ∷ others) now
  pub short : length taken ≤ length (with_feeds (lines ++ next ∷ [])) + piece
  pub answers : List (Bool × List ℕ)
  pub answered : AnswersLines says lines answers
  pub more : List (Bool × List ℕ)
  pub answered_more : AnswersLines says (next ∷ others) more
  pub part : List ℕ
  pub unwritten : List ℕ
  pub parts : part ++ unwritten ≡ output more
  pub grown : Appends old new (output answers ++ part)

-- the sink got a front of the answers to lines of the bytes taken, from the first on
pub record AnswersFront (says : Says) (limit : ℕ) (before now old new : Option (List ℕ)) : Type 0 where
  pub taken : List ℕ
  pub consumed : Consumes before now taken
  pub below : length taken < limit
  pub lines : List (List ℕ)
  pub at_front : HasLines taken lines now
  pub answers : List (Bool × List ℕ)
  pub answered : AnswersLines says lines answers
  pub grown : AppendsFront old new (output answers)

-- what a run has read and written when it ends so
abbrev pub EndsSo : Says → ℕ → ℕ → LoopEnd → Option (List ℕ) → Option (List ℕ) → Option (List ℕ) → Option (List ℕ) → Type 0
EndsSo says limit piece Done = AnswersAll says limit true
EndsSo says limit piece Refused = AnswersAll says limit false
EndsSo says limit piece ReadFault = AnswersEnded says limit
EndsSo says limit piece WriteFault = AnswersBehind says limit piece
EndsSo says limit piece NoMemory = AnswersFront says limit
EndsSo says limit piece InputLimit = AnswersUpTo says limit piece

-- how a run ends whose source has no more lines, by whether every answer is an accepted line's
abbrev pub end_with : Bool → NextLine → LoopEnd
end_with ok next_of.Failed = ReadFault
end_with ok next_of.Limit = InputLimit
end_with true _ = Done
end_with false _ = Refused

-- the front of a line that was given so: the line as it was given, or any that is too long
abbrev pub IsFrontOf : ℕ → NextLine → List ℕ → List ℕ → Type 0
IsFrontOf most next_of.Line line front = FitsLine most line front
IsFrontOf most next_of.TooLong line front = most < length front
IsFrontOf most _ line front = ⊥

-- an answer to what the source gave was gathered, with its line feed
pub record Gathers (says : Says) (most : ℕ) (next : NextLine) (line old new : List ℕ) (ok : Bool) : Type 0 where
  pub text : List ℕ
  pub said : (front : List ℕ) → IsFrontOf most next line front → says front ok text
  pub grown : new ≡ old ++ (text ++ line_feed ∷ [])

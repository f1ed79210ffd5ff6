-- The steps of a reader of lines, over its buffers.
use Rattle.std.specs.Prelude.{◌≡◌, ℕ, ◌+◌, ◌-◌, ◌<◌, ◌≤◌, List, [], ◌++◌, Bool, true, false, length, take, drop, nat_lt, Option, Some, None, is_some, vec_capacity}
use Rattle.std.specs.Io.KnownBytes.{Consumes, IsAtEnd}
use Rattle.vx_spec.specs.Marks.{IsCut, Lacks}
use Rattle.vx_lines.specs.Lines.{line_feed, Reading, Takes, bytes_behind}
use Rattle.vx_lines.specs.declared.buffers.Buffers.{Buffers}
use Rattle.vx_lines.specs.declared.next_line.NextLine.{NextLine}
use Rattle.vx_lines.specs.declared.next_line.NextLine.TheVariants as next_of
use Rattle.vx_lines.specs.declared.buffers.Filled.{Filled}
use Rattle.vx_lines.specs.declared.buffers.Filled.TheVariants.{More, Ended, Failed, Limit}

-- the bytes that were read and are in no line yet
abbrev pub held_of : Buffers → List ℕ
held_of b = take (b.to - b.from) (drop b.from b.chunk.items)

-- what contracts see of the buffers
abbrev pub reading_of : Bool → Buffers → Reading
reading_of is_open b =
    record {
      limit = b.limit;
      held = held_of b;
      taken = b.taken;
      ended = b.ended;
      is_open = is_open;
      line = b.line.items;
    }

-- so many bytes stand before the first line feed, or there is none
abbrev pub IsFeedOf : List ℕ → Option ℕ → Type 0
IsFeedOf bytes None = Lacks line_feed bytes
IsFeedOf bytes (Some n) = (n < length bytes) × IsCut line_feed bytes (take n bytes) (Some (drop (n + 1) bytes))

-- The places lie in the read buffer, which is not empty; it is known where what is held has its first line feed; and the
-- line buffer has room for a line.
pub record IsGood (b : Buffers) : Type 0 where
  pub ordered : b.from ≤ b.to
  pub within : b.to ≤ length b.chunk.items
  pub feed : IsFeedOf (held_of b) b.feed
  pub some : 0 < length b.chunk.items
  pub least : 0 < b.most
  pub room : b.most ≤ vec_capacity b.line
  pub short : length b.line.items ≤ b.most

-- the line buffer has what a line may have of this front, and it is known whether the front is longer
pub record IsKept (most : ℕ) (line : List ℕ) (is_long : Bool) (front : List ℕ) : Type 0 where
  pub kept : line ≡ take most front
  pub long : is_long ≡ nat_lt most (length front)

-- a part more of the front
abbrev pub KeepsMore : ℕ → List ℕ → Bool → List ℕ → Bool → List ℕ → Type 0
KeepsMore most line is_long new_line new_is_long part =
    (front : List ℕ) → IsKept most line is_long front → IsKept most new_line new_is_long (front ++ part)

-- the sizes of the buffers and the limit stay
pub record SameSizes (old new : Buffers) : Type 0 where
  pub most : new.most ≡ old.most
  pub piece : length new.chunk.items ≡ length old.chunk.items
  pub limit : new.limit ≡ old.limit

-- the line stays
pub record SameLine (old new : Buffers) : Type 0 where
  pub line : new.line ≡ old.line
  pub long : new.is_long ≡ old.is_long

-- nothing was taken from the source, and it is as much known of its end as before
pub record SameCounts (old new : Buffers) : Type 0 where
  pub taken : new.taken ≡ old.taken
  pub ended : new.ended ≡ old.ended

-- what was held up to its first line feed, or all where there is none, is added to the line
pub record TakesFront (found : Bool) (old new : Buffers) : Type 0 where
  pub part : List ℕ
  pub behind : Option (List ℕ)
  pub cut : IsCut line_feed (held_of old) part behind
  pub rest : held_of new ≡ bytes_behind behind
  pub whole : found ≡ is_some behind
  pub kept : KeepsMore old.most old.line.items old.is_long new.line.items new.is_long part

-- when a read ends so
abbrev pub EndsAs : Filled → List ℕ → Buffers → Option (List ℕ) → Type 0
EndsAs More bytes new now = (0 < length bytes) × (new.taken < new.limit) × (new.ended ≡ false)
EndsAs Ended bytes new now = (bytes ≡ []) × (new.taken < new.limit) × (new.ended ≡ true) × IsAtEnd now
EndsAs Failed bytes new now = (bytes ≡ []) × (new.taken < new.limit) × (new.ended ≡ false)
EndsAs Limit bytes new now = (new.taken ≡ new.limit) × (new.ended ≡ false)

-- a read took these bytes, which are held now
pub record IsFilled (filled : Filled) (old new : Buffers) (before now : Option (List ℕ)) : Type 0 where
  pub bytes : List ℕ
  pub consumed : Consumes before now bytes
  pub counted : new.taken ≡ old.taken + length bytes
  pub held : held_of new ≡ bytes
  pub most : length bytes ≤ length new.chunk.items
  pub ends : EndsAs filled bytes new now

-- the answer is that of the table, whether more could be asked for and can be or not
abbrev pub AnswersNext : NextLine → Buffers → Buffers → Option (List ℕ) → Option (List ℕ) → Type 0
AnswersNext answer old new before now = (was is_open : Bool)
    → Takes old.most (length old.chunk.items) answer (reading_of was old) (reading_of is_open new) before now

-- what a line in the buffer is, by whether its front is longer than a line may be
abbrev pub line_found : Bool → NextLine
line_found true = next_of.TooLong
line_found false = next_of.Line

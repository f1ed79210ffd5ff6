-- The lines of a source, one at a time. A line feed ends each line; bytes behind the last line feed are a line where
-- there are any. A carriage return is a byte like any other.
use Rattle.std.specs.Prelude.{◌≡◌, ◌⊎◌, ℕ, ◌+◌, ◌-◌, ◌<◌, ◌≤◌, List, [], ◌++◌, Bool, true, false, length, take, Option, Some, None, IfNone}
use Rattle.std.specs.Io.KnownBytes.{Consumes, IsAtEnd}
use Rattle.vx_spec.specs.Marks.{Lacks, IsCut}
use Rattle.vx_lines.specs.declared.next_line.NextLine.{NextLine}
use Rattle.vx_lines.specs.declared.next_line.NextLine.TheVariants as next_of

-- the byte that ends a line
abbrev pub line_feed : ℕ
line_feed = 10

-- What is known of a reader of lines: how many bytes it takes at most, the bytes held, which were taken and are in no
-- line yet, how many were taken in all, whether the end was seen, whether more may be asked for, and the line that was
-- given last.
pub record Reading : Type 0 where
  pub limit : ℕ
  pub held : List ℕ
  pub taken : ℕ
  pub ended : Bool
  pub is_open : Bool
  pub line : List ℕ

-- what is held behind the first line: what follows its line feed, or nothing
abbrev pub bytes_behind : Option (List ℕ) → List ℕ
bytes_behind None = []
bytes_behind (Some rest) = rest

-- The first line of an input and what stands behind its line feed. The line is the front of the input: what stands
-- before its first line feed, or the whole where there is none. Then the end was seen, and the front is not empty.
pub record IsFirstLine (ended : Bool) (input line : List ℕ) (behind : Option (List ℕ)) : Type 0 where
  pub cut : IsCut line_feed input line behind
  pub last : IfNone behind ((ended ≡ true) × (0 < length line))

-- The bytes at hand have a first line, of which this holds; what stands behind it is held now, and fewer bytes than the
-- limit were taken.
pub record FindsLine (Is : List ℕ → Type 0) (input : List ℕ) (new : Reading) : Type 0 where
  pub front : List ℕ
  pub behind : Option (List ℕ)
  pub first : IsFirstLine new.ended input front behind
  pub is : Is front
  pub held : new.held ≡ bytes_behind behind
  pub below : new.taken < new.limit

-- a line of at most so many bytes
pub record FitsLine (most : ℕ) (line front : List ℕ) : Type 0 where
  pub short : length front ≤ most
  pub same : line ≡ front

-- When each answer comes. The input is what was held before the call and the bytes that the call took. A line has at
-- most `most` bytes, and a read gives at most `piece`.
abbrev pub ComesWith : ℕ → ℕ → NextLine → List ℕ → Reading → Type 0
ComesWith most piece next_of.Line input new = FindsLine (FitsLine most new.line) input new
ComesWith most piece next_of.TooLong input new = FindsLine (λ front. most < length front) input new
ComesWith most piece next_of.End input new = (input ≡ []) × (new.ended ≡ true) × (new.taken < new.limit)
ComesWith most piece next_of.Failed input new = Lacks line_feed input × (new.ended ≡ false) × (new.taken < new.limit)
ComesWith most piece next_of.Limit input new =
    (new.taken ≡ new.limit) × (new.ended ≡ false) × Lacks line_feed (take (length input - piece) input)

-- more may be asked for after a line, and after one that is too long
abbrev pub stays_open : NextLine → Bool
stays_open next_of.Line = true
stays_open next_of.TooLong = true
stays_open next_of.End = false
stays_open next_of.Failed = false
stays_open next_of.Limit = false

-- A call took these bytes from the source and gave this answer. The end was seen where the source has nothing left. It
-- took no bytes where the end was seen before, or where a line feed was held.
pub record Takes (most piece : ℕ) (answer : NextLine) (old new : Reading) (before now : Option (List ℕ)) : Type 0 where
  pub bytes : List ℕ
  pub consumed : Consumes before now bytes
  pub counted : new.taken ≡ old.taken + length bytes
  pub comes : ComesWith most piece answer (old.held ++ bytes) new
  pub unread : (old.ended ≡ true) ⊎ ¬ Lacks line_feed old.held → bytes ≡ []
  pub stays_ended : old.ended ≡ true → new.ended ≡ true
  pub at_end : new.ended ≡ true → ((old.ended ≡ true) × (bytes ≡ [])) ⊎ IsAtEnd now

-- Percent escapes (ECMA-427, the percent-encoding of components; VERS texts use the same): what `escape` appends and what
-- `unescape` answers.
use Rattle.std.specs.Prelude.{ℕ, ◌+◌, ◌<◌, ◌≡◌, ◌==◌, ◌||◌, Bool, true, if◌then◌else◌, List, [], ◌∷◌, length, slice_index, All, IsUtf8, Result, Ok, Err}
use Rattle.std.specs.Char.{is_ascii_alphanumeric, is_digit}
use Rattle.std.specs.List.{flat_map}
use Rattle.percent_encoding.specs.Percent.{percent_encode_byte, percent_decode}
use Rattle.vx_text.specs.declared.escapes.EscapeFault.{EscapeFault}
use Rattle.vx_text.specs.declared.escapes.EscapeFault.TheVariants.{BadEscape, NotText, NoMemory}

-- an ASCII letter, a digit, or one of `. - _ ~ :`
abbrev pub is_left : ℕ → Bool
is_left b = is_ascii_alphanumeric b || b == 46 || b == 45 || b == 95 || b == 126 || b == 58

-- a byte that is left stands for itself, and any other is `%` and two upper-case hexadecimal digits
abbrev pub escaped_byte : ℕ → List ℕ
escaped_byte b = if is_left b then b ∷ [] else percent_encode_byte b

-- the text with each of its bytes escaped
unfoldable pub escaped : List ℕ → List ℕ
escaped text = flat_map escaped_byte text

-- the text with each `%` and its two hexadecimal digits, of either case, replaced by the byte that they stand for
abbrev pub unescaped : List ℕ → List ℕ
unescaped text = percent_decode text

-- two hexadecimal digits follow the byte at this place
abbrev pub IsFollowed : List ℕ → ℕ → Type 0
IsFollowed text at = (at + 2 < length text) × (is_digit (slice_index text (at + 1)) 16 ≡ true) × (is_digit (slice_index text (at + 2)) 16 ≡ true)

-- a `%` stands here that two hexadecimal digits do not follow
abbrev pub IsBroken : List ℕ → ℕ → Type 0
IsBroken text at = (at < length text) × (slice_index text at ≡ 37) × ¬ (IsFollowed text at)

-- no `%` before this place is broken
abbrev pub IsWholeBefore : List ℕ → ℕ → Type 0
IsWholeBefore text at = (i : ℕ) → i < at → ¬ (IsBroken text i)

-- the first broken `%` stands here
abbrev pub IsFirstBroken : List ℕ → ℕ → Type 0
IsFirstBroken text at = IsBroken text at × IsWholeBefore text at

-- each `%` begins an escape
abbrev pub IsWhole : List ℕ → Type 0
IsWhole text = IsWholeBefore text (length text)

-- What reading the escapes of a text answers: the text that they stand for, the place of the first broken `%`,
-- or, where none is broken, that the bytes are no UTF-8.
abbrev pub IsUnescapedAs : List ℕ → Result (List ℕ) EscapeFault → Type 0
IsUnescapedAs text (Ok plain) = IsWhole text × IsUtf8 (unescaped text) × (plain ≡ unescaped text)
IsUnescapedAs text (Err (BadEscape at)) = IsFirstBroken text at
IsUnescapedAs text (Err NotText) = IsWhole text × ¬ (IsUtf8 (unescaped text))
IsUnescapedAs text (Err NoMemory) = IsWhole text

-- Reading what is written gives the text again, and nothing but want of memory refuses it.
pub record IsUndone (text : List ℕ) : Type 0 where
  pub given_back : IsUnescapedAs (escaped text) (Ok text)
  pub only_memory : (fault : EscapeFault) → IsUnescapedAs (escaped text) (Err fault) → fault ≡ NoMemory

-- each text of bytes in UTF-8 is given back
abbrev pub EscapesAreUndone : Type 0
EscapesAreUndone = (text : List ℕ) → All (λ b. b < 256) text → IsUtf8 text → IsUndone text

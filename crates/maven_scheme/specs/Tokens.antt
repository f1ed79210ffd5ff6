-- The first step of the POM reference, "Version Order Specification": a text is split in tokens between dots, hyphens and
-- transitions between digits and other bytes. The separator is kept; a transition is as good as a hyphen.
use Rattle.std.specs.Prelude.{ℕ, zero, suc, ◌==◌, ◌||◌, not, Bool, true, if◌then◌else◌, List, [], ◌∷◌, length}
use Rattle.std.specs.Char.{is_ascii_alphabetic, is_ascii_digit}
use Rattle.vx_spec.specs.Runs.{begins, run, past}
use Rattle.vx_spec.specs.Signs.{dot, plus, underscore}

-- a token: whether its separator is '.', and not '-'; its bytes, none where it is empty; and whether a digit follows them
-- directly
pub record Token : Type 0 where
  pub is_dotted : Bool
  pub text : List ℕ
  pub before_digit : Bool

abbrev pub is_dot : ℕ → Bool
is_dot b = b == dot

-- a byte of a word: a letter, '_' or '+'
abbrev pub is_word_byte : ℕ → Bool
is_word_byte b = is_ascii_alphabetic b || b == underscore || b == plus

-- any other byte but a digit: of the bytes of a version those are '.' and '-'
abbrev pub is_separator : ℕ → Bool
is_separator b = not (is_ascii_digit b || is_word_byte b)

-- the bytes of the token at the front of a text: its digits or its word, each as long as it can be; none where a separator
-- stands there
abbrev pub front_bytes : List ℕ → List ℕ
front_bytes text = if begins is_ascii_digit text then run is_ascii_digit text else run is_word_byte text

-- what stands behind them
abbrev pub behind_front : List ℕ → List ℕ
behind_front text = if begins is_ascii_digit text then past is_ascii_digit text else past is_word_byte text

-- that token, behind this separator
abbrev pub front_token : Bool → List ℕ → Token
front_token is_dotted text = record {
  is_dotted = is_dotted;
  text = front_bytes text;
  before_digit = begins is_ascii_digit (behind_front text);
}

-- what stands behind the separator, and all of the rest where the next token begins by a transition
abbrev pub past_separator : List ℕ → List ℕ
past_separator [] = []
past_separator (b ∷ rest) = if is_separator b then rest else b ∷ rest

-- the next token of what stands behind one: a transition is as good as a hyphen
abbrev pub next_token : List ℕ → Token
next_token rest = front_token (begins is_dot rest) (past_separator rest)

-- and what stands behind the next one
abbrev pub behind_next : List ℕ → List ℕ
behind_next rest = behind_front (past_separator rest)

-- The rest is read as such tokens, one behind the other to its end. Each has a byte at least, its separator or one of its
-- own, so that there are no more of them than bytes.
abbrev pub tokens_in : ℕ → List ℕ → List Token
tokens_in zero rest = []
tokens_in (suc most) [] = []
tokens_in (suc most) (b ∷ rest) = next_token (b ∷ rest) ∷ tokens_in most (behind_next (b ∷ rest))

-- the tokens of what stands behind one
abbrev pub tokens_behind : List ℕ → List Token
tokens_behind rest = tokens_in (length rest) rest

-- the tokens of a text: the first has '.'
abbrev pub tokens_of : List ℕ → List Token
tokens_of text = front_token true text ∷ tokens_behind (behind_front text)

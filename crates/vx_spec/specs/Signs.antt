-- ASCII bytes that stand as signs in texts, by their names.
use Rattle.std.specs.Prelude.{ℕ}

-- the byte '!'
abbrev pub bang : ℕ
bang = 33

-- the byte '+'
abbrev pub plus : ℕ
plus = 43

-- the byte '-'
abbrev pub hyphen : ℕ
hyphen = 45

-- the byte '.'
abbrev pub dot : ℕ
dot = 46

-- the byte ':'
abbrev pub colon : ℕ
colon = 58

-- the byte '^'
abbrev pub caret : ℕ
caret = 94

-- the byte '_'
abbrev pub underscore : ℕ
underscore = 95

-- the byte '~'
abbrev pub tilde : ℕ
tilde = 126

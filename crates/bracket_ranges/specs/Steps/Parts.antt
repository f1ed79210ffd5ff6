-- The parts of a text that is cut behind each closing sign, by runs.
use Rattle.std.specs.Prelude.{not, ℕ, Bool}
use Rattle.bracket_ranges.specs.Signs.{is_closing}

-- a byte that closes no bracket
abbrev pub is_unclosed : ℕ → Bool
is_unclosed b = not (is_closing b)

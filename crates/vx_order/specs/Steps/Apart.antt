-- What the core of a text lacks that is cut at its marks.
use Rattle.std.specs.Prelude.{◌==◌, ◌&&◌, not, Bool, ℕ}
use Rattle.vx_spec.specs.Signs.{hyphen, plus}

-- a byte that is no mark
abbrev pub is_core_byte : ℕ → Bool
is_core_byte b = not (b == plus) && not (b == hyphen)

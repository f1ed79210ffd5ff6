-- The texts of versions, as brackets can hold them.
use Rattle.std.specs.Prelude.{◌≡◌, ◌≢◌, ◌||◌, not, ℕ, Bool, true, List, []}
use Rattle.std.specs.List.{list_all}
use Rattle.vx_spec.specs.Runs.{is_blank}
use Rattle.bracket_ranges.specs.Signs.{is_opening, is_closing, is_comma}

-- a byte that is no blank, no comma and no sign of a bracket
abbrev pub is_word_byte : ℕ → Bool
is_word_byte b = not ((is_blank b || is_comma b) || (is_opening b || is_closing b))

-- a text of such bytes, one or more
pub record IsWord (text : List ℕ) : Type 0 where
  pub bytes : list_all is_word_byte text ≡ true
  pub some : text ≢ []

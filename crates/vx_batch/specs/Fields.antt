-- The fields of a line, and its length.
use Rattle.std.specs.Prelude.{◌==◌, ℕ, List, map, length, String, string_bytes}
use Rattle.std.specs.List.{join_with_byte, slice_split}
use Rattle.std.specs.declared.alloc.Global.{Global}

-- the bytes of each of these strings
abbrev pub texts : List (String Global) → List (List ℕ)
texts strings = map string_bytes strings

-- the tab, which parts the fields of a line
abbrev pub tab : ℕ
tab = 9

-- the fields of a line: what stands between its tabs
abbrev pub fields_of_line : List ℕ → List (List ℕ)
fields_of_line line = slice_split (λ b. b == tab) line

-- how long the line of these fields is: they stand in it with a tab between each two
abbrev pub joined_length : List (List ℕ) → ℕ
joined_length fields = length (join_with_byte tab fields)

-- Maximal runs of bytes.
use Rattle.std.specs.Prelude.{◌==◌, ◌||◌, ◌&&◌, ◌-◌, not, nat_lt, ℕ, Bool, false, List, [], ◌∷◌, take, drop, length}
use Rattle.std.specs.List.{list_all, prefix_len, suffix_len}

-- a space or a tab
abbrev pub is_blank : ℕ → Bool
is_blank b = b == 32 || b == 9

-- any other byte
abbrev pub is_solid : ℕ → Bool
is_solid b = not (is_blank b)

-- the text has a first byte, which passes
abbrev pub begins : (ℕ → Bool) → List ℕ → Bool
begins test [] = false
begins test (b ∷ text) = test b

-- one byte or more, and each byte passes
abbrev pub is_made_of : (ℕ → Bool) → List ℕ → Bool
is_made_of test text = nat_lt 0 (length text) && list_all test text

-- the maximal run of bytes that pass at the front of the text
abbrev pub run : (ℕ → Bool) → List ℕ → List ℕ
run test text = take (prefix_len test text) text

-- what stands behind it
abbrev pub past : (ℕ → Bool) → List ℕ → List ℕ
past test text = drop (prefix_len test text) text

-- the text without the bytes that pass at its end
abbrev pub without_end : (ℕ → Bool) → List ℕ → List ℕ
without_end test text = take (length text - suffix_len test text) text

-- the text without the blanks at its ends
abbrev pub trimmed : List ℕ → List ℕ
trimmed text = without_end is_blank (past is_blank text)

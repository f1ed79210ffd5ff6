-- How a range text is cut, after the README of node-semver, "Range Grammar" and "Hyphen Ranges": at each `||` into alternatives,
-- and each alternative into its pieces, or into the two sides of its hyphen range.
use Rattle.std.specs.Prelude.{◌≡◌, ◌≢◌, ◌==◌, ◌&&◌, ◌||◌, ◌+◌, ◌-◌, ℕ, Bool, false, List, [], ◌∷◌, ◌++◌, ◌⊎◌, length, take, codes}
use Rattle.vx_spec.specs.Runs.{is_blank, is_solid, begins, run, past}
use Rattle.vx_range.specs.Pieces.{Written}
use Rattle.npm_range.specs.declared.cutting.Kind.{Kind}
use Rattle.npm_range.specs.declared.cutting.Kind.TheVariants.{Plain, Low, High}

-- ---- the pieces of an alternative

-- the bytes of operators: '<' is 60, '=' 61, '>' 62, '^' 94 and '~' 126
abbrev pub is_sign : ℕ → Bool
is_sign b = ((b == 60 || b == 62) || (b == 61 || b == 126)) || b == 94

-- where an end of a text stands, the text beginning at this place
abbrev pub place : ℕ → List ℕ → List ℕ → ℕ
place at text end = at + (length text - length end)

-- what stands in a text before an end of it
abbrev pub before_end : List ℕ → List ℕ → List ℕ
before_end text end = take (length text - length end) text

-- blanks before a piece are skipped
abbrev pub piece_from : List ℕ → List ℕ
piece_from text = past is_blank text

-- a piece begins with the maximal run of signs and the maximal run of blanks behind them
abbrev pub word_from : List ℕ → List ℕ
word_from text = past is_blank (past is_sign (piece_from text))

-- and ends with the maximal run of bytes that are not blank, its word
abbrev pub behind_piece : List ℕ → List ℕ
behind_piece text = past is_solid (word_from text)

-- the first piece of a text that begins at this place
abbrev pub first_piece : ℕ → List ℕ → Written Kind
first_piece at text = record { kind = Plain; at = place at text (piece_from text); bytes = before_end (piece_from text) (behind_piece text) }

-- the pieces of a text that begins at this place: none where it is blank, and else its first and those behind it
abbrev pub ArePieces : ℕ → List ℕ → List (Written Kind) → Type 0
ArePieces at text [] = piece_from text ≡ []
ArePieces at text (piece ∷ pieces) =
    (piece_from text ≢ []) × (piece ≡ first_piece at text) × ArePieces (place at text (behind_piece text)) (behind_piece text) pieces

-- ---- hyphen ranges

-- of a text that begins with a run of bytes that are not blank: from the next such run on
abbrev pub next_from : List ℕ → List ℕ
next_from text = past is_blank (past is_solid text)

-- the text is three runs of bytes that are not blank, the second being '-'
pub record IsHyphenRange (text : List ℕ) : Type 0 where
  pub first : run is_solid (past is_blank text) ≢ []
  pub second : run is_solid (next_from (past is_blank text)) ≡ codes "-"
  pub third : run is_solid (next_from (next_from (past is_blank text))) ≢ []
  pub no_fourth : next_from (next_from (next_from (past is_blank text))) ≡ []

-- a side of a hyphen range is a run
abbrev pub side : Kind → ℕ → List ℕ → List ℕ → Written Kind
side kind at text from = record { kind = kind; at = place at text from; bytes = run is_solid from }

-- the first run and the third
abbrev pub sides : ℕ → List ℕ → List (Written Kind)
sides at text = side Low at text (past is_blank text) ∷ side High at text (next_from (next_from (past is_blank text))) ∷ []

-- what an alternative that begins at this place is made of: a hyphen range of its sides, and any other of its pieces
abbrev pub IsMadeOf : ℕ → List ℕ → List (Written Kind) → Type 0
IsMadeOf at text pieces = (IsHyphenRange text × (pieces ≡ sides at text)) ⊎ (¬ (IsHyphenRange text) × ArePieces at text pieces)

-- ---- alternatives

-- '|' is 124
abbrev pub is_bar : ℕ → Bool
is_bar b = b == 124

-- `||` stands somewhere in the text
abbrev pub has_bars : List ℕ → Bool
has_bars [] = false
has_bars (b ∷ text) = (is_bar b && begins is_bar text) || has_bars text

-- The first `||` of the text stands between the two: none begins before it. So `1|||2` is cut into `1` and `|2`.
pub record IsCutAtBars (text front behind : List ℕ) : Type 0 where
  pub joined : text ≡ front ++ (codes "||" ++ behind)
  pub first : has_bars (front ++ codes "|") ≡ false

-- The alternatives of a text that begins at this place are made of these groups of pieces: the last alternative has no
-- `||`, and each other ends at the first `||`.
abbrev pub AreAlternatives : ℕ → List ℕ → List (List (Written Kind)) → Type 0
AreAlternatives at text [] = ⊥
AreAlternatives at text (last ∷ []) = (has_bars text ≡ false) × IsMadeOf at text last
AreAlternatives at text (group ∷ next ∷ more) =
    (front : List ℕ) × (behind : List ℕ) × IsCutAtBars text front behind × IsMadeOf at front group × AreAlternatives (at + length front + 2) behind (next ∷ more)

-- the text is cut into these groups of pieces, one for each alternative
abbrev pub IsCut : List ℕ → List (List (Written Kind)) → Type 0
IsCut text groups = AreAlternatives 0 text groups

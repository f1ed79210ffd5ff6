-- How the text of a range is cut into pieces, which are one group: brackets, or one version alone. `lists` says that further
-- brackets may stand behind commas. After the POM Reference ("Dependency Version Requirement Specification") and NuGet's
-- "Package versioning" ("Version ranges").
use Rattle.std.specs.Prelude.{◌≡◌, ◌+◌, ◌-◌, ◌&&◌, ℕ, Bool, List, [], ◌∷◌, length, drop, if◌then◌else◌}
use Rattle.std.specs.List.{onto_first}
use Rattle.vx_spec.specs.Runs.{is_blank, begins, past}
use Rattle.vx_range.specs.Pieces.{Written}
use Rattle.vx_range.specs.Lists.{piece_of, Plain}
use Rattle.bracket_ranges.specs.declared.cutting.Kind.{Kind}
use Rattle.bracket_ranges.specs.declared.cutting.Kind.TheVariants.{Alone, Bracket, Other}
use Rattle.bracket_ranges.specs.Signs.{is_opening, is_closing, is_comma}

-- The parts of a text that is cut behind each closing sign: each but the last ends with one, and none holds another.
abbrev pub closed_parts : List ℕ → List (List ℕ)
closed_parts [] = []
closed_parts (b ∷ text) = if is_closing b then (b ∷ []) ∷ closed_parts text else onto_first b (closed_parts text)

-- the piece that is this end of a part, the part beginning at this place
abbrev pub end_piece : Kind → ℕ → List ℕ → List ℕ → Written Kind
end_piece kind at part end = record { kind = kind; at = at + (length part - length end); bytes = end }

-- what stands behind the comma at the front of a text, and behind the blanks that follow it
abbrev pub behind_comma : List ℕ → List ℕ
behind_comma text = past is_blank (drop 1 text)

-- the piece of what follows the blanks behind a bracket: another bracket behind a comma, or no construct
abbrev pub next_from : Bool → ℕ → List ℕ → List ℕ → Written Kind
next_from lists at part from = if lists && begins is_comma from then end_piece Bracket at part (behind_comma from) else end_piece Other at part from

-- The piece of a part behind a bracket. Blanks are skipped. Where brackets are listed a comma is to follow, and behind it and
-- blanks the next bracket; a piece that does not begin with an opening sign there is none. Anything else is no construct.
abbrev pub next_piece : Bool → ℕ → List ℕ → Written Kind
next_piece lists at part = next_from lists at part (past is_blank part)

abbrev pub next_pieces : Bool → ℕ → List (List ℕ) → List (Written Kind)
next_pieces lists at [] = []
next_pieces lists at (part ∷ parts) = next_piece lists at part ∷ next_pieces lists (at + length part) parts

-- the first part is a bracket, and a piece stands in each part behind it
abbrev pub bracket_pieces : Bool → ℕ → List (List ℕ) → List (Written Kind)
bracket_pieces lists at [] = []
bracket_pieces lists at (part ∷ parts) = record { kind = Bracket; at = at; bytes = part } ∷ next_pieces lists (at + length part) parts

-- the pieces of a text without blanks at its ends: brackets where it begins with an opening sign, and else a version alone
abbrev pub pieces_of : Bool → Plain → List (Written Kind)
pieces_of lists text =
    if begins is_opening text.bytes
    then bracket_pieces lists text.at (closed_parts text.bytes)
    else record { kind = Alone; at = text.at; bytes = text.bytes } ∷ []

-- The text is cut into these pieces, without the blanks at its ends. A blank text is an empty piece at 0.
abbrev pub IsCut : Bool → List ℕ → List (List (Written Kind)) → Type 0
IsCut lists text groups = groups ≡ pieces_of lists (piece_of 0 text) ∷ []

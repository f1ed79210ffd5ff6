-- The parts of a bracket, as the program holds them, and what its two sides are together.
use Rattle.std.specs.Prelude.{◌+◌, ℕ, List, length, Option, Some, None}
use Rattle.std.specs.Option.{option_copied}
use Rattle.vx_range.specs.declared.piece.PieceReading.{PieceReading}
use Rattle.vx_range.specs.declared.piece.PieceReading.TheVariants.{Construct, Past, NoConstruct}
use Rattle.bracket_ranges.specs.declared.reading.Inside.{Inside}
use Rattle.bracket_ranges.specs.declared.bracket.Bound.{Bound}
use Rattle.bracket_ranges.specs.declared.bracket.Bracket.{Bracket}
use Rattle.bracket_ranges.specs.declared.bracket.Bracket.TheVariants.{Between}
use Rattle.bracket_ranges.specs.Reading.{Parts}

-- what two sides are together
abbrev pub both : {V : Type 0} → PieceReading (Option (Bound V)) → PieceReading (Option (Bound V)) → PieceReading (Bracket V)
both (Construct lower) (Construct upper) = Construct (Between lower upper)
both (Construct lower) (Past at) = Past at
both (Construct lower) NoConstruct = NoConstruct
both (Past at) (Construct upper) = Past at
both (Past at) (Past next) = Past at
both (Past at) NoConstruct = NoConstruct
both NoConstruct upper = NoConstruct

-- the parts of a bracket
abbrev pub parts_of : Inside → Parts
parts_of inside = record { opening = inside.opening; front = inside.front.now; back = option_copied inside.back; closing = inside.closing }

-- how many bytes stand between its signs
abbrev pub back_length : Option (List ℕ) → ℕ
back_length None = 0
back_length (Some back) = length back + 1

abbrev pub inside_length : Parts → ℕ
inside_length parts = length parts.front + back_length parts.back

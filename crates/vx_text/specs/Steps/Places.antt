-- Where a byte first stands.
use Rattle.std.specs.Prelude.{◌≡◌, ◌≢◌, ◌<◌, ℕ, List, length, slice_index}

-- the byte stands at no place of the text before this one
abbrev pub LacksBefore : ℕ → List ℕ → ℕ → Type 0
LacksBefore byte text at = (k : ℕ) → k < at → slice_index text k ≢ byte

-- the byte stands at this place of the text, and at none before
pub record IsFirstAt (byte : ℕ) (text : List ℕ) (at : ℕ) : Type 0 where
  pub within : at < length text
  pub here : slice_index text at ≡ byte
  pub before : LacksBefore byte text at

-- Where a piece is cut.
use Rattle.std.proofs.Common.{◌≡◌, ◌∙◌, sym, Option, Some, List, ℕ, refl}
use Rattle.vx_spec.specs.Marks.{IsCut}
use Rattle.vx_spec.proofs.MarkLaws.{one_cut}
use Rattle.purl_core.specs.Spelling.{IsPiece}
use Rattle.purl_core.proofs.OneValue.{key_lacks}

pub piece_at : {piece front : List ℕ} {behind : Option (List ℕ)} (pair : List ℕ × List ℕ) → IsPiece piece pair → IsCut 61 piece front behind
    → (pair.0 ≡ front) × (Some pair.1 ≡ behind)
piece_at {piece} {front} {behind} pair is c = one_cut 61 pair.0 front (Some pair.1) behind (key_lacks 61 pair.0 refl refl is.key) c.first (sym is.joined ∙ c.joined)

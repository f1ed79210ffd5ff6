-- Parts as they are written one after another.
use Rattle.std.specs.Prelude.{◌≡◌, ◌++◌, ℕ, List, [], ◌∷◌, map}
use Rattle.vx_text.specs.Escapes.{escaped}
use Rattle.purl_core.specs.Printed.{pair_text}

-- each part behind a sign: the first behind its own, the others behind the mark
abbrev pub signed : List ℕ → ℕ → List (List ℕ) → List ℕ
signed first mark [] = []
signed first mark (part ∷ parts) = first ++ part ++ signed (mark ∷ []) mark parts

-- the escaped segments, with '/' between each two
abbrev pub signed_segments : List ℕ → List (List ℕ) → List ℕ
signed_segments first segments = signed first 47 (map escaped segments)

-- the pairs, with '&' between each two
abbrev pub signed_pairs : List ℕ → List (List ℕ × List ℕ) → List ℕ
signed_pairs first pairs = signed first 38 (map pair_text pairs)

-- the new text is the old one and more
pub record IsGrown (old new : List ℕ) : Type 0 where
  pub more : List ℕ
  pub joined : new ≡ old ++ more

-- The version that a text spells.
use Rattle.std.proofs.Common.{ℕ, List, refl}
use Rattle.npm_scheme.specs.Spelling.{Parts, Spells, version_of}
use Rattle.npm_scheme.specs.Written.{IsVersionWritten}

-- a text that is written of parts spells what they stand for
pub written_spells : {text : List ℕ} {p : Parts} → IsVersionWritten text p → Spells text (version_of p)
written_spells {text} {p} is = record { parts = p; joined = is.joined; form = is.form; values = refl }

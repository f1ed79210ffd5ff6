-- The parts of a text as the program holds them: the identifiers of a part still joined.
use Rattle.std.specs.Prelude.{◌≡◌, List, ℕ}
use Rattle.std.specs.Option.{option_copied}
use Rattle.vx_order.specs.Dotted.{pieces}
use Rattle.npm_scheme.specs.Spelling.{Parts, AreVersionParts, whole}
use Rattle.npm_scheme.specs.declared.spelling.Written.{Written}

-- the parts that the program holds
abbrev pub parts : Written → Parts
parts w = record { major = w.major.now; minor = w.minor.now; patch = w.patch.now; pre = pieces (option_copied w.pre); build = pieces (option_copied w.build) }

-- the text is made of these parts, which have their form
pub record IsVersionWritten (text : List ℕ) (p : Parts) : Type 0 where
  pub joined : text ≡ whole p
  pub form : AreVersionParts p

-- the text is made of no such parts
abbrev pub NoVersionWritten : List ℕ → Type 0
NoVersionWritten text = (p : Parts) → ¬ (IsVersionWritten text p)

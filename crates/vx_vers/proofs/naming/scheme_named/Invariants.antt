use Rattle.std.proofs.Common.{◌≡◌, ◌≢◌, ◌<◌, ℕ, get_or}
use Rattle.vx_scheme.specs.declared.name.SchemeName.TheVariants.{Npm}
use Rattle.vx_scheme.specs.Names.{text_of}
use Rattle.vx_scheme.proofs.NameLaws.{schemes}
use Rattle.vx_text.specs.Folding.{lowered}
use Rattle.vx_vers.specs.Heads.{solid}
use Rattle.vx_vers.proofs.naming.scheme_named.Given as goal

-- the text is none of the names so far
abbrev pub invariant-loop-name : goal.invariant-loop-name
invariant-loop-name l = record {
  names : l.name-items ≡ schemes;
  others : (k : ℕ) → k < l.name-index → lowered (solid l.text) ≢ text_of (get_or l.name-items k Npm);
}

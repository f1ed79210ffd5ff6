use Rattle.std.proofs.Common.{◌≡◌, ◌↔◌, drop}
use Rattle.vx_text.specs.Folding.{lowered}
use Rattle.vx_vers.specs.Heads.{solid}
use Rattle.vx_vers.proofs.naming.spells_word.Given as goal

-- what is left of the text is what is left of the word, just where the text is the word
abbrev pub invariant-loop-byte : goal.invariant-loop-byte
invariant-loop-byte l = (lowered (solid (drop l.byte-index l.text)) ≡ l.rest) ↔ (lowered (solid l.text) ≡ l.fn.word)

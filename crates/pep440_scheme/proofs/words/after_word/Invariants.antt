use Rattle.std.proofs.Common.{◌≡◌, drop}
use Rattle.pep440_scheme.specs.Steps.Apart.{after_word}
use Rattle.pep440_scheme.proofs.words.after_word.Given as goal

-- what stands behind the rest of the word is what stands behind the word
abbrev pub invariant-loop-letter : goal.invariant-loop-letter
invariant-loop-letter l = after_word (drop l.letter-index l.word) l.rest ≡ after_word l.word l.text

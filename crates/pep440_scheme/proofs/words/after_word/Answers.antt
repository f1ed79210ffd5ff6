use Rattle.std.proofs.Common.{◌<◌, length, drop, sym, ◌∙◌, arith, length-drop}
use Rattle.pep440_scheme.proofs.WordLaws.{no_letter}
use Rattle.pep440_scheme.proofs.words.after_word.Goals as goal

pub returns-in_default : goal.returns-in_default
returns-in_default c =
    let i = c.loop-letter.letter-index in
    let left : 0 < length (drop i c.args.word.now) = omega (arith, length-drop i c.args.word.now, c.loop-letter-test.true) in
    sym (no_letter (drop i c.args.word.now) c.loop-letter.rest.now left c.in_default.len_below) ∙ c.loop-letter.invariant

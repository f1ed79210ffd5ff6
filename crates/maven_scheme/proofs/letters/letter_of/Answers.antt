use Rattle.std.proofs.Common.{subst}
use Rattle.maven_scheme.specs.Steps.Tokens.{IsToken}
use Rattle.maven_scheme.proofs.TokenLaws.{word_utf8}
use Rattle.maven_scheme.proofs.letters.letter_of.Goals as goal

pub unreachable-requires : goal.unreachable-requires
unreachable-requires c = c.in-Err.ensures.cases.0 (word_utf8 c.in-Qualifier.word.now (subst IsToken c.in-Qualifier.is c.requires))

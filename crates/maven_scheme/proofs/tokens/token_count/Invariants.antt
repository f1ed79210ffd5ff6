use Rattle.std.proofs.Common.{length}
use Rattle.maven_scheme.proofs.tokens.token_count.Given as goal

abbrev pub decreases-tokens : goal.decreases-tokens
decreases-tokens l = length l.rest

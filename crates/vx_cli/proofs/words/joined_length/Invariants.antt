-- What is counted and what is left make the whole, up to the end of the type.
use Rattle.std.proofs.Common.{string_bytes}
use Rattle.vx_cli.proofs.Joined.{IsCounted}
use Rattle.vx_cli.proofs.words.joined_length.Given as goal

abbrev pub invariant-loop-word : goal.invariant-loop-word
invariant-loop-word l = IsCounted string_bytes l.total l.word-index l.words

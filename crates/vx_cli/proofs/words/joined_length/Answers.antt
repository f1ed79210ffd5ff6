use Rattle.std.proofs.Common.{◌∙◌, rules, string_bytes}
use Rattle.vx_cli.proofs.Joined.{counted}
use Rattle.vx_cli.proofs.words.joined_length.Goals as goal

pub returns : goal.returns
returns c =
    let all = counted string_bytes c.loop-word.total c.loop-word.word-index c.args.words.now (search rules) c.loop-word.invariant in
    c.saturating_sub.ensures ∙ all

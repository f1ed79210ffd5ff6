use Rattle.std.proofs.Common.{◌≡◌, ◌∙◌, sym, rules}
use Rattle.pep440_range.proofs.BackLaws.{all_taken, lowered_says}
use Rattle.pep440_range.proofs.back.lowered_last.Goals as goal

pub returns : goal.returns
returns c =
    let whole : c.loop-number.lowered ≡ c.args.numbers.now = all_taken c.args.numbers.now c.loop-number.lowered c.loop-number.number-index c.loop-number.invariant (search rules) in
    lowered_says c.args.numbers.now c.pop.new.self c.push-2.new.self c.in-Some.last c.saturating_sub.result (sym whole ∙ c.in-Some.ensures) c.saturating_sub.ensures c.in_ok-push-2.ensures.ok c.requires

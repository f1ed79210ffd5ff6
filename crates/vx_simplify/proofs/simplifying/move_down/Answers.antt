use Rattle.std.proofs.Common.{◌≡◌, ◌∙◌, ℕ, arith, ap, sym}
use Rattle.std.specs.List.{swap}
use Rattle.vx_simplify.proofs.Keeping.{swap_itself}
use Rattle.vx_simplify.proofs.simplifying.move_down.Goals as goal

pub returns-else-to-from-clause-after : goal.returns-else-to-from-clause-after
returns-else-to-from-clause-after g c =
    let e : c.args.to ≡ c.args.from = omega arith in
    sym (ap (λ (k : ℕ). swap c.args.items.now k c.args.from) e ∙ swap_itself c.args.items.now c.args.from)

use Rattle.std.proofs.Common.{◌≤◌, ◌+◌, IfOk, length, subst}
use Rattle.vx_scheme.specs.Cuts.{spans_at}
use Rattle.vx_interval.specs.Steps.Lines.{IsLineOf, line_cost}
use Rattle.vx_interval.proofs.LineLaws.{cuts_of_parts}
use Rattle.vx_interval.proofs.part.SpansItemPart.line.Goals as goal

pub returns-clause-line : goal.returns-clause-line
returns-clause-line g c = subst (λ made. IfOk c.join_parts.result (λ line. IsLineOf g.C.Compares.order made (λ below. spans_at below c.args.self) line)) (cuts_of_parts c.args.self) c.join_parts.ensures.line

pub returns-clause-cost : goal.returns-clause-cost
returns-clause-cost g c = subst (λ made. c.join_parts.new.steps ≤ c.args.steps.now + line_cost 1 (length made)) (cuts_of_parts c.args.self) c.join_parts.ensures.cost

use Rattle.std.proofs.Common.{◌≤◌, ◌+◌, IfOk, length, subst}
use Rattle.vx_scheme.specs.Cuts.{spans_at}
use Rattle.vx_interval.specs.Steps.Lines.{AreChangesOf, line_cost}
use Rattle.vx_interval.proofs.LineLaws.{cuts_of_parts}
use Rattle.vx_interval.proofs.part.SpansItemPart.changes.Goals as goal

pub returns-clause-changes : goal.returns-clause-changes
returns-clause-changes g c = subst (λ made. IfOk c.join_changes.result (AreChangesOf g.C.Compares.order made (λ below. spans_at below c.args.self))) (cuts_of_parts c.args.self) c.join_changes.ensures.changes

pub returns-clause-cost : goal.returns-clause-cost
returns-clause-cost g c = subst (λ made. c.join_changes.new.steps ≤ c.args.steps.now + line_cost 1 (length made)) (cuts_of_parts c.args.self) c.join_changes.ensures.cost

use Rattle.cargo_range.specs.Laws.Orders.{exact_order, greater_order, greater_equal_order, less_order, less_equal_order}
use Rattle.cargo_range.proofs.laws.three_numbers_go_by_precedence.Goals as goal

pub returns : goal.returns
returns c = record {
  exact = λ w v. exact_order w.0 w.1 w.2 w.3 v;
  greater = λ w v. greater_order w.0 w.1 w.2 w.3 v;
  greater_equal = λ w v. greater_equal_order w.0 w.1 w.2 w.3 v;
  less = λ w v. less_order w.0 w.1 w.2 w.3 v;
  less_equal = λ w v. less_equal_order w.0 w.1 w.2 w.3 v;
}

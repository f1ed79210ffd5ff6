-- The span of a comparator holds exactly the releases of which the comparator holds.
use Rattle.std.proofs.Common.{◌≡◌, ◌∙◌, ℕ, zero, suc, sym, arith}
use Rattle.std.proofs.lemmas.Bool.{ne_eqb}
use Rattle.semver.specs.EvalViews.{view_op}
use Rattle.semver.specs.Parse.{Parts}
use Rattle.semver.specs.declared.Op.{Op}
use Rattle.semver.specs.declared.Op.TheVariants as op
use Rattle.vx_scheme.specs.Cuts.{in_spans}
use Rattle.vx_range.specs.Extents.{extent_spans, in_extent}
use Rattle.vx_range.specs.Laws.Extents.{extent_says}
use Rattle.cargo_range.specs.declared.construct.Partial.{Partial}
use Rattle.cargo_range.specs.declared.construct.Partial.TheVariants.{Major, Minor, Full}
use Rattle.cargo_range.specs.Version.{IsRelease}
use Rattle.cargo_range.specs.Order.{precedence, precedence_total}
use Rattle.cargo_range.specs.Holds.{held_by}
use Rattle.cargo_range.specs.Spans.{extent_by}
use Rattle.cargo_range.specs.Laws.Orders.{exact_order, greater_order, greater_equal_order, less_order, less_equal_order, tilde_order, caret_major, caret_minor, caret_patch, two_says, one_says}

caret_says : (w v : Parts) → IsRelease v → in_extent precedence (extent_by op.Caret (Full w)) v ≡ view_op op.Caret (held_by op.Caret (Full w)) v
caret_says (zero, zero, k, pre, build) v release = sym (caret_patch k pre v release)
caret_says (zero, suc j, k, pre, build) v release = rw (ne_eqb (suc j) 0 (omega arith)) (sym (caret_minor j k pre v release))
caret_says (suc i, j, k, pre, build) v release = rw (ne_eqb (suc i) 0 (omega arith)) (sym (caret_major i j k pre v release))

three_says : (o : Op) (w v : Parts) → IsRelease v → in_extent precedence (extent_by o (Full w)) v ≡ view_op o (held_by o (Full w)) v
three_says op.Exact w v release = sym (exact_order w.0 w.1 w.2 w.3 v)
three_says op.Wildcard w v release = sym (exact_order w.0 w.1 w.2 w.3 v)
three_says op.Greater w v release = sym (greater_order w.0 w.1 w.2 w.3 v)
three_says op.GreaterEq w v release = sym (greater_equal_order w.0 w.1 w.2 w.3 v)
three_says op.Less w v release = sym (less_order w.0 w.1 w.2 w.3 v)
three_says op.LessEq w v release = sym (less_equal_order w.0 w.1 w.2 w.3 v)
three_says op.Tilde w v release = sym (tilde_order w.0 w.1 w.2 w.3 v release)
three_says op.Caret w v release = caret_says w v release

row_says : (o : Op) (partial : Partial) (v : Parts) → IsRelease v → in_extent precedence (extent_by o partial) v ≡ view_op o (held_by o partial) v
row_says o (Full w) v release = three_says o w v release
row_says o (Minor i j) v release = sym (two_says o i j v release)
row_says o (Major i) v release = sym (one_says o i v release)

-- the table, whole
pub table_says : (o : Op) (mark : ℕ) (partial : Partial) (v : Parts) → IsRelease v
    → in_spans precedence (extent_spans mark (extent_by o partial)) v ≡ view_op o (held_by o partial) v
table_says o mark partial v release = extent_says precedence precedence_total mark (extent_by o partial) v ∙ row_says o partial v release

-- What Debian's table of relations promises.
use Rattle.std.proofs.Common.{◌≡◌, ◌||◌, ℕ, List, [], ◌∷◌, refl, ◌∙◌}
use Rattle.std.specs.Prelude.{⊤}
use Rattle.std.specs.List.{list_any}
use Rattle.std.proofs.lemmas.List.Folds.{list_any-append}
use Rattle.vx_spec.specs.Each.{joined}
use Rattle.vx_scheme.specs.declared.domain.Domain.{Domain}
use Rattle.vx_scheme.specs.declared.range_fault.EndKind.{EndKind}
use Rattle.vx_scheme.specs.Cuts.{cut_below, span_at, in_spans}
use Rattle.vx_scheme.specs.Native.{by_domain}
use Rattle.vx_range.specs.declared.making.Outcome.TheVariants as made
use Rattle.vx_range.specs.Making.{mark_behind, made_each}
use Rattle.deb_scheme.specs.Version.{Fields}
use Rattle.deb_scheme.specs.Spelling.{IsVersion}
use Rattle.deb_scheme.specs.Order.{order_of, order_total}
use Rattle.relation_ranges.specs.declared.comparison.Comparison.{Comparison}
use Rattle.relation_ranges.specs.declared.comparison.Strict.TheVariants.{Doubled}
use Rattle.relation_ranges.specs.Deb.Operators.{HasSigns}
use Rattle.relation_ranges.specs.Range.{relation_holds, relation_spans}
use Rattle.relation_ranges.specs.Deb.Reading.{DebRelation}
use Rattle.relation_ranges.specs.Deb.Holds.{holds}
use Rattle.relation_ranges.specs.Deb.Spans.{spans_of}
use Rattle.relation_ranges.specs.Deb.Refusals.{outcome}
use Rattle.relation_ranges.specs.Laws.Compared.{compared_says}
use Rattle.relation_ranges.specs.Laws.Comparison.{one_comparison}

pub one_operator : (signs : List ℕ) (a b : Comparison) → HasSigns a signs → HasSigns b signs → a ≡ b
one_operator = one_comparison Doubled

-- the span of a relation holds what the relation holds of
pub relation_says : (how : Comparison) (bound : Fields) (mark : ℕ) (v : Fields) → in_spans order_of (spans_of mark how bound) v ≡ holds how bound v
relation_says how bound mark v = compared_says order_of order_total how mark bound v

-- the spans of a term hold what some relation of the term holds of
pub term_says : (term : List DebRelation) (mark : ℕ) (v : Fields) → in_spans order_of (joined (made_each (relation_spans spans_of) mark term)) v ≡ list_any (λ relation. relation_holds holds relation v) term
term_says [] mark v = refl
term_says (relation ∷ term) mark v =
    list_any-append (span_at (λ cut. cut_below order_of cut v)) (spans_of mark relation.operator relation.version) (joined (made_each (relation_spans spans_of) (mark_behind (relation_spans spans_of) mark relation) term))
    ∙ (λ i. relation_says relation.operator relation.version mark v i || term_says term (mark_behind (relation_spans spans_of) mark relation) v i)

pub agrees : (domain : Domain) (mark : ℕ) (operator : Comparison) (bound v : Fields) → IsVersion v → by_domain (λ _. ⊤) (λ _. ⊤) domain v → outcome domain operator bound ≡ made.Spans → in_spans order_of (spans_of mark operator bound) v ≡ holds operator bound v
agrees domain mark operator bound v version within spans = relation_says operator bound mark v

-- no relation is without an end
pub deb_ends : (domain : Domain) (operator : Comparison) (bound : Fields) (kind : EndKind) → ¬ (outcome domain operator bound ≡ made.NoEnd kind)
deb_ends domain operator bound kind none = cc none

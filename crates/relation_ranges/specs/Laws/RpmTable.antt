-- What RPM's table of relations promises.
use Rattle.std.proofs.Common.{◌≡◌, ◌||◌, ◌&&◌, if◌then◌else◌, ℕ, Bool, true, false, List, refl, ap, ◌∙◌, inl, inr}
use Rattle.std.proofs.Math.Bool.{or-false, or-true, and-true}
use Rattle.std.proofs.lemmas.Bool.{cases_Bool}
use Rattle.std.specs.Option.{is_some}
use Rattle.vx_scheme.specs.declared.domain.Domain.{Domain}
use Rattle.vx_scheme.specs.declared.domain.Domain.TheVariants.{All, Releases}
use Rattle.vx_scheme.specs.declared.range_fault.EndKind.TheVariants as end_kind
use Rattle.vx_scheme.specs.declared.span.Cut.{Cut}
use Rattle.vx_scheme.specs.Cuts.{cut_below, in_spans, stands_below}
use Rattle.vx_scheme.specs.Native.{by_domain}
use Rattle.vx_range.specs.declared.making.Outcome.TheVariants as made
use Rattle.rpm_scheme.specs.Version.{Fields, HasRelease, IsWithoutRelease}
use Rattle.rpm_scheme.specs.Spelling.{IsVersion}
use Rattle.rpm_scheme.specs.Order.{order_of, order_total}
use Rattle.relation_ranges.specs.declared.comparison.Comparison.{Comparison}
use Rattle.relation_ranges.specs.declared.comparison.Strict.TheVariants.{Single}
use Rattle.relation_ranges.specs.Rpm.Reading.{HasSigns}
use Rattle.relation_ranges.specs.Rpm.Holds.{holds}
use Rattle.relation_ranges.specs.Rpm.Spans.{has_release, is_open, named_in, outcome, spans_of}
use Rattle.relation_ranges.specs.Rpm.Back.{moved}
use Rattle.relation_ranges.specs.Laws.Compared.{compared_says}
use Rattle.relation_ranges.specs.Laws.Comparison.{one_comparison}
use Rattle.relation_ranges.specs.Laws.RpmOrder.{none_of, released, same_named, unreleased}

pub one_operator : (signs : List ℕ) (a b : Comparison) → HasSigns a signs → HasSigns b signs → a ≡ b
one_operator = one_comparison Single

-- a relation that makes a span among the versions with a release
has_end : (is : Bool) → (if is then made.Spans else made.NoEnd end_kind.NoRelease) ≡ made.Spans → is ≡ true
has_end true e = refl
has_end false e = cc e

end_in : (domain : Domain) (how : Comparison) (bound : Fields) → outcome domain how bound ≡ made.Spans → domain ≡ All → (has_release bound || is_open how) ≡ true
end_in All how bound spans all = has_end (has_release bound || is_open how) spans
end_in Releases how bound spans all = cc all

-- what a relation makes in a domain holds the versions of the domain that it holds of
pub relation_says : (domain : Domain) (operator : Comparison) (bound : Fields) (mark : ℕ) (v : Fields) → by_domain HasRelease IsWithoutRelease domain v → outcome domain operator bound ≡ made.Spans → in_spans order_of (spans_of domain mark operator bound) v ≡ holds operator bound v
relation_says domain how bound mark v within spans =
    compared_says order_of order_total how mark (named_in domain bound) v ∙ same_named domain how bound v within (end_in domain how bound spans)

pub agrees : (domain : Domain) (mark : ℕ) (operator : Comparison) (bound v : Fields) → IsVersion v → by_domain HasRelease IsWithoutRelease domain v → outcome domain operator bound ≡ made.Spans → in_spans order_of (spans_of domain mark operator bound) v ≡ holds operator bound v
agrees domain mark operator bound v version within spans = relation_says domain operator bound mark v within spans

some_is : (bound : Fields) → has_release bound ≡ true → HasRelease bound
some_is bound is none = cc (is, ap (λ r. is_some r) none)

-- a moved cut stands below the same versions of the domain
pub moved_parts : (domain : Domain) (cut : Cut Fields) (v : Fields) → by_domain HasRelease IsWithoutRelease domain v → cut_below order_of (moved domain cut) v ≡ cut_below order_of cut v
moved_parts All cut v within = elim (cases_Bool (has_release cut.version)) [
  | inl is ↦ rw is (ap (stands_below (order_of cut.version v)) (and-true cut.after))
  | inr other ↦ unreleased cut.version v (cut.after && has_release cut.version) cut.after within (none_of cut.version.release other)
]
moved_parts Releases cut v within = elim (cases_Bool (has_release cut.version)) [
  | inl is ↦ rw (is, or-true cut.after) (released cut.version v cut.after within (some_is cut.version is))
  | inr other ↦ rw other (ap (stands_below (order_of cut.version v)) (or-false cut.after))
]

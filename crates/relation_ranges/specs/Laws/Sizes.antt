-- An operator and its version make two cuts at most, so a text makes at most twice as many cuts as it has relations.
use Rattle.std.proofs.Common.{◌≡◌, ◌≤◌, ◌*◌, ℕ, Bool, List, length, arith, Option, Some, None}
use Rattle.vx_text.specs.Past.{first_past}
use Rattle.vx_scheme.specs.declared.domain.Domain.{Domain}
use Rattle.vx_scheme.specs.declared.span.Span.{Span}
use Rattle.vx_scheme.specs.Cuts.{cuts_of}
use Rattle.vx_range.specs.declared.making.Outcome.{Outcome}
use Rattle.vx_range.specs.Sizes.{cut_count}
use Rattle.vx_range.specs.Laws.Sizes.{terms_are_short, one_count}
use Rattle.deb_scheme.specs.Version as deb_version
use Rattle.deb_scheme.specs.Spelling as deb_spelling
use Rattle.gem_scheme.specs.Version as gem_version
use Rattle.gem_scheme.specs.Spelling as gem_spelling
use Rattle.rpm_scheme.specs.Version as rpm_version
use Rattle.rpm_scheme.specs.Spelling as rpm_spelling
use Rattle.relation_ranges.specs.declared.comparison.Comparison.{Comparison}
use Rattle.relation_ranges.specs.declared.comparison.Comparison.TheVariants.{Less, LessOrEqual, Equal, GreaterOrEqual, Greater}
use Rattle.relation_ranges.specs.declared.gem.operators.Operator as gem_operator
use Rattle.relation_ranges.specs.declared.gem.operators.Operator.TheVariants as gem_of
use Rattle.relation_ranges.specs.Comparison as comparison
use Rattle.relation_ranges.specs.Reading.{IsCut, ReadsAs, IsPast}
use Rattle.relation_ranges.specs.Range.{Makes, relation_spans, relation_outcome}
use Rattle.relation_ranges.specs.Sizes.{HasConstructs}
use Rattle.relation_ranges.specs.Laws.DebRange as deb_laws
use Rattle.relation_ranges.specs.Laws.GemRange as gem_laws
use Rattle.relation_ranges.specs.Laws.RpmRange as rpm_laws
use Rattle.relation_ranges.specs.Deb.Operators as deb_operators
use Rattle.relation_ranges.specs.Deb.Reading as deb_reading
use Rattle.relation_ranges.specs.Deb.Spans as deb_spans
use Rattle.relation_ranges.specs.Deb.Refusals as deb_refusals
use Rattle.relation_ranges.specs.Deb.Range as deb
use Rattle.relation_ranges.specs.Deb.Sizes as deb_sizes
use Rattle.relation_ranges.specs.Gem.Operators as gem_operators
use Rattle.relation_ranges.specs.Gem.Reading as gem_reading
use Rattle.relation_ranges.specs.Gem.Spans as gem_spans
use Rattle.relation_ranges.specs.Gem.Range as gem
use Rattle.relation_ranges.specs.Gem.Sizes as gem_sizes
use Rattle.relation_ranges.specs.Rpm.Reading as rpm_reading
use Rattle.relation_ranges.specs.Rpm.Spans as rpm_spans
use Rattle.relation_ranges.specs.Rpm.Range as rpm
use Rattle.relation_ranges.specs.Rpm.Sizes as rpm_sizes

-- ---- each operator and its version

compared_two : {V : Type 0} (mark : ℕ) (how : Comparison) (bound : V) → length (cuts_of (comparison.spans_of mark how bound)) ≤ 2
compared_two mark Less bound = omega arith
compared_two mark LessOrEqual bound = omega arith
compared_two mark Equal bound = omega arith
compared_two mark GreaterOrEqual bound = omega arith
compared_two mark Greater bound = omega arith

gem_two : (mark : ℕ) (operator : gem_operator.Operator) (bound : gem_version.Fields) → length (cuts_of (gem_spans.spans_of mark operator bound)) ≤ 2
gem_two mark (gem_of.Compares how) bound = compared_two mark how bound
gem_two mark gem_of.NotEqual bound = omega arith
gem_two mark gem_of.Twiddle bound = omega arith

rpm_two : (domain : Domain) (mark : ℕ) (operator : Comparison) (bound : rpm_version.Fields) → length (cuts_of (rpm_spans.spans_of domain mark operator bound)) ≤ 2
rpm_two domain mark operator bound = compared_two mark operator (rpm_spans.named_in domain bound)

-- ---- texts

-- of any table whose operators make two cuts at most
relations_are_short : {O V : Type 0} (bar : Option ℕ) (is_sign : ℕ → Bool) (HasSigns : O → List ℕ → Type 0) (Spells : List ℕ → V → Type 0)
    (first_past : ℕ → List ℕ → Option ℕ) (outcome : Domain → O → V → Outcome) (spans : Domain → ℕ → O → V → List (Span V))
    → ((domain : Domain) (mark : ℕ) (operator : O) (bound : V) → length (cuts_of (spans domain mark operator bound)) ≤ 2)
    → (domain : Domain) (text : List ℕ) (bounds : List (List (List (Span V)))) → Makes bar is_sign HasSigns Spells first_past outcome spans domain text bounds
    → (n : ℕ) × HasConstructs bar is_sign HasSigns Spells text n × (cut_count bounds ≤ 2 * n)
relations_are_short bar is_sign HasSigns Spells first_past outcome spans two domain text bounds makes =
    terms_are_short (relation_spans (spans domain)) (λ mark relation. two domain mark relation.operator relation.version)
    (IsCut bar) (ReadsAs is_sign HasSigns Spells) (IsPast is_sign HasSigns Spells first_past) (relation_outcome (outcome domain)) text bounds makes

pub deb_short : (domain : Domain) (text : List ℕ) (bounds : List (List (List (Span deb_version.Fields)))) → deb.Makes domain text bounds
    → (n : ℕ) × deb_sizes.HasConstructs text n × (cut_count bounds ≤ 2 * n)
deb_short = relations_are_short (Some deb_operators.bar) comparison.is_sign deb_operators.HasSigns deb_spelling.Spells first_past deb_refusals.outcome (λ domain. deb_spans.spans_of) (λ domain. compared_two)

pub gem_short : (domain : Domain) (text : List ℕ) (bounds : List (List (List (Span gem_version.Fields)))) → gem.Makes domain text bounds
    → (n : ℕ) × gem_sizes.HasConstructs text n × (cut_count bounds ≤ 2 * n)
gem_short = relations_are_short None gem_operators.is_sign gem_operators.HasSigns gem_spelling.Spells first_past gem_spans.outcome (λ domain. gem_spans.spans_of) (λ domain. gem_two)

pub rpm_short : (domain : Domain) (text : List ℕ) (bounds : List (List (List (Span rpm_version.Fields)))) → rpm.Makes domain text bounds
    → (n : ℕ) × rpm_sizes.HasConstructs text n × (cut_count bounds ≤ 2 * n)
rpm_short = relations_are_short None comparison.is_sign rpm_reading.HasSigns rpm_spelling.Spells first_past rpm_spans.outcome rpm_spans.spans_of rpm_two

-- ---- one number of relations

pub deb_one : (text : List ℕ) (a b : ℕ) → deb_sizes.HasConstructs text a → deb_sizes.HasConstructs text b → a ≡ b
deb_one text = one_count deb_reading.IsCut deb_reading.ReadsAs text (deb_laws.one_reads text)

pub gem_one : (text : List ℕ) (a b : ℕ) → gem_sizes.HasConstructs text a → gem_sizes.HasConstructs text b → a ≡ b
gem_one text = one_count gem_reading.IsCut gem_reading.ReadsAs text (gem_laws.one_reads text)

pub rpm_one : (text : List ℕ) (a b : ℕ) → rpm_sizes.HasConstructs text a → rpm_sizes.HasConstructs text b → a ≡ b
rpm_one text = one_count rpm_reading.IsCut rpm_reading.ReadsAs text (rpm_laws.one_reads text)

-- What RubyGems' table of requirements promises.
use Rattle.std.proofs.Common.{◌≡◌, ◌||◌, ◌&&◌, ◌+◌, ◌==◌, if◌then◌else◌, not, ℕ, suc, true, List, [], ◌∷◌, refl, sym, ap, ◌∙◌, inl, inr, take, arith}
use Rattle.std.specs.Prelude.{⊤}
use Rattle.std.specs.List.{list_all, prefix_len}
use Rattle.std.specs.Ordering.{is_eq, is_ge, is_lt}
use Rattle.std.proofs.Math.Bool.{or-false, and-true}
use Rattle.vx_scheme.specs.declared.domain.Domain.{Domain}
use Rattle.vx_scheme.specs.declared.domain.Domain.TheVariants.{All, Releases}
use Rattle.vx_scheme.specs.declared.ident.Ident.{Ident}
use Rattle.vx_scheme.specs.declared.ident.Ident.TheVariants.{Number, Word}
use Rattle.vx_scheme.specs.Cuts.{in_spans}
use Rattle.vx_scheme.specs.Native.{by_domain}
use Rattle.vx_range.specs.declared.making.Outcome.TheVariants as made
use Rattle.vx_range.specs.Laws.Points as points
use Rattle.gem_scheme.specs.Version.{Fields, IsRelease, IsVersion, bump_of, front, is_number, release_of}
use Rattle.gem_scheme.specs.Order.{order_of, order_total}
use Rattle.relation_ranges.specs.declared.comparison.Comparison.TheVariants.{Less, LessOrEqual, Equal, GreaterOrEqual, Greater}
use Rattle.relation_ranges.specs.declared.gem.operators.Operator.{Operator}
use Rattle.relation_ranges.specs.declared.gem.operators.Operator.TheVariants.{Compares, NotEqual, Twiddle}
use Rattle.relation_ranges.specs.Gem.Operators.{HasSigns, signs_of}
use Rattle.relation_ranges.specs.Gem.Holds.{holds}
use Rattle.relation_ranges.specs.Gem.Spans.{outcome, spans_of}
use Rattle.relation_ranges.specs.Laws.Compared.{compared_says}
use Rattle.relation_ranges.specs.Laws.Comparison.{comparison_by, sum_of}
use Rattle.vx_range.specs.Laws.Gaps.{apart_is}

-- an operator is told by the sum of its signs
abbrev operator_by : ℕ → Operator
operator_by n = if n == 94 then NotEqual else (if n == 188 then Twiddle else Compares (comparison_by n))

operator_back : (a : Operator) → operator_by (sum_of (signs_of a)) ≡ a
operator_back (Compares Less) = refl
operator_back (Compares LessOrEqual) = refl
operator_back (Compares Equal) = refl
operator_back (Compares GreaterOrEqual) = refl
operator_back (Compares Greater) = refl
operator_back NotEqual = refl
operator_back Twiddle = refl

told : (signs : List ℕ) (a : Operator) → HasSigns a signs → operator_by (sum_of signs) ≡ a
told signs a (inl is) = ap (λ s. operator_by (sum_of s)) is ∙ operator_back a
told signs a (inr none) = ap (λ s. operator_by (sum_of s)) none.0 ∙ sym none.1

pub one_operator : (signs : List ℕ) (a b : Operator) → HasSigns a signs → HasSigns b signs → a ≡ b
one_operator signs a b p q = sym (told signs a p) ∙ told signs b q

-- a release has no word to drop
all_front : (segments : List Ident) → list_all is_number segments ≡ true → front segments ≡ segments
all_front [] all = refl
all_front (Number n ∷ segments) all =
    let step : 1 + prefix_len is_number segments ≡ suc (prefix_len is_number segments) = omega arith in
    ap (λ k. take k (Number n ∷ segments)) step ∙ ap (λ rest. Number n ∷ rest) (all_front segments all)
all_front (Word w ∷ segments) all = cc all

pub release_is : (v : Fields) → IsRelease v → release_of v ≡ v
release_is v is = λ i. record { segments = all_front v.segments is i }

others_say : (mark : ℕ) (bound v : Fields) → in_spans order_of (spans_of mark NotEqual bound) v ≡ not (is_eq (order_of v bound))
others_say mark bound v =
    (λ i. points.under_before order_of order_total bound v i || (or-false _ ∙ and-true _ ∙ points.over_after order_of order_total bound v) i) ∙ apart_is (order_of v bound)

-- what a requirement makes in a domain holds the versions of the domain that it holds of
pub requirement_says : (domain : Domain) (operator : Operator) (bound : Fields) (mark : ℕ) (v : Fields) → by_domain (λ _. ⊤) IsRelease domain v → outcome domain operator bound ≡ made.Spans → in_spans order_of (spans_of mark operator bound) v ≡ holds operator bound v
requirement_says domain (Compares how) bound mark v within spans = compared_says order_of order_total how mark bound v
requirement_says domain NotEqual bound mark v within spans = others_say mark bound v
requirement_says All Twiddle bound mark v within spans = cc spans
requirement_says Releases Twiddle bound mark v within spans =
    points.between_says order_of order_total mark bound (bump_of bound) v
    ∙ ap (λ w. is_ge (order_of v bound) && is_lt (order_of w (bump_of bound))) (sym (release_is v within))

pub agrees : (domain : Domain) (mark : ℕ) (operator : Operator) (bound v : Fields) → IsVersion v → by_domain (λ _. ⊤) IsRelease domain v → outcome domain operator bound ≡ made.Spans → in_spans order_of (spans_of mark operator bound) v ≡ holds operator bound v
agrees domain mark operator bound v version within spans = requirement_says domain operator bound mark v within spans

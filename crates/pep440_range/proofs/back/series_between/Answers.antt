use Rattle.std.proofs.Common.{◌≡◌, ◌∙◌, ap, sym, rules, true, false}
use Rattle.std.specs.Ordering.{is_eq}
use Rattle.pep440_scheme.specs.Order.{order_of}
use Rattle.pep440_scheme.specs.Next.{bump_of}
use Rattle.pep440_range.specs.Spans.{end_of, lowest_in}
use Rattle.pep440_range.specs.Back.{series_before}
use Rattle.pep440_range.specs.Holds.{release_of}
use Rattle.pep440_range.proofs.BackLaws.{series_again, series_is, series_not_end}
use Rattle.pep440_range.proofs.back.series_between.Goals as goal

pub returns-then-not-is_eq : goal.returns-then-not-is_eq
returns-then-not-is_eq c =
    let upper = c.args.upper.now.version in
    let series = rw c.in-Some.is at c.in_ok-series.ensures in
    let end : c.lowest_in-behind.result ≡ end_of c.args.domain (series_before upper) = c.lowest_in-behind.ensures ∙ ap (lowest_in c.args.domain) (c.in-Ok.ensures.ok ∙ ap bump_of series.0.1) in
    let told : c.is_eq.result ≡ false = search rules in
    let apart : is_eq (order_of upper (end_of c.args.domain (series_before upper))) ≡ false =
    ap (λ v. is_eq (order_of upper v)) (sym end) ∙ ap is_eq (sym c.compare.ensures.order) ∙ sym c.is_eq.ensures ∙ told in
    series_not_end c.args.domain c.args.lower.now c.args.upper.now apart

pub returns : goal.returns
returns c =
    let lower = c.args.lower.now.version in
    let upper = c.args.upper.now.version in
    let series = rw c.in-Some.is at c.in_ok-series.ensures in
    let end : c.lowest_in-behind.result ≡ end_of c.args.domain (series_before upper) = c.lowest_in-behind.ensures ∙ ap (lowest_in c.args.domain) (c.in-Ok.ensures.ok ∙ ap bump_of series.0.1) in
    let start : c.lowest_in-lowest.result ≡ lowest_in c.args.domain (series_before upper) = c.lowest_in-lowest.ensures ∙ ap (lowest_in c.args.domain) series.0.1 in
    let told : c.is_eq.result ≡ true = search rules in
    let also : c.is_eq-2.result ≡ true = search rules in
    let ends : is_eq (order_of upper (end_of c.args.domain (series_before upper))) ≡ true =
    ap (λ v. is_eq (order_of upper v)) (sym end) ∙ ap is_eq (sym c.compare.ensures.order) ∙ sym c.is_eq.ensures ∙ told in
    let starts : is_eq (order_of lower (lowest_in c.args.domain (series_before upper))) ≡ true =
    ap (λ v. is_eq (order_of lower v)) (sym start) ∙ ap is_eq (sym c.compare-2.ensures.order) ∙ sym c.is_eq-2.ensures ∙ also in (
      series_is c.args.domain c.args.lower.now c.args.upper.now (search rules) (search rules) series.0.0 starts ends,
      c.release_alone.ensures ∙ ap (λ v. release_of v.epoch v.release) start ∙ series_again c.args.domain upper,
    )

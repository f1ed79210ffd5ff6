use Rattle.std.proofs.Common.{ap, ◌∙◌}
use Rattle.gem_scheme.specs.Version.{bump_of, front, shortened}
use Rattle.gem_scheme.proofs.SegmentLaws.{bump_version, bump_within, made_is, raised_small}
use Rattle.gem_scheme.proofs.steps.bump.Goals as goal

pub invariant_of-result : goal.invariant_of-result
invariant_of-result c =
    let xs = c.version.inside.segments in
    let is = c.version.invariant in
    let series = c.series-numbers.ensures ∙ ap (λ s. shortened (front s)) c.as_slice.ensures in
    let made = made_is xs is.0 c.series-numbers.result.now series c.last_number.result c.last_number.ensures c.in-Some.raised c.in-Some.ensures.1 c.in_ok-segments.segments c.in_ok-segments.ensures in
    rw made (bump_version xs is.0, bump_within xs is.0 is.1 (raised_small xs is.0 c.series-numbers.result.now series c.last_number.result c.last_number.ensures c.in-Some.ensures.0))

pub returns-clause-ok : goal.returns-clause-ok
returns-clause-ok c =
    let xs = c.version.inside.segments in
    let is = c.version.invariant in
    let series = c.series-numbers.ensures ∙ ap (λ s. shortened (front s)) c.as_slice.ensures in
    let made = made_is xs is.0 c.series-numbers.result.now series c.last_number.result c.last_number.ensures c.in-Some.raised c.in-Some.ensures.1 c.in_ok-segments.segments c.in_ok-segments.ensures in (
      (λ i. record { segments = made i }) ∙ ap bump_of c.version.view_is,
      rw (← c.version.view_is) (raised_small xs is.0 c.series-numbers.result.now series c.last_number.result c.last_number.ensures c.in-Some.ensures.0),
    )

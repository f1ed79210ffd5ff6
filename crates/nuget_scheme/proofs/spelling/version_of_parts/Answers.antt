use Rattle.std.proofs.Common.{refl}
use Rattle.nuget_scheme.specs.Laws.Texts.{formed}
use Rattle.nuget_scheme.specs.Steps.Written.{parts}
use Rattle.nuget_scheme.proofs.Making.{four_numbers}
use Rattle.nuget_scheme.proofs.spelling.version_of_parts.Goals as goal

-- what the parts stand for has the form
pub invariant_of-result : goal.invariant_of-result
invariant_of-result c = (
  record { labels = rw c.in_ok-labels.ensures.0 (formed (parts c.args.written.now) c.requires).labels },
  (c.in_ok-major.ensures.ok.small, c.in_ok-minor.ensures.ok.small, c.in_ok-patch.ensures.ok.small, c.in_ok-fourth.ensures.ok.small, rw c.in_ok-labels.ensures.0 c.in_ok-labels.ensures.1),
)

pub returns : goal.returns
returns c =
    let n = four_numbers c.in_ok-major.ensures.ok c.in_ok-minor.ensures.ok c.in_ok-patch.ensures.ok c.in_ok-fourth.ensures.ok in (
      rw (n.0, n.1, n.2, n.3, c.in_ok-labels.ensures.0) refl,
      (rw (← n.0) c.in_ok-major.ensures.ok.small, rw (← n.1) c.in_ok-minor.ensures.ok.small, rw (← n.2) c.in_ok-patch.ensures.ok.small, rw (← n.3) c.in_ok-fourth.ensures.ok.small, c.in_ok-labels.ensures.1),
    )

use Rattle.pep440_scheme.specs.Steps.Written.{parts}
use Rattle.pep440_scheme.proofs.Found.{formed_taken}
use Rattle.pep440_scheme.proofs.spelling.version_of_parts.Goals as goal

-- what the parts stand for has the form
pub invariant_of-result : goal.invariant_of-result
invariant_of-result c =
    rw (c.in_ok-epoch.ensures.0, c.in_ok-release.ensures.0, c.in_ok-pre.ensures.0, c.in_ok-post.ensures.0, c.in_ok-dev.ensures.0, c.in_ok-local.ensures.0) (
      formed_taken (parts c.args.written.now) c.requires,
      record {
        epoch = c.in_ok-epoch.ensures.1;
        release = c.in_ok-release.ensures.1;
        pre = c.in_ok-pre.ensures.1;
        post = c.in_ok-post.ensures.1;
        dev = c.in_ok-dev.ensures.1;
        local = c.in_ok-local.ensures.1;
      },
    )

-- Precedence after Semantic Versioning 2.0, item 11, as `Version::cmp_precedence` of `semver` has it: by the three numbers,
-- then by the pre-release; the build counts for nothing.
use Rattle.std.specs.Ordering.{nat_cmp, ordering_then}
use Rattle.std.specs.Cmp.{IsTotalOrder, on_total, then_total, nat_cmp_total}
use Rattle.std.specs.declared.cmp.Ordering.{Ordering}
use Rattle.semver.specs.Parse.{Parts}
use Rattle.semver.specs.Order.{pre_cmp}
use Rattle.semver.specs.OrderLaws.{pre_total}

abbrev pub precedence : Parts → Parts → Ordering
precedence a b = ordering_then (nat_cmp a.0 b.0) (ordering_then (nat_cmp a.1 b.1) (ordering_then (nat_cmp a.2 b.2) (pre_cmp a.3 b.3)))

pub precedence_total : IsTotalOrder precedence
precedence_total = then_total (on_total (λ (v : Parts). v.0) nat_cmp_total) (then_total (on_total (λ (v : Parts). v.1) nat_cmp_total)
    (then_total (on_total (λ (v : Parts). v.2) nat_cmp_total) (on_total (λ (v : Parts). v.3) pre_total)))

use Rattle.purl_core.proofs.Refused.{no_scheme, no_type, no_behind, no_segment}
use Rattle.purl_core.proofs.cutting.cut_raw.Goals as goal

pub returns-in_default : goal.returns-in_default
returns-in_default c = no_scheme c.cut_ends.ensures c.in_default.ensures

pub returns-in_default-cut_type : goal.returns-in_default-cut_type
returns-in_default-cut_type c =
    (record { body = _; qualifiers = _; subpath = _; scheme = _; rest = _; ended = c.cut_ends.ensures; scheme_is = c.in-Some.ensures }, no_type c.cut_ends.ensures c.in-Some.ensures c.in_default-cut_type.ensures)

pub returns-in_default-behind : goal.returns-in_default-behind
returns-in_default-behind c =
    let type = rw c.in_default-behind.is at c.in-Some-cut_type.ensures in (
      record { body = _; qualifiers = _; subpath = _; scheme = _; rest = _; slashes = _; kind = _; behind = _; ended = c.cut_ends.ensures; scheme_is = c.in-Some.ensures; type_is = type },
      no_behind c.cut_ends.ensures c.in-Some.ensures type,
    )

pub returns-else-has_segment : goal.returns-else-has_segment
returns-else-has_segment c =
    let type = rw c.in-Some-behind.is at c.in-Some-cut_type.ensures in (
      record { body = _; qualifiers = _; subpath = _; scheme = _; rest = _; slashes = _; kind = _; behind = _; ended = c.cut_ends.ensures; scheme_is = c.in-Some.ensures; type_is = type },
      no_segment c.cut_ends.ensures c.in-Some.ensures type c.version_cut.ensures (λ h. let t = c.has_segment.ensures.1 h in cc (t, c.if-has_segment.false)),
    )

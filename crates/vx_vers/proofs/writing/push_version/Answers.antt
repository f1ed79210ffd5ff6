use Rattle.std.proofs.Common.{◌∙◌, ◌++◌, ap, sym, length}
use Rattle.vx_vers.proofs.VersionLaws.{left_escaped, left_tail, left_writable}
use Rattle.vx_vers.proofs.writing.push_version.Goals as goal

pub returns-then-is_left-clause-text : goal.returns-then-is_left-clause-text
returns-then-is_left-clause-text g c =
    let out = c.args.out.now in
    let normal = g.S.Scheme.normal c.args.version.now in
    let left = left_tail out normal c.as_bytes.result.now _ (ap length c.as_str-start.ensures) (c.as_bytes.ensures.value ∙ c.as_str.ensures ∙ c.in_ok-write.ensures.ok) (sym c.is_left.ensures ∙ c.if-is_left.true) in
    c.in_ok-write.ensures.ok ∙ ap (λ t. out ++ t) (sym (left_escaped normal left))

pub returns-then-is_left-clause-version : goal.returns-then-is_left-clause-version
returns-then-is_left-clause-version g c =
    let out = c.args.out.now in
    let normal = g.S.Scheme.normal c.args.version.now in
    let left = left_tail out normal c.as_bytes.result.now _ (ap length c.as_str-start.ensures) (c.as_bytes.ensures.value ∙ c.as_str.ensures ∙ c.in_ok-write.ensures.ok) (sym c.is_left.ensures ∙ c.if-is_left.true) in
    left_writable g.S.Scheme.IsVersion g.S.Scheme.IsWithin g.S.Scheme.normal c.args.version.now c.in_ok-write.ensures.version.0 c.in_ok-write.ensures.version.1 left

use Rattle.std.proofs.Common.{◌≡◌, ◌∙◌, ap, subst, rules}
use Rattle.purl_core.specs.Value.{IsValid, Package}
use Rattle.purl_types.specs.Table.{row_of}
use Rattle.purl_types.proofs.SameLaws.{same_parts}
use Rattle.purl_types.proofs.comparing.is_same.Goals as goal

pub returns-then-same_path : goal.returns-then-same_path
returns-then-same_path c =
    let kind : c.args.a.now.kind ≡ c.args.b.now.kind = search rules in
    let row : c.row_of-row.result ≡ row_of c.args.a.now.kind = c.row_of-row.ensures ∙ ap row_of (c.as_str-3.ensures ∙ ap (λ (p : Package). p.kind) c.a.view_is) in
    let first = subst IsValid c.a.view_is c.a.invariant in
    let second = subst IsValid c.b.view_is c.b.invariant in
    let same = same_parts c.args.a.now c.args.b.now c.row_of-row.result first.ascending second.ascending row kind in (
      (λ told. same.0 (c.same_path.ensures.0 c.if-same_path.true, c.equal_rest.ensures.0 told)),
      (λ is. c.equal_rest.ensures.1 (same.1 is).1),
    )

use Rattle.std.proofs.Common.{◌≢◌, ◌≡◌, ap, ◌∙◌, subst, MatchOption}
use Rattle.purl_core.specs.Value.{Package}
use Rattle.vx_scheme.specs.Names.{text_of}
use Rattle.vx_scheme.specs.declared.name.SchemeName.{SchemeName}
use Rattle.purl_types.proofs.naming.scheme_of.Goals as goal

pub returns-clause-named : goal.returns-clause-named
returns-clause-named c =
    subst (λ kind. MatchOption c.named.result ((name : SchemeName) → text_of name ≢ kind) (λ name. text_of name ≡ kind))
    (c.as_str.ensures ∙ ap (λ (p : Package). p.kind) c.purl.view_is) c.named.ensures.by_name

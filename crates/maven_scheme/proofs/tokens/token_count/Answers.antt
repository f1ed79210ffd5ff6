use Rattle.std.proofs.Common.{rules, ◌≢◌, ◌<◌, ℕ, List, [], length, ap, sym, ◌∙◌, subst}
use Rattle.maven_scheme.specs.Tokens.{behind_front}
use Rattle.maven_scheme.proofs.TokenLaws.{behind_shorter}
use Rattle.maven_scheme.proofs.tokens.token_count.Goals as goal

pub tokens-smaller : goal.tokens-smaller
tokens-smaller c =
    let some : c.tokens.rest.now ≢ [] = search rules in
    subst (λ (t : List ℕ). length t < length c.tokens.rest.now) (sym (c.cut_token-in-tokens.ensures.rest ∙ ap behind_front c.cut_separator-is_dotted.ensures.text))
    (behind_shorter c.tokens.rest.now some)

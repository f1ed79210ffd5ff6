use Rattle.std.proofs.Common.{◌∙◌, ◌&&◌, ap, sym, not, eqb}
use Rattle.std.specs.Char.{is_ascii_uppercase}
use Rattle.std.specs.List.{list_all}
use Rattle.purl_types.proofs.FoldLaws.{text_dashed}
use Rattle.purl_types.proofs.folding.dash_text.Goals as goal

pub returns-else-not-has_dashes : goal.returns-else-not-has_dashes
returns-else-not-has_dashes c =
    let bytes = c.as_bytes.ensures.value ∙ c.as_str.ensures in
    sym (text_dashed c.args.text.now (sym (ap (list_all (λ b. not (is_ascii_uppercase b) && not (eqb b 95))) bytes) ∙ sym c.has_dashes.ensures ∙ c.if-not-has_dashes.false))

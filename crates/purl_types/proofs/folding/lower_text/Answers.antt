use Rattle.std.proofs.Common.{◌∙◌, ap, sym, not}
use Rattle.std.specs.Char.{is_ascii_uppercase}
use Rattle.std.specs.List.{list_all}
use Rattle.purl_types.proofs.FoldLaws.{text_low}
use Rattle.purl_types.proofs.folding.lower_text.Goals as goal

pub returns-else-not-is_low : goal.returns-else-not-is_low
returns-else-not-is_low c =
    let bytes = c.as_bytes.ensures.value ∙ c.as_str.ensures in
    sym (text_low c.args.text.now (sym (ap (list_all (λ b. not (is_ascii_uppercase b))) bytes) ∙ sym c.is_low.ensures ∙ c.if-not-is_low.false))
